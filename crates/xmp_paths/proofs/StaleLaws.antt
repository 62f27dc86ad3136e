-- The last event that marks a copy decides, as a walk from the first event on does.
use Rattle.std.proofs.Common.{◌≡◌, ◌≢◌, ℕ, suc, Bool, true, false, ◌||◌, ◌&&◌, not, List, [], ◌∷◌, ◌⊎◌, inl, inr, refl, ap, ◌∙◌, arith, ◌↔◌, cond, ⊎_elim, nat_eq}
use Rattle.std.proofs.lemmas.Bool.{false≢true, eqb-true, eqb-false, eq-eqb, ne_eqb}
use Rattle.std.proofs.lemmas.List.Elements.{All-cons, All-nil}
use Rattle.std.specs.List.{All}
use Rattle.xmp_paths.specs.NodeSets.{has}
use Rattle.xmp_paths.specs.Stale.{MakesStale, LeavesAlone, IsLeftStale}
use Rattle.xmp_paths.specs.Walk.{after_event, after_events}
use Rattle.xmp_paths.proofs.PathLaws.{walk-append}
use Rattle.xmp_paths.specs.declared.event.Event.{Event}
use Rattle.xmp_paths.specs.declared.event.Event.TheVariants.{Read, Wrong, Mark}

module _ (object node : ℕ) where
  event_alone : (e : Event) (was : Bool) → LeavesAlone object node e → after_event object node e was ≡ was
  event_alone (Read target nodes rule at) was h = refl
  event_alone (Wrong rule at) was h = refl
  event_alone (Mark target current stale) was (inl ne) = ap (λ t. cond t (has stale node || (not (has current node) && was)) was) (ne_eqb target object ne)
  event_alone (Mark target current stale) was (inr h) = at (nat_eq target object)
    where
      at : (t : Bool) → cond t (has stale node || (not (has current node) && was)) was ≡ was
      at false = refl
      at true = ap (λ s. s || (not (has current node) && was)) h.0 ∙ ap (λ c. not c && was) h.1

  walk_alone : (es : List Event) (was : Bool) → All (LeavesAlone object node) es → after_events object node es was ≡ was
  walk_alone [] was h = refl
  walk_alone (e ∷ es) was h =
      ap (after_events object node es) (event_alone e was (h 0 e (omega arith))) ∙ walk_alone es was (λ k d l. h (suc k) d (omega arith))

  event_stale : (e : Event) (was : Bool) → MakesStale object node e → after_event object node e was ≡ true
  event_stale (Read target nodes rule at) was h = absurd h
  event_stale (Wrong rule at) was h = absurd h
  event_stale (Mark target current stale) was h =
      ap (λ t. cond t (has stale node || (not (has current node) && was)) was) (eq-eqb target object h.0)
      ∙ ap (λ s. s || (not (has current node) && was)) h.1

  -- what is left out of date is so after the walk
  pub left_walk : (es : List Event) (was : Bool) → IsLeftStale object node es → after_events object node es was ≡ true
  left_walk es was w =
      ap (λ l. after_events object node l was) w.whole
      ∙ (walk-append object node w.before (w.last ∷ w.after) was
      ∙ (ap (after_events object node w.after) (event_stale w.last (after_events object node w.before was) w.makes_stale)
      ∙ walk_alone w.after true w.alone))

  event_cases : (e : Event) (was : Bool) → after_event object node e was ≡ true → MakesStale object node e ⊎ (LeavesAlone object node e × (was ≡ true))
  event_cases (Read target nodes rule at) was h = inr (tt, h)
  event_cases (Wrong rule at) was h = inr (tt, h)
  event_cases (Mark target current stale) was h =
      at (nat_eq target object) (has stale node) (has current node) refl refl refl h
    where
      at : (t s c : Bool) → nat_eq target object ≡ t → has stale node ≡ s → has current node ≡ c → cond t (s || (not c && was)) was ≡ true →
          ((target ≡ object) × (has stale node ≡ true)) ⊎ (((target ≢ object) ⊎ ((has stale node ≡ false) × (has current node ≡ false))) × (was ≡ true))
      at false s c p q r h = inr (inl (eqb-false target object p), h)
      at true true c p q r h = inl (eqb-true target object p, q)
      at true false true p q r h = absurd (false≢true h)
      at true false false p q r h = inr (inr (q, r), h)

  -- a copy is out of date after the walk where the events leave it so, or where it was before and they leave it alone
  pub walk_cases : (es : List Event) (was : Bool) → after_events object node es was ≡ true →
      (All (LeavesAlone object node) es × (was ≡ true)) ⊎ IsLeftStale object node es
  walk_cases [] was h = inl (All-nil (LeavesAlone object node), h)
  walk_cases (e ∷ es) was h =
      ⊎_elim
      (λ w. ⊎_elim
      (λ m. inr (record { before = []; last = e; after = es; whole = refl; makes_stale = m; alone = w.0 }))
      (λ a. inl (All-cons (LeavesAlone object node) e es a.0 w.0, a.1))
      (event_cases e was w.1))
      (λ w. inr (record {
        before = e ∷ w.before;
        last = w.last;
        after = w.after;
        whole = ap (λ l. e ∷ l) w.whole;
        makes_stale = w.makes_stale;
        alone = w.alone;
      }))
      (walk_cases es (after_event object node e was) h)

  pub walk_left : (es : List Event) → after_events object node es false ≡ true → IsLeftStale object node es
  walk_left es h = ⊎_elim (λ w. absurd (false≢true w.1)) (λ w. w) (walk_cases es false h)

-- a copy that is out of date at the start, and that no event puts out of date, is so after them exactly where all leave it alone
pub stale_until : (object node : ℕ) (events : List Event) → (IsLeftStale object node events → ⊥) →
    (after_events object node events true ≡ true) ↔ All (LeavesAlone object node) events
stale_until object node events none = (
  λ h. ⊎_elim (λ w. w.0) (λ w. absurd (none w)) (walk_cases object node events true h),
  λ a. walk_alone object node events true a,
)
