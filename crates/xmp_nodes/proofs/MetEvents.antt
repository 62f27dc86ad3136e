-- What stands in a plan is met on some way through it: in a safe plan without marks each read of the node is current.
use Rattle.std.proofs.Common.{◌≡◌, ℕ, zero, suc, Bool, true, false, List, [], ◌∷◌, ◌++◌, inl, inr, refl, sym, ap, ◌∙◌, subst, append_assoc, append-nil, ⊎_elim}
use Rattle.std.specs.List.{AllByRecursion}
use Rattle.xmp_paths.specs.NodeSets.{has}
use Rattle.xmp_paths.specs.Plans.{Plan, skip, emit, sequence, branch, loop, in_order, Path, Repeated, Stands}
use Rattle.xmp_paths.specs.Walk.{after_event, after_events}
use Rattle.xmp_paths.specs.Safe.{Safe, NothingWrong}
use Rattle.xmp_paths.proofs.PathLaws.{some_path, walk-append}
use Rattle.xmp_paths.specs.declared.event.Event.{Event}
use Rattle.xmp_paths.specs.declared.event.Event.TheVariants.{Read, Wrong, Mark}

-- something holds of each event that stands in a plan
abbrev pub EachEvent : (Event → Type 0) → Plan Event → Type 0
EachEvent Q p = (e : Event) → Stands p e → Q e

abbrev pub EachOf : (Event → Type 0) → List (Plan Event) → Type 0
EachOf Q ps = AllByRecursion (EachEvent Q) ps

-- the event marks no copy
abbrev pub NoMark : Event → Type 0
NoMark (Read object nodes rule at) = Unit {0}
NoMark (Wrong rule at) = Unit {0}
NoMark (Mark object current stale) = ⊥

-- what is asked of an event at a node: what it reads is current, and nothing is wrong
abbrev pub IsFine : (node : ℕ) → (ℕ → Bool) → Event → Type 0
IsFine node stale (Read object nodes rule at) = has nodes node ≡ true → stale object ≡ false
IsFine node stale (Wrong rule at) = ⊥
IsFine node stale (Mark object current out) = Unit {0}

module _ (Q : Event → Type 0) where
  pub each_ordered : (ps : List (Plan Event)) → EachEvent Q (in_order ps) → EachOf Q ps
  each_ordered [] h = tt
  each_ordered (p ∷ ps) h = ((λ e s. h e (inl s)), each_ordered ps (λ e s. h e (inr s)))

  pub ordered_each : (ps : List (Plan Event)) → EachOf Q ps → EachEvent Q (in_order ps)
  ordered_each [] h e s = absurd s
  ordered_each (p ∷ ps) h e s = ⊎_elim (λ a. h.0 e a) (λ b. ordered_each ps h.1 e b) s

  pub each_skip : EachEvent Q skip
  each_skip e s = absurd s

  pub each_emit : (x : Event) → Q x → EachEvent Q (emit x)
  each_emit x q e s = subst Q s q

  pub emit_each : (x : Event) → EachEvent Q (emit x) → Q x
  emit_each x h = h x refl

  pub each_branch : (p q : Plan Event) → EachEvent Q p → EachEvent Q q → EachEvent Q (branch p q)
  each_branch p q a b e s = ⊎_elim (a e) (b e) s

pub all_together : {A : Type 0} (P : A → Type 0) (xs ys : List A) → AllByRecursion P xs → AllByRecursion P ys → AllByRecursion P (xs ++ ys)
all_together P [] ys a b = b
all_together P (x ∷ xs) ys a b = (a.0, all_together P xs ys a.1 b)

-- ---- ways without marks

module _ (object node : ℕ) where
  unmarked_event : (e : Event) (was : Bool) → NoMark e → after_event object node e was ≡ was
  unmarked_event (Read target nodes rule at) was h = refl
  unmarked_event (Wrong rule at) was h = refl
  unmarked_event (Mark target current stale) was h = absurd h

  unmarked_turns : (P : List Event → Type 0) → ((es : List Event) (was : Bool) → P es → after_events object node es was ≡ was)
      → (n : ℕ) (es : List Event) (was : Bool) → Repeated P n es → after_events object node es was ≡ was
  unmarked_turns P h zero es was r = ap (λ l. after_events object node l was) r
  unmarked_turns P h (suc n) es was r =
      ap (λ l. after_events object node l was) r.whole
      ∙ walk-append object node r.front r.back was
      ∙ ap (after_events object node r.back) (h r.front was r.in_front)
      ∙ unmarked_turns P h n r.back was r.in_back

  -- no way through a plan without marks changes a copy
  pub unmarked : (p : Plan Event) → EachEvent NoMark p → (es : List Event) (was : Bool) → Path p es → after_events object node es was ≡ was
  unmarked skip h es was w = ap (λ l. after_events object node l was) w
  unmarked (emit e) h es was w = ap (λ l. after_events object node l was) w ∙ unmarked_event e was (h e refl)
  unmarked (sequence p q) h es was w =
      ap (λ l. after_events object node l was) w.whole
      ∙ walk-append object node w.front w.back was
      ∙ ap (after_events object node w.back) (unmarked p (λ e s. h e (inl s)) w.front was w.in_front)
      ∙ unmarked q (λ e s. h e (inr s)) w.back was w.in_back
  unmarked (branch p q) h es was w =
      ⊎_elim (λ a. unmarked p (λ e s. h e (inl s)) es was a) (λ b. unmarked q (λ e s. h e (inr s)) es was b) w
  unmarked (loop p) h es was w = unmarked_turns (Path p) (λ fs b a. unmarked p h fs b a) w.0 es was w.1

-- ---- ways to an event

-- A way through a plan that has an event; where nothing is marked, what comes before it changes no copy.
pub record WayTo (p : Plan Event) (e : Event) : Type 0 where
  pub before : List Event
  pub after : List Event
  pub path : Path p (before ++ e ∷ after)
  pub clear : EachEvent NoMark p → (object node : ℕ) (was : Bool) → after_events object node before was ≡ was

way_in_front : (p q : Plan Event) (e : Event) → WayTo p e → WayTo (sequence p q) e
way_in_front p q e w =
    let r : (es : List Event) × Path q es = some_path q in
    record {
      before = w.before;
      after = w.after ++ r.0;
      path = record { front = w.before ++ e ∷ w.after; back = r.0; whole = sym (append_assoc w.before (e ∷ w.after) r.0); in_front = w.path; in_back = r.1 };
      clear = λ h. w.clear (λ x s. h x (inl s));
    }

way_behind : (p q : Plan Event) (e : Event) → WayTo q e → WayTo (sequence p q) e
way_behind p q e w =
    let r : (es : List Event) × Path p es = some_path p in
    record {
      before = r.0 ++ w.before;
      after = w.after;
      path = record { front = r.0; back = w.before ++ e ∷ w.after; whole = append_assoc r.0 w.before (e ∷ w.after); in_front = r.1; in_back = w.path };
      clear = λ h object node was.
          walk-append object node r.0 w.before was
          ∙ ap (after_events object node w.before) (unmarked object node p (λ x s. h x (inl s)) r.0 was r.1)
          ∙ w.clear (λ x s. h x (inr s)) object node was;
    }

pub way_to_event : (p : Plan Event) (e : Event) → Stands p e → WayTo p e
way_to_event skip e s = absurd s
way_to_event (emit x) e s = record { before = []; after = []; path = ap (λ y. y ∷ []) (sym s); clear = λ h object node was. refl }
way_to_event (sequence p q) e s = ⊎_elim (λ a. way_in_front p q e (way_to_event p e a)) (λ b. way_behind p q e (way_to_event q e b)) s
way_to_event (branch p q) e s =
    ⊎_elim
    (λ a. let w : WayTo p e = way_to_event p e a in record { before = w.before; after = w.after; path = inl w.path; clear = λ h. w.clear (λ x s. h x (inl s)) })
    (λ b. let w : WayTo q e = way_to_event q e b in record { before = w.before; after = w.after; path = inr w.path; clear = λ h. w.clear (λ x s. h x (inr s)) }) s
way_to_event (loop p) e s =
    let w : WayTo p e = way_to_event p e s in
    record {
      before = w.before;
      after = w.after;
      path = (1, record { front = w.before ++ e ∷ w.after; back = []; whole = sym (append-nil (w.before ++ e ∷ w.after)); in_front = w.path; in_back = refl });
      clear = w.clear;
    }

not_true : (b : Bool) → (b ≡ true → ⊥) → b ≡ false
not_true true h = absurd (h refl)
not_true false h = refl

-- in a safe plan without marks, in which nothing is wrong, each event is fine
pub each_is_fine : (node : ℕ) (p : Plan Event) (stale : ℕ → Bool) → Safe node p stale → NothingWrong p → EachEvent NoMark p → EachEvent (IsFine node stale) p
each_is_fine node p stale safe none clear e s = of_event e s
  where
    of_event : (x : Event) → Stands p x → IsFine node stale x
    of_event (Read object nodes rule at) t = λ reads. not_true (stale object) (λ out.
        let w : WayTo p (Read object nodes rule at) = way_to_event p (Read object nodes rule at) t in
        safe.never w.before w.after object nodes rule at w.path reads (w.clear clear object node (stale object) ∙ out))
    of_event (Wrong rule at) t = none rule at t
    of_event (Mark object current out) t = tt
