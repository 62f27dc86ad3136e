-- A plain statement at a node: first values, which leave the states but for their steps, and then a write.
use Rattle.std.proofs.Common.{◌≡◌, ◌++◌, inl, inr, ℕ, Bool, true, List, [], ◌∷◌, refl, sym, subst, ap, ◌∙◌, append_assoc, ⊎_elim}
use Rattle.xmp_paths.specs.NodeSets.{has}
use Rattle.xmp_paths.specs.Plans.{Plan, sequence, in_order, Path, Stands}
use Rattle.xmp_paths.specs.Safe.{left, Safe, NothingWrong}
use Rattle.xmp_paths.specs.Walk.{after_events}
use Rattle.xmp_paths.specs.declared.event.Event.{Event}
use Rattle.xmp_paths.specs.declared.event.Event.TheVariants.{Wrong}
use Rattle.xmp_paths.proofs.PathLaws.{some_path}
use Rattle.xmp_paths.proofs.SafeLaws.{safe_paths, safe_front}
use Rattle.xmp_meaning.specs.Runs.{State, Step, Gave, Ended, Run, and_then}
use Rattle.xmp_meaning.specs.Exchanges.{Notes}
use Rattle.xmp_meaning_laws.specs.Laws.{TakesNoStep}
use Rattle.xmp_meaning_laws.specs.Agreement.{StepsMeet}
use Rattle.xmp_nodes.proofs.Agrees.{Stand, Agrees, Framed, Along}
use Rattle.xmp_nodes.proofs.Standing.{IsSetting}
use Rattle.xmp_nodes.proofs.Follow.{agrees_fewer, framed_on, left_append}
use Rattle.xmp_nodes.proofs.MetEvents.{EachOf, NoMark, IsFine, each_ordered, ordered_each, each_is_fine, unmarked}
use Rattle.xmp_nodes.proofs.ExpressionsCarried.{Near, near_agrees, near_framed, near_out}

-- ---- plans in order, cut in two

pub joined_way : (ps qs : List (Plan Event)) (way : List Event) → Path (sequence (in_order ps) (in_order qs)) way → Path (in_order (ps ++ qs)) way
joined_way [] qs way w = subst (Path (in_order qs)) (sym (w.whole ∙ ap (λ l. l ++ w.back) w.in_front)) w.in_back
joined_way (p ∷ ps) qs way w = record {
  front = w.in_front.front;
  back = w.in_front.back ++ w.back;
  whole = w.whole ∙ (ap (λ l. l ++ w.back) w.in_front.whole ∙ append_assoc w.in_front.front w.in_front.back w.back);
  in_front = w.in_front.in_front;
  in_back = joined_way ps qs (w.in_front.back ++ w.back) (record { front = w.in_front.back; back = w.back; whole = refl; in_front = w.in_front.in_back; in_back = w.in_back });
}

stands_front : (ps qs : List (Plan Event)) (e : Event) → Stands (in_order ps) e → Stands (in_order (ps ++ qs)) e
stands_front [] qs e s = absurd s
stands_front (p ∷ ps) qs e s = ⊎_elim (λ a. inl a) (λ b. inr (stands_front ps qs e b)) s

stands_back : (ps qs : List (Plan Event)) (e : Event) → Stands (in_order qs) e → Stands (in_order (ps ++ qs)) e
stands_back [] qs e s = s
stands_back (p ∷ ps) qs e s = inr (stands_back ps qs e s)

pub right_cut : (ps qs : List (Plan Event)) → NothingWrong (in_order (ps ++ qs)) → NothingWrong (in_order ps)
right_cut ps qs h rule at s = h rule at (stands_front ps qs (Wrong rule at) s)

pub right_rest : (ps qs : List (Plan Event)) → NothingWrong (in_order (ps ++ qs)) → NothingWrong (in_order qs)
right_rest ps qs h rule at s = h rule at (stands_back ps qs (Wrong rule at) s)

pub safe_cut : (node : ℕ) (ps qs : List (Plan Event)) (stale : ℕ → Bool) → Safe node (in_order (ps ++ qs)) stale → Safe node (in_order ps) stale
safe_cut node ps qs stale safe =
    safe_front node (in_order ps) (in_order qs) stale (safe_paths node (in_order (ps ++ qs)) (sequence (in_order ps) (in_order qs)) stale (joined_way ps qs) safe)

-- the events of the front, which marks nothing, are fine
pub fine_front : (node : ℕ) (ps qs : List (Plan Event)) (stale : ℕ → Bool) → Safe node (in_order (ps ++ qs)) stale → NothingWrong (in_order (ps ++ qs)) → EachOf NoMark ps
    → EachOf (IsFine node stale) ps
fine_front node ps qs stale safe none clear =
    each_ordered (IsFine node stale) ps (each_is_fine node (in_order ps) stale (safe_cut node ps qs stale safe) (right_cut ps qs none) (ordered_each NoMark ps clear))

pub keeps_front : (node : ℕ) (ps : List (Plan Event)) → EachOf NoMark ps → (stale : ℕ → Bool) (way : List Event) → Path (in_order ps) way → (object : ℕ) → left node way stale object ≡ stale object
keeps_front node ps clear stale way path object = unmarked object node (in_order ps) (ordered_each NoMark ps clear) way (stale object) path

-- ---- values, and what follows

module _ (a : Stand) (is : IsSetting a) (there : has a.set.nodes a.node ≡ true) (input : List ℕ) (stale : ℕ → Bool) (s : State Notes) (n : State (Unit {0})) (g : Agrees a stale s n) where
  pub behind : {B : Type 0} (W : B → Type 0) (ps qs : List (Plan Event)) (t : State Notes) (m : State (Unit {0})) → EachOf NoMark ps → Framed a s t → (r : Step Notes B) (q : Step (Unit {0}) B)
      → Along a W (in_order qs) stale t m r q → Along a W (in_order (ps ++ qs)) stale s n r q
  behind W ps qs t m clear framed (Gave v u) (Gave w l) h =
      let way : (es : List Event) × Path (in_order ps) es = some_path (in_order ps) in
      record {
        same = h.same;
        value = h.value;
        way = way.0 ++ h.way;
        path = joined_way ps qs (way.0 ++ h.way) (record { front = way.0; back = h.way; whole = refl; in_front = way.1; in_back = h.path });
        agrees = agrees_fewer a (left a.node h.way stale) (left a.node (way.0 ++ h.way) stale) u l
            (λ object e. sym (left_append a.node way.0 h.way stale object ∙ ap (after_events object a.node h.way) (keeps_front a.node ps clear stale way.0 way.1 object)) ∙ e) h.agrees;
        framed = framed_on a s t u framed h.framed;
      }
  behind W ps qs t m clear framed (Gave v u) (Ended f l) h = absurd h
  behind W ps qs t m clear framed (Ended e u) (Gave w l) h = absurd h
  behind W ps qs t m clear framed (Ended e u) (Ended f l) h = h

  -- values first, by which the states differ in their steps alone, and then a run for each
  pub near_then : {A C B : Type 0} (W : B → Type 0) (ps qs : List (Plan Event)) → EachOf NoMark ps → (Q : A → C → State Notes → State (Unit {0}) → Type 0)
      → ((v : A) (w : C) (t : State Notes) (m : State (Unit {0})) → Q v w t m → Near a is there input stale s n g t m)
      → (f : A → Run Notes B) (h : C → Run (Unit {0}) B) (r : Step Notes A) (q : Step (Unit {0}) C)
      → StepsMeet (Near a is there input stale s n g) Q r q → (a.set.inside ≡ true → TakesNoStep s.steps r)
      → ((v : A) (w : C) (t : State Notes) (m : State (Unit {0})) → Q v w t m → Agrees a stale t m → Along a W (in_order qs) stale t m (f v t) (h w m))
      → Along a W (in_order (ps ++ qs)) stale s n (and_then r f) (and_then q h)
  near_then W ps qs clear Q near f h (Gave v t) (Gave w m) meets steps rest =
      behind W ps qs t m clear (near_framed a is there input stale s n g t m (near v w t m meets) steps) (f v t) (h w m)
      (rest v w t m meets (near_agrees a is there input stale s n g t m (near v w t m meets)))
  near_then W ps qs clear Q near f h (Gave v t) (Ended e m) meets steps rest = absurd meets
  near_then W ps qs clear Q near f h (Ended e t) (Gave w m) meets steps rest = absurd meets
  near_then W ps qs clear Q near f h (Ended e t) (Ended d m) meets steps rest = record { same = meets.0; out = near_out a is there input stale s n g t m meets.1 }

-- a part takes no step where it doesn't with what follows, which takes none
pub steps_before : {X A B : Type 0} (x : ℕ) (r : Step X A) (f : A → Run X B) → ((v : A) (t : State X) → TakesNoStep x (f v t) → t.steps ≡ x) → TakesNoStep x (and_then r f) → TakesNoStep x r
steps_before x (Gave v t) f h k = h v t k
steps_before x (Ended e t) f h k = k
