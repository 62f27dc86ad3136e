-- The syncs of each form of statement, and the first at which rule C1 breaks.
use Rattle.std.proofs.Common.{◌≡◌, ◌∙◌, ap, refl, sym, subst, ◌∷◌, ◌++◌, [], List, map, Bool, true, false, ℕ, zero, suc, ◌+◌, arith, ℤ, slice_get, ◌<◌, ◌≤◌, min, length, take, drop, get_or, Option, Some, None, ◌⊎◌, inl, inr, ⊎_elim, if◌then◌else◌}
use Rattle.std.specs.List.{list_all}
use Rattle.std.specs.Ordering.{int_eq}
use Rattle.std.specs.Int.{w32, int_wrap}
use Rattle.std.specs.Int.RustNames.{FitsSigned}
use Rattle.std.proofs.lemmas.Int.{SFits-int_wrap}
use Rattle.std.proofs.Math.Seq.{drop-cons}
use Rattle.std.proofs.lemmas.Bool.{false≢true, and_parts, and_from}
use Rattle.std.proofs.lemmas.List.{take_more, take_all}
use Rattle.xmp_base.specs.declared.place.Place.{Place}
use Rattle.xmp_base.specs.declared.refusal.Refusal.{Refusal}
use Rattle.xmp_base.specs.First.{IsFirst, first_of}
use Rattle.xmp_base.proofs.FirstLaws.{first_or, first_same}
use Rattle.xmp_prog.proofs.Rolls.{at_plain, at_block, at_if, at_while, at_counted, at_loop, at_tasks}
use Rattle.xmp_prog.specs.declared.expressions.Expr.{Expr}
use Rattle.xmp_prog.specs.declared.statements.LoopHead.{LoopHead}
use Rattle.xmp_prog.specs.declared.statements.LoopDirective.{LoopDirective}
use Rattle.xmp_prog.specs.declared.statements.Plain.{Plain}
use Rattle.xmp_prog.specs.declared.statements.Stmt.{Stmt}
use Rattle.xmp_prog.specs.declared.statements.Stmt.TheVariants as stmt
use Rattle.xmp_prog.specs.declared.statements.Stmt.TheFolds.{fold-Task, fold-roll-Task}
use Rattle.xmp_prog.specs.declared.statements.Task.{Task}
use Rattle.xmp_spots.specs.Images.{Values}
use Rattle.xmp_races.specs.declared.stops.Stop.{Stop}
use Rattle.xmp_races.specs.declared.stops.Rounds.{Rounds}
use Rattle.xmp_races.specs.Syncs.{Stops, plain_stops, all_stops, stops_step, task_stops, stops_of, misplaced, in_loop, turns_of, breaks_at, stopped_at, most, one_value, phases_after, BreaksAtStop}

-- ---- one line a form

module _ (count : ℕ) (values : Values) (r : Rounds) where
  abbrev with_rounds : Stops → List Stop
  with_rounds f = f r

  pub stops_plain : (p : Plain) → stops_of count values (stmt.Plain p) r ≡ plain_stops p r
  stops_plain p = ap with_rounds (at_plain Stops Stops (stops_step count values) task_stops p)

  pub stops_block : (all : List Stmt) → stops_of count values (stmt.Block all) r ≡ all_stops (map (stops_of count values) all) r
  stops_block all = ap with_rounds (at_block Stops Stops (stops_step count values) task_stops all)

  pub stops_if : (test : Expr) (a b : Stmt) → stops_of count values (stmt.If test a b) r
      ≡ stops_of count values a (misplaced r) ++ stops_of count values b (misplaced r)
  stops_if test a b = ap with_rounds (at_if Stops Stops (stops_step count values) task_stops test a b)

  pub stops_while : (test : Expr) (body : Stmt) (at : Place) → stops_of count values (stmt.While test body at) r ≡ stops_of count values body (misplaced r)
  stops_while test body at = ap with_rounds (at_while Stops Stops (stops_step count values) task_stops test body at)

  pub stops_counted : (h : LoopHead) (body : Stmt) → stops_of count values (stmt.Counted h body) r
      ≡ stops_of count values body (in_loop r (turns_of count values h))
  stops_counted h body = ap with_rounds (at_counted Stops Stops (stops_step count values) task_stops h body)

  pub stops_loop : (d : LoopDirective) (body : Stmt) → stops_of count values (stmt.Loop d body) r ≡ stops_of count values body (misplaced r)
  stops_loop d body = ap with_rounds (at_loop Stops Stops (stops_step count values) task_stops d body)

task_is : (count : ℕ) (values : Values) (t : Task) → fold-Task Stops Stops (stops_step count values) task_stops t ≡ stops_of count values t.body
task_is count values t = fold-roll-Task Stops Stops (stops_step count values) task_stops (record { nodes = t.nodes; body = t.body; at = t.at })

tasks_are : (count : ℕ) (values : Values) (all : List Task) →
    map (fold-Task Stops Stops (stops_step count values) task_stops) all ≡ map (λ t. stops_of count values t.body) all
tasks_are count values [] = refl
tasks_are count values (t ∷ ts) = λ i. task_is count values t i ∷ tasks_are count values ts i

pub stops_tasks : (count : ℕ) (values : Values) (r : Rounds) (all : List Task) (at : Place) → stops_of count values (stmt.Tasks all at) r
    ≡ all_stops (map (λ t. stops_of count values t.body) all) (misplaced r)
stops_tasks count values r all at =
    ap (λ (f : Stops). f r) (at_tasks Stops Stops (stops_step count values) task_stops all at)
    ∙ ap (λ l. all_stops l (misplaced r)) (tasks_are count values all)

-- ---- the next of a list

pub next_stops : {X : Type 0} (f : X → Stops) (xs : List X) (k : ℕ) (d : X) (r : Rounds) → k < length xs →
    all_stops (map f (drop k xs)) r ≡ f (get_or xs k d) r ++ all_stops (map f (drop (suc k) xs)) r
next_stops f xs k d r h = ap (λ l. all_stops (map f l) r) (drop-cons xs k d h)

-- ---- the first at which the rule breaks

stops_forth : (xs : List Stop) (s : Stop) (before : ℕ) (r : Refusal) →
    BreaksAtStop before xs r ⊎ ((breaks_at (phases_after before xs) s ≡ true) × (stopped_at s ≡ r)) → BreaksAtStop before (xs ++ s ∷ []) r
stops_forth [] s before r h = ⊎_elim (λ k. absurd k) inl h
stops_forth (x ∷ xs) s before r h =
    ⊎_elim
    (λ k. ⊎_elim inl (λ l. inr (stops_forth xs s (min (before + x.rounds.turns) most) r (inl l))) k)
    (λ k. inr (stops_forth xs s (min (before + x.rounds.turns) most) r (inr k)))
    h

stops_back : (xs : List Stop) (s : Stop) (before : ℕ) (r : Refusal) → BreaksAtStop before (xs ++ s ∷ []) r →
    BreaksAtStop before xs r ⊎ ((breaks_at (phases_after before xs) s ≡ true) × (stopped_at s ≡ r))
stops_back [] s before r h = ⊎_elim inr (λ k. absurd k) h
stops_back (x ∷ xs) s before r h =
    ⊎_elim
    (λ k. inl (inl k))
    (λ k. ⊎_elim (λ l. inl (inr l)) inr (stops_back xs s (min (before + x.rounds.turns) most) r k))
    h

after_push : (xs : List Stop) (s : Stop) (before : ℕ) → phases_after before (xs ++ s ∷ []) ≡ min (phases_after before xs + s.rounds.turns) most
after_push [] s before = refl
after_push (x ∷ xs) s before = after_push xs s (min (before + x.rounds.turns) most)

pub after_more : (stops : List Stop) (k : ℕ) (d : Stop) (before next : ℕ) → k < length stops → before ≡ phases_after 0 (take k stops) →
    next ≡ min (before + (get_or stops k d).rounds.turns) most → next ≡ phases_after 0 (take (k + 1) stops)
after_more stops k d before next l h e =
    e ∙ (ap (λ b. min (b + (get_or stops k d).rounds.turns) most) h
    ∙ (sym (after_push (take k stops) (get_or stops k d) 0) ∙ ap (phases_after 0) (sym (take_more stops k d l))))

pub stops_more : (stops : List Stop) (k : ℕ) (d : Stop) (before : ℕ) (x y z : Option Refusal) → k < length stops → before ≡ phases_after 0 (take k stops) →
    IsFirst (BreaksAtStop 0 (take k stops)) x → IsFirst (λ r. (breaks_at before (get_or stops k d) ≡ true) × (stopped_at (get_or stops k d) ≡ r)) y →
    z ≡ first_of x y → IsFirst (BreaksAtStop 0 (take (k + 1) stops)) z
stops_more stops k d before x y z l b h i e =
    let s = get_or stops k d in
    let at = subst (λ n. IsFirst (λ r. (breaks_at n s ≡ true) × (stopped_at s ≡ r)) y) b i in
    subst (λ xs. IsFirst (BreaksAtStop 0 xs) z) (sym (take_more stops k d l))
    (subst (IsFirst (BreaksAtStop 0 (take k stops ++ s ∷ []))) (sym e)
    (first_same
    (λ r. BreaksAtStop 0 (take k stops) r ⊎ ((breaks_at (phases_after 0 (take k stops)) s ≡ true) × (stopped_at s ≡ r)))
    (BreaksAtStop 0 (take k stops ++ s ∷ []))
    (λ r. (stops_forth (take k stops) s 0 r, stops_back (take k stops) s 0 r)) (first_of x y)
    (first_or (BreaksAtStop 0 (take k stops)) (λ r. (breaks_at (phases_after 0 (take k stops)) s ≡ true) × (stopped_at s ≡ r)) x y h at)))

pub stops_all : (stops : List Stop) (k : ℕ) (x : Option Refusal) → length stops ≤ k → IsFirst (BreaksAtStop 0 (take k stops)) x →
    IsFirst (BreaksAtStop 0 stops) x
stops_all stops k x l h = subst (λ xs. IsFirst (BreaksAtStop 0 xs) x) (take_all k stops l) h

-- ---- one value on all images

abbrev is_there : Option ℤ → Bool
is_there None = false
is_there (Some v) = true

abbrev value_or : ℤ → Option ℤ → ℤ
value_or d None = d
value_or d (Some v) = v

pub all_same : (vs : List ℤ) (first : ℤ) → slice_get vs 0 ≡ Some first → list_all (int_eq first) vs ≡ true → one_value (Some vs) ≡ Some first
all_same [] first e h = absurd (false≢true (ap {A = Option ℤ} is_there e))
all_same (v ∷ vs) first e h =
    let i : v ≡ first = ap {A = Option ℤ} (value_or first) e in
    ap {A = ℤ} (λ x. if list_all (int_eq x) vs then Some x else None) i
    ∙ ap (λ (b : Bool). if b then Some first else None) (and_parts (int_eq first v) (list_all (int_eq first) vs) h).1

all_from : (test : ℤ → Bool) (vs : List ℤ) (k : ℕ) (d : ℤ) → k < length vs → list_all test vs ≡ true → test (get_or vs k d) ≡ true
all_from test [] k d l h = absurd (omega (arith, l))
all_from test (v ∷ vs) zero d l h = (and_parts (test v) (list_all test vs) h).0
all_from test (v ∷ vs) (suc k) d l h = all_from test vs k d (omega (arith, l)) (and_parts (test v) (list_all test vs) h).1

either_way : (b : Bool) → (b ≡ true) ⊎ (b ≡ false)
either_way true = inl refl
either_way false = inr refl

pub one_differs : (vs : List ℤ) (first : ℤ) (k : ℕ) (d : ℤ) → slice_get vs 0 ≡ Some first → k < length vs → int_eq first (get_or vs k d) ≡ false →
    int_eq first first ≡ true → one_value (Some vs) ≡ None
one_differs [] first k d e l h same = absurd (false≢true (ap {A = Option ℤ} is_there e))
one_differs (v ∷ vs) first k d e l h same =
    let i : v ≡ first = ap {A = Option ℤ} (value_or first) e in
    ap {A = ℤ} (λ x. if list_all (int_eq x) vs then Some x else None) i
    ∙ ⊎_elim
    (λ t. absurd (false≢true (sym h ∙ all_from (int_eq first) (v ∷ vs) k d l (and_from _ _ (ap {A = ℤ} (int_eq first) i ∙ same) t))))
    (λ f. ap (λ (b : Bool). if b then Some first else None) f)
    (either_way (list_all (int_eq first) vs))

pub int_fits : (z : ℤ) → FitsSigned w32 (int_wrap w32 z)
int_fits z = SFits-int_wrap w32 z
