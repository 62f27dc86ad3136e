-- Two runs of a statement without directives side by side, in two layouts.
use Rattle.std.proofs.Common.{◌≡◌, ◌++◌, ◌&&◌, ◌==◌, ◌||◌, ◌+ℤ◌, ℕ, zero, suc, ℤ, pos, Bool, true, false, true≢false, List, [], ◌∷◌, map, Option, Some, None, refl, sym, subst, ap, eq-eqb}
use Rattle.std.specs.Prelude.{slice_set, is_none}
use Rattle.std.specs.List.{AllByRecursion, list_all, flat_map}
use Rattle.xmp_map.proofs.Counted.{and_left, and_right}
use Rattle.xmp_num.specs.declared.types.Ty.TheVariants.{Int}
use Rattle.xmp_num.specs.Arithmetic.{binary_of, wrap}
use Rattle.xmp_num.specs.Decimal.{scan_of}
use Rattle.xmp_prog.specs.declared.expressions.Expr.{Expr}
use Rattle.xmp_prog.specs.declared.expressions.Access.{Access}
use Rattle.xmp_prog.specs.declared.expressions.Expr.TheFolds.{ind-Access, fold-roll-Access}
use Rattle.xmp_prog.specs.declared.expressions.Expr.TheViews.{roll-Access}
use Rattle.xmp_prog.specs.declared.statements.Compound.{Compound}
use Rattle.xmp_prog.specs.declared.statements.LoopHead.{LoopHead}
use Rattle.xmp_prog.specs.declared.statements.Target.TheVariants as target
use Rattle.xmp_prog.specs.declared.statements.Plain.{Plain}
use Rattle.xmp_prog.specs.declared.statements.Plain.TheVariants as plain
use Rattle.xmp_prog.specs.declared.statements.Stmt.{Stmt, map-Stmt}
use Rattle.xmp_prog.specs.declared.statements.Task.{Task}
use Rattle.xmp_prog.specs.declared.statements.Stmt.TheOpen.{Stmt-F}
use Rattle.xmp_prog.specs.declared.statements.Stmt.TheFolds.{ind-Stmt, fold-Task, fold-roll-Stmt}
use Rattle.xmp_prog.specs.declared.statements.Stmt.TheViews.{roll-Stmt}
use Rattle.xmp_meaning.specs.declared.location.Location.{Location}
use Rattle.xmp_meaning.specs.declared.location.Location.TheVariants as location
use Rattle.xmp_meaning.specs.declared.ends.Flow.{Flow}
use Rattle.xmp_meaning.specs.declared.ends.Flow.TheVariants.{Next, Returned}
use Rattle.xmp_meaning.specs.Runs.{State, Run, ◌>>=◌, pure, scalar, set_scalar, write, taken, set_taken, step_of, take_step}
use Rattle.xmp_meaning.specs.Declarations.{scalar_type, array_type}
use Rattle.xmp_meaning.specs.Layouts.{number_of}
use Rattle.xmp_meaning.specs.Context.{Context}
use Rattle.xmp_meaning.specs.Handlers.{Handlers, TaskRun}
use Rattle.xmp_meaning.specs.Blocks.{each, after, then_run, block, choose, turns}
use Rattle.xmp_meaning.specs.Expressions.{expr_of, call, holds}
use Rattle.xmp_meaning.specs.Formats.{printed}
use Rattle.xmp_meaning.specs.Assignments.{at_target, new_value, assign, initialise, declare, store_read, scan}
use Rattle.xmp_meaning.specs.Loops.{turn, while_loop, is_inside, inside, step_up, turn_count, entering, counted}
use Rattle.xmp_meaning.specs.Statements.{plain_of, stmt_step, task_step, stmt_of}
use Rattle.xmp_meaning_laws.specs.Agreement.{Spot, Seen, SeenElement, seen_step, seen_element, seen, seen_access, seen_option, spots_of_all, slots_of_all, with_slot, old_fits, Looked, plain_verdict, plain_reads, plain_writes, judge_all, look_step, look_task, look, IsKnown, SpotIn, StepsMeet, AfterFlow}
use Rattle.xmp_meaning_laws.proofs.Conditions.{all_apart}
use Rattle.xmp_meaning_laws.proofs.Twins.{Couple, left, right, meet_on, meet_weaker, AreTwins, Same, Twin, Any, same_on, gives, or_trap_twin, scalar_twin, call_twin, SpotGet, OfOneCell, expr_twin, cell_twin, all_first, all_last}

-- one set of scalars is in another
abbrev pub Within : (g f : ℕ → Bool) → Type 0
Within g f = (slot : ℕ) → g slot ≡ true → f slot ≡ true

within_slot : (slot : ℕ) (g : ℕ → Bool) → Within g (with_slot slot g)
within_slot slot g n e = of_test (n == slot) (g n) e
  where
    of_test : (a b : Bool) → b ≡ true → (a || b) ≡ true
    of_test true b e = refl
    of_test false b e = e

slot_within : (slot : ℕ) (g : ℕ → Bool) → with_slot slot g slot ≡ true
slot_within slot g = of_test (slot == slot) (g slot) (eq-eqb slot slot refl)
  where
    of_test : (a b : Bool) → a ≡ true → (a || b) ≡ true
    of_test true b e = refl
    of_test false b e = absurd (true≢false (sym e))

more_all : (g f : ℕ → Bool) → Within g f → (ns : List ℕ) → list_all g ns ≡ true → list_all f ns ≡ true
more_all g f w [] e = refl
more_all g f w (n ∷ ns) e = both (f n) (list_all f ns) (w n (and_left (g n) (list_all g ns) e)) (more_all g f w ns (and_right (g n) (list_all g ns) e))
  where
    both : (a b : Bool) → a ≡ true → b ≡ true → (a && b) ≡ true
    both true b e f = f
    both false b e f = absurd (true≢false (sym e))

unknown_is : (o : Option ℤ) → is_none o ≡ true → o ≡ None
unknown_is None e = refl
unknown_is (Some v) e = absurd (true≢false (sym e))

no_fit : {A : Type 0} → false ≡ true → A
no_fit e = absurd (true≢false (sym e))

-- the array that an element names
spot_array : (known : ℕ → Option ℤ) (a : Access) → (seen_access known a).spot.array ≡ a.array
spot_array known = ind-Access (λ e. Unit {0}) (λ a. (seen_access known a).spot.array ≡ a.array)
    (λ x y e. tt)
    (λ x y e. subst (λ z. (seen_access known (roll-Access z)).spot.array ≡ (roll-Access z).array) e
    (ap (λ (w : SeenElement). w.spot.array) (fold-roll-Access Seen SeenElement (seen_step known) seen_element _)))

module _ {X Y : Type 0} {c : Couple} {h : Handlers X} {h' : Handlers Y} {known : ℕ → Option ℤ} {MayGet MayPut : ℕ → List ℕ → ℕ → Type 0}
    {K : (ℕ → Bool) → State X → State Y → Type 0} (i : AreTwins X Y c h h' known MayGet MayPut K) where
  -- from agreement on `g` both go on to agreement on `f`, or return or end with what they had
  abbrev pub FlowTwin : (g f : ℕ → Bool) → Run X Flow → Run Y Flow → Type 0
  FlowTwin g f p q = (s : State X) (u : State Y) → K g s u → StepsMeet (K g) (AfterFlow (K g) (K f)) (p s) (q u)

  abbrev pub SpotPut : Spot → Type 0
  SpotPut = SpotIn c.program c.node MayPut

  less : (g f : ℕ → Bool) → Within g f → (s : State X) (u : State Y) → K f s u → K g s u
  less g f w s u k = i.weakens f g s u w k

  less_flow : (r g f e : ℕ → Bool) → Within g r → Within f e → (a b : Flow) (s : State X) (u : State Y) → AfterFlow (K r) (K e) a b s u → AfterFlow (K g) (K f) a b s u
  less_flow r g f e w v Next Next s u k = less f e v s u k
  less_flow r g f e w v Next (Returned y) s u k = absurd k
  less_flow r g f e w v (Returned x) Next s u k = absurd k
  less_flow r g f e w v (Returned x) (Returned y) s u k = (k.0, less g r w s u k.1)

  -- from what more agree on to what fewer do
  pub flow_less : (r g f e : ℕ → Bool) → Within g r → Within f e → (p : Run X Flow) (q : Run Y Flow) → FlowTwin r e p q → (s : State X) (u : State Y) → K r s u
      → StepsMeet (K g) (AfterFlow (K g) (K f)) (p s) (q u)
  flow_less r g f e w v p q t s u k = meet_weaker (K r) (K g) (AfterFlow (K r) (K e)) (AfterFlow (K g) (K f)) (p s) (q u) (less g r w) (less_flow r g f e w v) (t s u k)

  same_within : (g : ℕ → Bool) → Within g g
  same_within g slot e = e

  next_twin : (g : ℕ → Bool) → FlowTwin g g (pure Next) (pure Next)
  next_twin g s u k = k

  -- one after the other
  pub then_twin : (g f e : ℕ → Bool) → Within g f → (p q : Run X Flow) (p' q' : Run Y Flow) → FlowTwin g f p p' → FlowTwin f e q q' → FlowTwin g e (then_run p q) (then_run p' q')
  then_twin g f e w p q p' q' a b s u k = meet_on (K g) (AfterFlow (K g) (K f)) (AfterFlow (K g) (K e)) (λ flow. after flow q) (λ flow. after flow q') (p s) (p' u) (a s u k) at_flow
    where
      at_flow : (x y : Flow) (t : State X) (z : State Y) → AfterFlow (K g) (K f) x y t z → StepsMeet (K g) (AfterFlow (K g) (K e)) (after x q t) (after y q' z)
      at_flow Next Next t z m = flow_less f g e e w (same_within e) q q' b t z m
      at_flow Next (Returned y) t z m = absurd m
      at_flow (Returned x) Next t z m = absurd m
      at_flow (Returned x) (Returned y) t z m = m

  -- what follows a value that is the same
  pub value_on : (g f : ℕ → Bool) {A : Type 0} (V : A → Type 0) (p : Run X A) (q : Run Y A) (r : A → Run X Flow) (r' : A → Run Y Flow) → Twin i g V p q
      → ((a : A) → V a → FlowTwin g f (r a) (r' a)) → FlowTwin g f (p >>= r) (q >>= r')
  value_on g f V p q r r' t rest s u k = meet_on (K g) (Same i g V) (AfterFlow (K g) (K f)) r r' (p s) (q u) (t s u k)
      (λ a b t z m. subst (λ y. StepsMeet (K g) (AfterFlow (K g) (K f)) (r a t) (r' y z)) m.0 (rest a m.2 t z m.1))

  choose_twin : (g f : ℕ → Bool) (b : Bool) (p p' : Run X Flow) (q q' : Run Y Flow) → FlowTwin g f p q → FlowTwin g f p' q' → FlowTwin g f (choose b p p') (choose b q q')
  choose_twin g f true p p' q q' r r' = r
  choose_twin g f false p p' q q' r r' = r'

  -- loops leave what was agreed on
  turns_twin : (g : ℕ → Bool) (n : ℕ) (test : Run X Bool) (test' : Run Y Bool) (body : Run X Flow) (body' : Run Y Flow) → Twin i g (Any i) test test' → FlowTwin g g body body'
      → FlowTwin g g (turns n test body) (turns n test' body')
  turns_twin g zero test test' body body' a b = next_twin g
  turns_twin g (suc n) test test' body body' a b =
      value_on g g (Any i) test test' (λ more. choose more (then_run body (turns n test body)) (pure Next)) (λ more. choose more (then_run body' (turns n test' body')) (pure Next)) a (λ more v.
      choose_twin g g more (then_run body (turns n test body)) (pure Next) (then_run body' (turns n test' body')) (pure Next)
      (then_twin g g g (same_within g) body (turns n test body) body' (turns n test' body') b (turns_twin g n test test' body body' a b)) (next_twin g))

  step_twin : (g : ℕ → Bool) (n : ℕ) (s : State X) (u : State Y) → K g s u → StepsMeet (K g) (Same i g (Any i)) (step_of n s) (step_of n u)
  step_twin g zero s u k = (refl, k)
  step_twin g (suc n) s u k = (refl, i.steps g s u n k, tt)

  take_twin : (g : ℕ → Bool) → Twin i g (Any i) take_step take_step
  take_twin g s u k = subst (λ n. StepsMeet (K g) (Same i g (Any i)) (step_of s.steps s) (step_of n u)) (i.left_steps g s u k) (step_twin g s.steps s u k)

  while_twin : (g : ℕ → Bool) (test : Run X Bool) (test' : Run Y Bool) (body : Run X Flow) (body' : Run Y Flow) → Twin i g (Any i) test test' → FlowTwin g g body body'
      → FlowTwin g g (while_loop test body) (while_loop test' body')
  while_twin g test test' body body' a b s u k =
      subst (λ n. StepsMeet (K g) (AfterFlow (K g) (K g)) (turns (suc s.steps) test (turn body) s) (turns (suc n) test' (turn body') u)) (i.left_steps g s u k)
      (turns_twin g (suc s.steps) test test' (turn body) (turn body') a (value_on g g (Any i) take_step take_step (λ v. body) (λ v. body') (take_twin g) (λ v w. b)) s u k)

  -- ---- scalars and cells

  set_twin : (g : ℕ → Bool) (slot : ℕ) (v : ℤ) → known slot ≡ None → FlowTwin g (with_slot slot g) (set_scalar slot v >>= (λ u. pure Next)) (set_scalar slot v >>= (λ u. pure Next))
  set_twin g slot v e s u k = i.sets_scalar g s u slot v e k

  get_at : (g : ℕ → Bool) (spot : Spot) (n m : ℤ) (t : State X) (z : State Y) → OfOneCell i g spot n m t z → SpotGet i spot → Twin i g (Any i) (h.get spot.array n) (h'.get spot.array m)
  get_at g spot n m t z o may s u k =
      subst (λ p. StepsMeet (K g) (Same i g (Any i)) (h.get spot.array n s) p) (λ j. h'.get spot.array (sym o.other j) u)
      (subst (λ p. StepsMeet (K g) (Same i g (Any i)) p (h'.get spot.array (number_of c.other c.program spot.array o.image o.xs) u)) (λ j. h.get spot.array (sym o.number j) s)
      (meet_weaker (K g) (K g) (λ v w t z. (v ≡ w) × K g t z) (Same i g (Any i)) (h.get spot.array (number_of c.layout c.program spot.array o.image o.xs) s)
      (h'.get spot.array (number_of c.other c.program spot.array o.image o.xs) u) (λ s u k. k) (λ a b s u q. (q.0, q.1, tt))
      (i.gets g s u spot.array o.xs o.image (may o.xs o.image o.may o.own) k)))

  put_at : (g : ℕ → Bool) (spot : Spot) (n m : ℤ) (t : State X) (z : State Y) → OfOneCell i g spot n m t z → SpotPut spot → (v : ℤ)
      → FlowTwin g g (h.put spot.array n v >>= (λ u. pure Next)) (h'.put spot.array m v >>= (λ u. pure Next))
  put_at g spot n m t z o may v s u k =
      meet_on (K g) (λ a b t z. K g t z) (AfterFlow (K g) (K g)) (λ u. pure Next) (λ u. pure Next) (h.put spot.array n v s) (h'.put spot.array m v u)
      (subst (λ p. StepsMeet (K g) (λ a b t z. K g t z) (h.put spot.array n v s) p) (λ j. h'.put spot.array (sym o.other j) v u)
      (subst (λ p. StepsMeet (K g) (λ a b t z. K g t z) p (h'.put spot.array (number_of c.other c.program spot.array o.image o.xs) v u)) (λ j. h.put spot.array (sym o.number j) v s)
      (i.puts g s u spot.array o.xs o.image v (may o.xs o.image o.may o.own) k)))
      (λ a b t z m. m)

  -- ---- plain statements

  arguments_twin : (g : ℕ → Bool) (es : List Expr) (vs : List ℤ) → list_all g (slots_of_all known es) ≡ true → AllByRecursion (SpotGet i) (spots_of_all known es)
      → Twin i g (Any i) (each (map (expr_of h (left c)) es) vs) (each (map (expr_of h' (right c)) es) vs)
  arguments_twin g [] vs a m = gives i g (Any i) vs tt
  arguments_twin g (e ∷ es) vs a m =
      let spots : _ = all_apart (SpotGet i) (seen known e).spots (spots_of_all known es) m in
      same_on i g (IsKnown (seen known e).value) (Any i) (expr_of h (left c) e) (expr_of h' (right c) e)
      (λ v. each (map (expr_of h (left c)) es) (vs ++ v ∷ [])) (λ v. each (map (expr_of h' (right c)) es) (vs ++ v ∷ []))
      (expr_twin i g e (all_first g (seen known e).slots (slots_of_all known es) a) spots.0)
      (λ v kv. arguments_twin g es (vs ++ v ∷ []) (all_last g (seen known e).slots (slots_of_all known es) a) spots.1)

  -- an expression, and what is done with its value
  expr_on : (g f : ℕ → Bool) (e : Expr) → list_all g (seen known e).slots ≡ true → AllByRecursion (SpotGet i) (seen known e).spots → (r : ℤ → Run X Flow) (r' : ℤ → Run Y Flow)
      → ((v : ℤ) → FlowTwin g f (r v) (r' v)) → FlowTwin g f (expr_of h (left c) e >>= r) (expr_of h' (right c) e >>= r')
  expr_on g f e a m r r' rest = value_on g f (IsKnown (seen known e).value) (expr_of h (left c) e) (expr_of h' (right c) e) r r' (expr_twin i g e a m) (λ v kv. rest v)

  -- the same of a cell
  cell_on : (g f : ℕ → Bool) (a : Access) → list_all g (seen_access known a).slots ≡ true → AllByRecursion (SpotGet i) (seen_access known a).spots
      → (r : Location → Run X Flow) (r' : Location → Run Y Flow)
      → ((n m : ℤ) (t : State X) (z : State Y) → OfOneCell i g (seen_access known a).spot n m t z → FlowTwin g f (r (location.Cell (seen_access known a).spot.array n)) (r' (location.Cell (seen_access known a).spot.array m)))
      → FlowTwin g f (at_target h (left c) (target.Cell a) r) (at_target h' (right c) (target.Cell a) r')
  cell_on g f a e m r r' rest s u k =
      meet_on (K g) (OfOneCell i g (seen_access known a).spot) (AfterFlow (K g) (K f)) (λ n. r (location.Cell a.array n)) (λ n. r' (location.Cell a.array n)) _ _ (cell_twin i g a e m s u k) (λ n m t z o.
      subst (λ array. StepsMeet (K g) (AfterFlow (K g) (K f)) (r (location.Cell array n) t) (r' (location.Cell array m) z)) (spot_array known a) (rest n m t z o t z o.agree))

  assign_scalar : (g : ℕ → Bool) (slot : ℕ) → known slot ≡ None → (compound : Option Compound) → old_fits g compound slot ≡ true → (e : Expr) → list_all g (seen known e).slots ≡ true
      → AllByRecursion (SpotGet i) (seen known e).spots
      → FlowTwin g (with_slot slot g) (assign h (left c) compound e (location.Scalar slot)) (assign h' (right c) compound e (location.Scalar slot))
  assign_scalar g slot none None old e a m = expr_on g (with_slot slot g) e a m _ _ (λ v. set_twin g slot (wrap (scalar_type c.program slot) v) none)
  assign_scalar g slot none (Some d) old e a m =
      value_on g (with_slot slot g) (Any i) (new_value h (left c) (location.Scalar slot) (Some d) e) (new_value h' (right c) (location.Scalar slot) (Some d) e) _ _
      (same_on i g (IsKnown (known slot)) (Any i) (scalar slot) (scalar slot) _ _ (scalar_twin i g slot old) (λ x kx.
      same_on i g (IsKnown (seen known e).value) (Any i) (expr_of h (left c) e) (expr_of h' (right c) e) _ _ (expr_twin i g e a m) (λ v kv. or_trap_twin i g (Any i) (binary_of d.op d.ty x v) d.at (λ z is. tt))))
      (λ v w. set_twin g slot (wrap (scalar_type c.program slot) v) none)

  assign_cell : (g : ℕ → Bool) (spot : Spot) (compound : Option Compound) → (e : Expr) → list_all g (seen known e).slots ≡ true → AllByRecursion (SpotGet i) (seen known e).spots
      → ((d : Compound) → compound ≡ Some d → SpotGet i spot) → SpotPut spot → (n m : ℤ) (t : State X) (z : State Y) → OfOneCell i g spot n m t z
      → FlowTwin g g (assign h (left c) compound e (location.Cell spot.array n)) (assign h' (right c) compound e (location.Cell spot.array m))
  assign_cell g spot None e a s gets puts n m t z o = expr_on g g e a s _ _ (λ v. put_at g spot n m t z o puts (wrap (array_type c.program spot.array) v))
  assign_cell g spot (Some d) e a s gets puts n m t z o =
      value_on g g (Any i) (new_value h (left c) (location.Cell spot.array n) (Some d) e) (new_value h' (right c) (location.Cell spot.array m) (Some d) e) _ _
      (same_on i g (Any i) (Any i) (h.get spot.array n) (h'.get spot.array m) _ _ (get_at g spot n m t z o (gets d refl)) (λ x kx.
      same_on i g (IsKnown (seen known e).value) (Any i) (expr_of h (left c) e) (expr_of h' (right c) e) _ _ (expr_twin i g e a s) (λ v kv. or_trap_twin i g (Any i) (binary_of d.op d.ty x v) d.at (λ z is. tt))))
      (λ v w. put_at g spot n m t z o puts (wrap (array_type c.program spot.array) v))

  scan_scalar : (g : ℕ → Bool) (slot : ℕ) → known slot ≡ None → (o : Option ℤ) → FlowTwin g g (store_read h (left c) (location.Scalar slot) o) (store_read h' (right c) (location.Scalar slot) o)
  scan_scalar g slot none None s u k = k
  scan_scalar g slot none (Some v) s u k =
      flow_less g g g (with_slot slot g) (same_within g) (within_slot slot g) (set_scalar slot (wrap (scalar_type c.program slot) v) >>= (λ u. pure Next)) (set_scalar slot (wrap (scalar_type c.program slot) v) >>= (λ u. pure Next))
      (set_twin g slot (wrap (scalar_type c.program slot) v) none) s u k

  scan_cell : (g : ℕ → Bool) (spot : Spot) → SpotPut spot → (n m : ℤ) (t : State X) (z : State Y) → OfOneCell i g spot n m t z → (o : Option ℤ)
      → FlowTwin g g (store_read h (left c) (location.Cell spot.array n) o) (store_read h' (right c) (location.Cell spot.array m) o)
  scan_cell g spot puts n m t z one None = next_twin g
  scan_cell g spot puts n m t z one (Some v) = put_at g spot n m t z one puts (wrap (array_type c.program spot.array) v)

  inputs_twin : (g : ℕ → Bool) → Twin i g (Any i) taken taken
  inputs_twin g s u k = (i.inputs g s u k, k, tt)

  set_taken_twin : (g : ℕ → Bool) (n : ℕ) → Twin i g (Any i) (set_taken n) (set_taken n)
  set_taken_twin g n s u k = (refl, i.sets_taken g s u n k, tt)

  write_twin : (g : ℕ → Bool) (text : List ℕ) → Twin i g (Any i) (write text) (write text)
  write_twin g text s u k = (refl, i.writes g s u text k, tt)

  initialised : (g : ℕ → Bool) (slot : ℕ) → known slot ≡ None → (value : Option Expr) → list_all (with_slot slot g) (seen_option known value).slots ≡ true
      → AllByRecursion (SpotGet i) (seen_option known value).spots → FlowTwin (with_slot slot g) (with_slot slot g) (initialise h (left c) slot value) (initialise h' (right c) slot value)
  initialised g slot none None a m = next_twin (with_slot slot g)
  initialised g slot none (Some e) a m = expr_on (with_slot slot g) (with_slot slot g) e a m _ _ (λ v s u k.
      flow_less (with_slot slot g) (with_slot slot g) (with_slot slot g) (with_slot slot (with_slot slot g)) (same_within (with_slot slot g)) (within_slot slot (with_slot slot g))
      (set_scalar slot (wrap (scalar_type c.program slot) v) >>= (λ u. pure Next)) (set_scalar slot (wrap (scalar_type c.program slot) v) >>= (λ u. pure Next))
      (set_twin (with_slot slot g) slot (wrap (scalar_type c.program slot) v) none) s u k)

  declared : (g : ℕ → Bool) (slot : ℕ) (value : Option Expr) → is_none (known slot) ≡ true → list_all (with_slot slot g) (seen_option known value).slots ≡ true
      → AllByRecursion (SpotGet i) (seen_option known value).spots → FlowTwin g (with_slot slot g) (declare h (left c) slot value) (declare h' (right c) slot value)
  declared g slot value none a m s u k =
      flow_less (with_slot slot g) g (with_slot slot g) (with_slot slot g) (within_slot slot g) (same_within (with_slot slot g)) (initialise h (left c) slot value) (initialise h' (right c) slot value)
      (initialised g slot (unknown_is (known slot) none) value a m) (record s { scalars = slice_set s.scalars slot (pos 0) }) (record u { scalars = slice_set u.scalars slot (pos 0) })
      (i.sets_scalar g s u slot (pos 0) (unknown_is (known slot) none) k)

  abbrev PlainTwin : Plain → Type 0
  PlainTwin q = (g : ℕ → Bool) → (plain_verdict known g q).fits ≡ true → AllByRecursion (SpotGet i) (plain_reads known q) → AllByRecursion SpotPut (plain_writes known q)
      → FlowTwin g (plain_verdict known g q).agreed (plain_of h (left c) q) (plain_of h' (right c) q)

  plain_twin : (q : Plain) → PlainTwin q
  plain_twin (plain.Declare slot value at) g a m w = declared g slot value (and_left (is_none (known slot)) _ a) (and_right (is_none (known slot)) _ a) m
  plain_twin (plain.Set (target.Scalar slot place) compound e) g a m w =
      let rest : _ = and_right (is_none (known slot)) (old_fits g compound slot && list_all g (seen known e).slots) a in
      assign_scalar g slot (unknown_is (known slot) (and_left (is_none (known slot)) (old_fits g compound slot && list_all g (seen known e).slots) a)) compound (and_left (old_fits g compound slot) (list_all g (seen known e).slots) rest) e
      (and_right (old_fits g compound slot) (list_all g (seen known e).slots) rest) m
  plain_twin (plain.Set (target.Cell a) None e) g f m w =
      let spots : _ = all_apart (SpotGet i) (seen_access known a).spots (seen known e).spots m in
      cell_on g g a (and_left (list_all g (seen_access known a).slots) (list_all g (seen known e).slots) f) spots.0 (assign h (left c) None e) (assign h' (right c) None e)
      (λ n k t z o. assign_cell g (seen_access known a).spot None e (and_right (list_all g (seen_access known a).slots) (list_all g (seen known e).slots) f) spots.1 (λ d is. absurd (none_some d is)) w.0 n k t z o)
    where
      none_some : (d : Compound) → None ≡ Some d → ⊥
      none_some d e = cc
  plain_twin (plain.Set (target.Cell a) (Some d) e) g f m w =
      let spots : _ = all_apart (SpotGet i) (seen_access known a).spots (seen known e).spots m.1 in
      cell_on g g a (and_left (list_all g (seen_access known a).slots) (list_all g (seen known e).slots) f) spots.0 (assign h (left c) (Some d) e) (assign h' (right c) (Some d) e)
      (λ n k t z o. assign_cell g (seen_access known a).spot (Some d) e (and_right (list_all g (seen_access known a).slots) (list_all g (seen known e).slots) f) spots.1 (λ x is. m.0) w.0 n k t z o)
  plain_twin (plain.Return e) g a m w = expr_on g g e a m (λ v. pure (Returned v)) (λ v. pure (Returned v)) (λ v s u k. (refl, k))
  plain_twin (plain.Call function arguments at) g a m w =
      value_on g g (Any i) (each (map (expr_of h (left c)) arguments) []) (each (map (expr_of h' (right c)) arguments) []) _ _ (arguments_twin g arguments [] a m) (λ vs v.
      value_on g g (Any i) (call (left c) function vs) (call (right c) function vs) (λ v. pure Next) (λ v. pure Next) (call_twin i g function vs) (λ v w. next_twin g))
  plain_twin (plain.Print format arguments at) g a m w =
      value_on g g (Any i) (each (map (expr_of h (left c)) arguments) []) (each (map (expr_of h' (right c)) arguments) []) _ _ (arguments_twin g arguments [] a m) (λ vs v.
      value_on g g (Any i) (write (printed format vs)) (write (printed format vs)) (λ v. pure Next) (λ v. pure Next) (write_twin g (printed format vs)) (λ v w. next_twin g))
  plain_twin (plain.Scan (target.Scalar slot place) at) g a m w =
      value_on g g (Any i) taken taken _ _ (inputs_twin g) (λ n v.
      value_on g g (Any i) (set_taken (scan_of (scalar_type c.program slot) c.input n).1) (set_taken (scan_of (scalar_type c.program slot) c.input n).1) _ _ (set_taken_twin g _) (λ v w.
      scan_scalar g slot (unknown_is (known slot) a) (scan_of (scalar_type c.program slot) c.input n).0))
  plain_twin (plain.Scan (target.Cell a) at) g f m w =
      cell_on g g a f m (scan h (left c)) (scan h' (right c)) (λ n k t z o.
      value_on g g (Any i) taken taken _ _ (inputs_twin g) (λ x v.
      value_on g g (Any i) (set_taken (scan_of (array_type c.program (seen_access known a).spot.array) c.input x).1) (set_taken (scan_of (array_type c.program (seen_access known a).spot.array) c.input x).1) _ _ (set_taken_twin g _) (λ v y.
      scan_cell g (seen_access known a).spot w.0 n k t z o (scan_of (array_type c.program (seen_access known a).spot.array) c.input x).0)))
  plain_twin (plain.Sync status at) g a m w = no_fit a
  plain_twin (plain.Reflect arrays at) g a m w = no_fit a
  plain_twin (plain.Barrier at) g a m w = no_fit a
  plain_twin (plain.Cast variables from at) g a m w = no_fit a
  plain_twin (plain.Gmove to from at) g a m w = no_fit a

  plain_within : (q : Plain) (g : ℕ → Bool) → Within g (plain_verdict known g q).agreed
  plain_within (plain.Declare slot value at) g = within_slot slot g
  plain_within (plain.Set (target.Scalar slot place) compound e) g = within_slot slot g
  plain_within (plain.Set (target.Cell a) compound e) g = same_within g
  plain_within (plain.Return e) g = same_within g
  plain_within (plain.Call function arguments at) g = same_within g
  plain_within (plain.Print format arguments at) g = same_within g
  plain_within (plain.Scan (target.Scalar slot place) at) g = same_within g
  plain_within (plain.Scan (target.Cell a) at) g = same_within g
  plain_within (plain.Sync status at) g = same_within g
  plain_within (plain.Reflect arrays at) g = same_within g
  plain_within (plain.Barrier at) g = same_within g
  plain_within (plain.Cast variables from at) g = same_within g
  plain_within (plain.Gmove to from at) g = same_within g

  -- ---- counted loops

  abbrev begin_left : LoopHead → ℤ → Run X ℕ
  begin_left head from = set_scalar head.index.number (wrap Int from) >>= (λ u. expr_of h (left c) head.to >>= (λ to. pure (turn_count (wrap Int from) (wrap Int to) head.inclusive head.step)))

  abbrev begin_right : LoopHead → ℤ → Run Y ℕ
  begin_right head from = set_scalar head.index.number (wrap Int from) >>= (λ u. expr_of h' (right c) head.to >>= (λ to. pure (turn_count (wrap Int from) (wrap Int to) head.inclusive head.step)))

  entering_twin : (g : ℕ → Bool) (head : LoopHead) → known head.index.number ≡ None → list_all g (seen known head.from).slots ≡ true → AllByRecursion (SpotGet i) (seen known head.from).spots
      → list_all (with_slot head.index.number g) (seen known head.to).slots ≡ true → AllByRecursion (SpotGet i) (seen known head.to).spots
      → (s : State X) (u : State Y) → K g s u → StepsMeet (K g) (λ a b t z. (a ≡ b) × K (with_slot head.index.number g) t z) (entering h (left c) head s) (entering h' (right c) head u)
  entering_twin g head none a m b n s u k =
      meet_on (K g) (Same i g (IsKnown (seen known head.from).value)) (λ a b t z. (a ≡ b) × K (with_slot head.index.number g) t z) (begin_left head) (begin_right head) (expr_of h (left c) head.from s) (expr_of h' (right c) head.from u)
      (expr_twin i g head.from a m s u k) (λ v w t z q. subst (λ y. StepsMeet (K g) (λ a b t z. (a ≡ b) × K (with_slot head.index.number g) t z) (begin_left head v t) (begin_right head y z)) q.0 (then_bound v t z q.1))
    where
      then_bound : (v : ℤ) (t : State X) (z : State Y) → K g t z → StepsMeet (K g) (λ a b t z. (a ≡ b) × K (with_slot head.index.number g) t z) (begin_left head v t) (begin_right head v z)
      then_bound v t z k =
          let e : ℕ → Bool = with_slot head.index.number g in
          let t' : State X = record t { scalars = slice_set t.scalars head.index.number (wrap Int v) } in
          let z' : State Y = record z { scalars = slice_set z.scalars head.index.number (wrap Int v) } in
          meet_on (K g) (Same i e (IsKnown (seen known head.to).value)) (λ a b t z. (a ≡ b) × K e t z) (λ to. pure (turn_count (wrap Int v) (wrap Int to) head.inclusive head.step)) (λ to. pure (turn_count (wrap Int v) (wrap Int to) head.inclusive head.step))
          (expr_of h (left c) head.to t') (expr_of h' (right c) head.to z')
          (meet_weaker (K e) (K g) (Same i e (IsKnown (seen known head.to).value)) (Same i e (IsKnown (seen known head.to).value)) (expr_of h (left c) head.to t') (expr_of h' (right c) head.to z')
          (less g e (within_slot head.index.number g)) (λ a b s u q. q)
          (expr_twin i e head.to b n t' z' (i.sets_scalar g t z head.index.number (wrap Int v) none k)))
          (λ a b s u q. ((λ j. turn_count (wrap Int v) (wrap Int (q.0 j)) head.inclusive head.step), q.1))

  inside_twin : (g : ℕ → Bool) (head : LoopHead) → g head.index.number ≡ true → list_all g (seen known head.to).slots ≡ true → AllByRecursion (SpotGet i) (seen known head.to).spots
      → Twin i g (Any i) (inside h (left c) head) (inside h' (right c) head)
  inside_twin g head e a m =
      same_on i g (IsKnown (known head.index.number)) (Any i) (scalar head.index.number) (scalar head.index.number)
      (λ v. expr_of h (left c) head.to >>= (λ to. pure (is_inside head.inclusive v (wrap Int to)))) (λ v. expr_of h' (right c) head.to >>= (λ to. pure (is_inside head.inclusive v (wrap Int to))))
      (scalar_twin i g head.index.number e) (λ v kv.
      same_on i g (IsKnown (seen known head.to).value) (Any i) (expr_of h (left c) head.to) (expr_of h' (right c) head.to)
      (λ to. pure (is_inside head.inclusive v (wrap Int to))) (λ to. pure (is_inside head.inclusive v (wrap Int to))) (expr_twin i g head.to a m) (λ to kt. gives i g (Any i) (is_inside head.inclusive v (wrap Int to)) tt))

  step_up_twin : (g : ℕ → Bool) (head : LoopHead) → g head.index.number ≡ true → known head.index.number ≡ None → FlowTwin g g (step_up head) (step_up head)
  step_up_twin g head e none = value_on g g (IsKnown (known head.index.number)) (scalar head.index.number) (scalar head.index.number)
      (λ v. set_scalar head.index.number (wrap Int (v +ℤ pos head.step)) >>= (λ u. pure Next)) (λ v. set_scalar head.index.number (wrap Int (v +ℤ pos head.step)) >>= (λ u. pure Next)) (scalar_twin i g head.index.number e) (λ v kv s u k.
      flow_less g g g (with_slot head.index.number g) (same_within g) (within_slot head.index.number g)
      (set_scalar head.index.number (wrap Int (v +ℤ pos head.step)) >>= (λ u. pure Next)) (set_scalar head.index.number (wrap Int (v +ℤ pos head.step)) >>= (λ u. pure Next))
      (set_twin g head.index.number (wrap Int (v +ℤ pos head.step)) none) s u k)

  counted_twin : (g f : ℕ → Bool) (head : LoopHead) → known head.index.number ≡ None → list_all g (seen known head.from).slots ≡ true → AllByRecursion (SpotGet i) (seen known head.from).spots
      → list_all (with_slot head.index.number g) (seen known head.to).slots ≡ true → AllByRecursion (SpotGet i) (seen known head.to).spots
      → (body : Run X Flow) (body' : Run Y Flow) → Within (with_slot head.index.number g) f → FlowTwin (with_slot head.index.number g) f body body'
      → FlowTwin g (with_slot head.index.number g) (counted h (left c) head body) (counted h' (right c) head body')
  counted_twin g f head none a m b n body body' w t s u k =
      meet_on (K g) (λ a b t z. (a ≡ b) × K e t z) (AfterFlow (K g) (K e)) (λ n. turns n (inside h (left c) head) (then_run body (step_up head))) (λ n. turns n (inside h' (right c) head) (then_run body' (step_up head)))
      (entering h (left c) head s) (entering h' (right c) head u) (entering_twin g head none a m b n s u k) (λ x y t z q.
      subst (λ y. StepsMeet (K g) (AfterFlow (K g) (K e)) (turns x (inside h (left c) head) (then_run body (step_up head)) t) (turns y (inside h' (right c) head) (then_run body' (step_up head)) z)) q.0
      (flow_less e g e e (within_slot head.index.number g) (same_within e) (turns x (inside h (left c) head) (then_run body (step_up head))) (turns x (inside h' (right c) head) (then_run body' (step_up head)))
      (turns_twin e x (inside h (left c) head) (inside h' (right c) head) (then_run body (step_up head)) (then_run body' (step_up head)) (inside_twin e head (slot_within head.index.number g) b n)
      turn_twin) t z q.1))
    where
      e : ℕ → Bool
      e = with_slot head.index.number g

      turn_twin : FlowTwin (with_slot head.index.number g) (with_slot head.index.number g) (then_run body (step_up head)) (then_run body' (step_up head))
      turn_twin s u k = flow_less (with_slot head.index.number g) (with_slot head.index.number g) (with_slot head.index.number g) f (same_within (with_slot head.index.number g)) w (then_run body (step_up head)) (then_run body' (step_up head))
          (then_twin (with_slot head.index.number g) f f w body (step_up head) body' (step_up head) t (step_up_twin f head (w head.index.number (slot_within head.index.number g)) none)) s u k

  -- ---- statements

  abbrev Fits : Looked → (ℕ → Bool) → Run X Flow → Run Y Flow → Type 0
  Fits w g p q = (w.judge g).fits ≡ true → AllByRecursion (SpotGet i) w.reads → AllByRecursion SpotPut w.writes → FlowTwin g (w.judge g).agreed p q

  abbrev pub LookTwin : Looked → Run X Flow → Run Y Flow → Type 0
  LookTwin w p q = (g : ℕ → Bool) → Within g (w.judge g).agreed × Fits w g p q

  abbrev StmtTwin : Stmt → Type 0
  StmtTwin s = LookTwin (look known s) (stmt_of h (left c) s) (stmt_of h' (right c) s)

  abbrev TaskTwin : Task → Type 0
  TaskTwin t = Unit {0}

  abbrev task_of : {Z : Type 0} → Handlers Z → Context → Task → TaskRun Z
  task_of {Z} f cx = fold-Task (Run Z Flow) (TaskRun Z) (stmt_step f cx) task_step

  abbrev look_in_task : Task → Looked
  look_in_task = fold-Task Looked Looked (look_step known) look_task

  module _ {C D : Type 0} (p : C → Stmt) (q : D → Task) (j : (x : C) → StmtTwin (p x)) where
    abbrev of_stmt : {Z : Type 0} → Handlers Z → Context → Stmt-F C D → Run Z Flow
    of_stmt {Z} f cx y = stmt_step f cx (map-Stmt Stmt Task (Run Z Flow) (TaskRun Z) (stmt_of f cx) (task_of f cx) (map-Stmt C D Stmt Task p q y))

    abbrev of_look : Stmt-F C D → Looked
    of_look y = look_step known (map-Stmt Stmt Task Looked Looked (look known) look_in_task (map-Stmt C D Stmt Task p q y))

    abbrev look_at : C → Looked
    look_at x = look known (p x)

    abbrev run_left : C → Run X Flow
    run_left x = stmt_of h (left c) (p x)

    abbrev run_right : C → Run Y Flow
    run_right x = stmt_of h' (right c) (p x)

    abbrev all_looks : List C → List Looked
    all_looks cs = map (look known) (map p cs)

    block_within : (cs : List C) (g : ℕ → Bool) → Within g (judge_all (all_looks cs) g).agreed
    block_within [] g slot e = e
    block_within (x ∷ cs) g slot e = block_within cs ((look_at x).judge g).agreed slot ((j x g).0 slot e)

    block_twin : (cs : List C) (g : ℕ → Bool) → (judge_all (all_looks cs) g).fits ≡ true → AllByRecursion (SpotGet i) (flat_map (λ s. s.reads) (all_looks cs))
        → AllByRecursion SpotPut (flat_map (λ s. s.writes) (all_looks cs))
        → FlowTwin g (judge_all (all_looks cs) g).agreed (block (map (stmt_of h (left c)) (map p cs))) (block (map (stmt_of h' (right c)) (map p cs)))
    block_twin [] g a m w = next_twin g
    block_twin (x ∷ cs) g a m w =
        let reads : _ = all_apart (SpotGet i) (look_at x).reads (flat_map (λ s. s.reads) (all_looks cs)) m in
        let writes : _ = all_apart SpotPut (look_at x).writes (flat_map (λ s. s.writes) (all_looks cs)) w in
        then_twin g ((look_at x).judge g).agreed (judge_all (all_looks cs) ((look_at x).judge g).agreed).agreed (j x g).0 (run_left x) (block (map (stmt_of h (left c)) (map p cs))) (run_right x) (block (map (stmt_of h' (right c)) (map p cs)))
        ((j x g).1 (and_left _ (judge_all (all_looks cs) ((look_at x).judge g).agreed).fits a) reads.0 writes.0)
        (block_twin cs ((look_at x).judge g).agreed (and_right ((look_at x).judge g).fits _ a) reads.1 writes.1)

    both_agreed : (a b f : ℕ → Bool) → Within f a → Within f b → Within f (λ n. a n && b n)
    both_agreed a b f v w n e = of_tests (a n) (b n) (v n e) (w n e)
      where
        of_tests : (x y : Bool) → x ≡ true → y ≡ true → (x && y) ≡ true
        of_tests true y e f = f
        of_tests false y e f = absurd (true≢false (sym e))

    holds_twin : (g : ℕ → Bool) (e : Expr) → list_all g (seen known e).slots ≡ true → AllByRecursion (SpotGet i) (seen known e).spots
        → Twin i g (Any i) (holds (expr_of h (left c) e)) (holds (expr_of h' (right c) e))
    holds_twin g e a m = same_on i g (IsKnown (seen known e).value) (Any i) (expr_of h (left c) e) (expr_of h' (right c) e) _ _ (expr_twin i g e a m) (λ v kv. gives i g (Any i) _ tt)

    if_twin : (g : ℕ → Bool) (e : Expr) (x y : C) → Fits (of_look (Stmt-F.If e x y)) g (of_stmt h (left c) (Stmt-F.If e x y)) (of_stmt h' (right c) (Stmt-F.If e x y))
    if_twin g e x y a m w =
        let spots : _ = all_apart (SpotGet i) (seen known e).spots ((look_at x).reads ++ (look_at y).reads) m in
        let reads : _ = all_apart (SpotGet i) (look_at x).reads (look_at y).reads spots.1 in
        let writes : _ = all_apart SpotPut (look_at x).writes (look_at y).writes w in
        let rest : _ = and_right (list_all g (seen known e).slots) (((look_at x).judge g).fits && ((look_at y).judge g).fits) a in
        let f : ℕ → Bool = λ n. ((look_at x).judge g).agreed n && ((look_at y).judge g).agreed n in
        value_on g f (Any i) (holds (expr_of h (left c) e)) (holds (expr_of h' (right c) e)) _ _
        (holds_twin g e (and_left (list_all g (seen known e).slots) (((look_at x).judge g).fits && ((look_at y).judge g).fits) a) spots.0) (λ v u.
        choose_twin g f v (run_left x) (run_left y) (run_right x) (run_right y)
        (flow_less g g f ((look_at x).judge g).agreed (same_within g) (λ n e. and_left (((look_at x).judge g).agreed n) (((look_at y).judge g).agreed n) e) (run_left x) (run_right x)
        ((j x g).1 (and_left ((look_at x).judge g).fits ((look_at y).judge g).fits rest) reads.0 writes.0))
        (flow_less g g f ((look_at y).judge g).agreed (same_within g) (λ n e. and_right (((look_at x).judge g).agreed n) (((look_at y).judge g).agreed n) e) (run_left y) (run_right y)
        ((j y g).1 (and_right ((look_at x).judge g).fits ((look_at y).judge g).fits rest) reads.1 writes.1)))

    stmt_twin_step : (y : Stmt-F C D) → LookTwin (of_look y) (of_stmt h (left c) y) (of_stmt h' (right c) y)
    stmt_twin_step (Stmt-F.Plain s) g = (plain_within s g, plain_twin s g)
    stmt_twin_step (Stmt-F.Block all) g = (block_within all g, block_twin all g)
    stmt_twin_step (Stmt-F.If e x y) g = (both_agreed ((look_at x).judge g).agreed ((look_at y).judge g).agreed g (j x g).0 (j y g).0, if_twin g e x y)
    stmt_twin_step (Stmt-F.While e body at) g = (
      same_within g,
      (λ a m w.
          let spots : _ = all_apart (SpotGet i) (seen known e).spots (look_at body).reads m in
          while_twin g (holds (expr_of h (left c) e)) (holds (expr_of h' (right c) e)) (run_left body) (run_right body)
          (holds_twin g e (and_left (list_all g (seen known e).slots) ((look_at body).judge g).fits a) spots.0)
          (flow_less g g g ((look_at body).judge g).agreed (same_within g) (j body g).0 (run_left body) (run_right body)
          ((j body g).1 (and_right (list_all g (seen known e).slots) ((look_at body).judge g).fits a) spots.1 w))),
    )
    stmt_twin_step (Stmt-F.Counted head body) g = (
      within_slot head.index.number g,
      (λ a m w.
          let e : ℕ → Bool = with_slot head.index.number g in
          let from_slots : Bool = list_all g (seen known head.from).slots in
          let to_slots : Bool = list_all (with_slot head.index.number g) (seen known head.to).slots in
          let from : _ = all_apart (SpotGet i) (seen known head.from).spots ((seen known head.to).spots ++ (look_at body).reads) m in
          let to : _ = all_apart (SpotGet i) (seen known head.to).spots (look_at body).reads from.1 in
          let first : _ = and_right (is_none (known head.index.number)) (from_slots && (to_slots && ((look_at body).judge e).fits)) a in
          let second : _ = and_right from_slots (to_slots && ((look_at body).judge e).fits) first in
          counted_twin g ((look_at body).judge e).agreed head (unknown_is (known head.index.number) (and_left (is_none (known head.index.number)) (from_slots && (to_slots && ((look_at body).judge e).fits)) a))
          (and_left from_slots (to_slots && ((look_at body).judge e).fits) first) from.0 (and_left to_slots ((look_at body).judge e).fits second) to.0 (run_left body) (run_right body) (j body e).0
          ((j body e).1 (and_right to_slots ((look_at body).judge e).fits second) to.1 w)),
    )
    stmt_twin_step (Stmt-F.Loop directive body) g = (same_within g, (λ a m w. no_fit a))
    stmt_twin_step (Stmt-F.Tasks all at) g = (same_within g, (λ a m w. no_fit a))

  stmt_rolls : {u u' : Run X Flow} {v v' : Run Y Flow} {w w' : Looked} → u ≡ u' → v ≡ v' → w ≡ w' → LookTwin w' u' v' → LookTwin w u v
  stmt_rolls {u} {u'} {v} {v'} {w} {w'} a b e r =
      subst (λ z. LookTwin z u v) (sym e) (subst (λ z. LookTwin w' z v) (sym a) (subst (λ z. LookTwin w' u' z) (sym b) r))

  pub stmt_twin : (s : Stmt) → StmtTwin s
  stmt_twin = ind-Stmt StmtTwin TaskTwin
      (λ x y is. subst (λ z. StmtTwin (roll-Stmt z)) is
      (stmt_rolls (fold-roll-Stmt (Run X Flow) (TaskRun X) (stmt_step h (left c)) task_step _) (fold-roll-Stmt (Run Y Flow) (TaskRun Y) (stmt_step h' (right c)) task_step _)
      (fold-roll-Stmt Looked Looked (look_step known) look_task _) (stmt_twin_step (λ c. c.0) (λ c. c.0) (λ c. c.1) y)))
      (λ x y is. tt)
