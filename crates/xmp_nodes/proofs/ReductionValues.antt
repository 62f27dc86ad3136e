-- What the parts of a reduction form give in both runs: one value, and the states as they were.
use Rattle.std.proofs.Common.{◌≡◌, ◌<◌, ◌⊎◌, inl, inr, ℕ, zero, suc, ℤ, pos, Bool, true, false, true≢false, List, [], ◌∷◌, length, Option, Some, None, Ok, refl, sym, subst, ap, ◌∙◌, if◌then◌else◌, arith}
use Rattle.std.specs.Prelude.{slice_get, slice_set, unwrap_or, int_lt}
use Rattle.std.specs.Int.{int_max, int_min}
use Rattle.std.specs.List.{AllByRecursion}
use Rattle.std.proofs.lemmas.Int.{ints}
use Rattle.xmp_num.specs.declared.types.RedOp.{RedOp}
use Rattle.xmp_num.specs.declared.types.RedOp.TheVariants as red
use Rattle.xmp_num.specs.declared.types.BinOp.{BinOp}
use Rattle.xmp_num.specs.declared.types.BinOp.TheVariants as op
use Rattle.xmp_num.specs.declared.types.Ty.{Ty}
use Rattle.xmp_num.specs.Arithmetic.{FitsType, binary_of, truth}
use Rattle.xmp_num.specs.Reduction.{combine_of}
use Rattle.xmp_paths.specs.NodeSets.{has}
use Rattle.xmp_paths.specs.Plans.{Plan, Path, in_order}
use Rattle.xmp_paths.specs.Safe.{left}
use Rattle.xmp_paths.specs.declared.event.Event.{Event}
use Rattle.xmp_paths.proofs.PathLaws.{some_path}
use Rattle.xmp_prog.specs.declared.expressions.Expr.{Expr}
use Rattle.xmp_prog.specs.declared.statements.LoopDirective.{LoopDirective}
use Rattle.xmp_prog.specs.Terms.{terms_of, type_of}
use Rattle.xmp_prog.specs.Fits.{node_count}
use Rattle.xmp_loops.specs.Forms.{goes_before, goes_behind}
use Rattle.xmp_loops.specs.declared.role.Role.TheVariants.{Shared, Reduced}
use Rattle.xmp_flow.specs.Reads.{reads_of}
use Rattle.xmp_meaning.specs.declared.ends.End.{End}
use Rattle.xmp_meaning.specs.declared.ends.Flow.{Flow}
use Rattle.xmp_meaning.specs.declared.ends.Flow.TheVariants.{Next}
use Rattle.xmp_meaning.specs.Runs.{State, Step, Gave, Ended, Run, and_then}
use Rattle.xmp_meaning.specs.Declarations.{scalar_type}
use Rattle.xmp_meaning.specs.Handlers.{erased}
use Rattle.xmp_meaning.specs.Expressions.{expr_of}
use Rattle.xmp_meaning.specs.Exchanges.{Notes}
use Rattle.xmp_meaning.specs.Traffic.{node_context}
use Rattle.xmp_meaning_laws.specs.Laws.{TakesNoStep, GivesA, scalar_in}
use Rattle.xmp_meaning_laws.specs.Agreement.{seen, StepsMeet, IsKnown}
use Rattle.xmp_meaning_laws.proofs.Types.{expressions_lie}
use Rattle.xmp_nodes.proofs.Agrees.{Stand, Agrees, EndsSo, Along}
use Rattle.xmp_nodes.proofs.Standing.{TermStands, IsSetting}
use Rattle.xmp_nodes.proofs.Leaves.{serial_cx}
use Rattle.xmp_nodes.proofs.Follow.{agrees_fewer}
use Rattle.xmp_nodes.proofs.MetEvents.{EachEvent, EachOf, NoMark, IsFine}
use Rattle.xmp_nodes.proofs.ElementCells.{known_in}
use Rattle.xmp_nodes.proofs.NodeExpressions.{terms_fit, agreed, Beside}
use Rattle.xmp_nodes.proofs.NodeReads.{seen_good, expr_meets, expr_steps}
use Rattle.xmp_nodes.proofs.ExpressionsCarried.{near_out, first_below}
use Rattle.xmp_nodes.proofs.NearSteps.{keeps_front}
use Rattle.xmp_nodes.proofs.WideBits.{same_operators}
use Rattle.xmp_nodes.proofs.PlainWrites.{with_scalar}
use Rattle.xmp_nodes.proofs.SumWrites.{agrees_sum, sum_framed}

-- ---- comparisons

pick_max : (a b : ℤ) → (if int_lt a b then b else a) ≡ int_max a b
pick_max a b = at_tests (int_lt a b) (int_lt b a) refl refl
  where
    at_tests : (x y : Bool) → int_lt a b ≡ x → int_lt b a ≡ y → (if x then b else a) ≡ (if y then a else b)
    at_tests true true e f = absurd (both a b e f)
      where
        both : (a b : ℤ) → int_lt a b ≡ true → int_lt b a ≡ true → ⊥
        both a b e f = grind (arith, ints)
    at_tests true false e f = refl
    at_tests false true e f = refl
    at_tests false false e f = equal a b e f
      where
        equal : (a b : ℤ) → int_lt a b ≡ false → int_lt b a ≡ false → a ≡ b
        equal a b e f = grind (arith, ints)

pick_min : (a b : ℤ) → (if int_lt b a then b else a) ≡ int_min a b
pick_min a b = refl

-- a test that says whether the new value goes before the old one as a maximum or a minimum
pub record Picks (r : RedOp) (o : BinOp) (ty : Ty) (x y old new : ℤ) : Type 0 where
  pub test : Bool
  pub given : binary_of o ty x y ≡ Ok (truth test)
  pub picked : (if test then new else old) ≡ combine_of r ty old new

pub picks_before : (r : RedOp) (o : BinOp) (ty : Ty) (old new : ℤ) → goes_before r o ≡ true → Picks r o ty new old old new
unfolding binary_of combine_of
picks_before red.Max o ty old new e = subst (λ z. Picks red.Max z ty new old old new) (same_operators op.Greater o e) (record { test = int_lt old new; given = refl; picked = pick_max old new })
picks_before red.Min o ty old new e = subst (λ z. Picks red.Min z ty new old old new) (same_operators op.Less o e) (record { test = int_lt new old; given = refl; picked = pick_min old new })
picks_before red.Add o ty old new e = absurd (true≢false (sym e))
picks_before red.Mul o ty old new e = absurd (true≢false (sym e))
picks_before red.And o ty old new e = absurd (true≢false (sym e))
picks_before red.Or o ty old new e = absurd (true≢false (sym e))
picks_before red.Xor o ty old new e = absurd (true≢false (sym e))

pub picks_behind : (r : RedOp) (o : BinOp) (ty : Ty) (old new : ℤ) → goes_behind r o ≡ true → Picks r o ty old new old new
unfolding binary_of combine_of
picks_behind red.Max o ty old new e = subst (λ z. Picks red.Max z ty old new old new) (same_operators op.Less o e) (record { test = int_lt old new; given = refl; picked = pick_max old new })
picks_behind red.Min o ty old new e = subst (λ z. Picks red.Min z ty old new old new) (same_operators op.Greater o e) (record { test = int_lt new old; given = refl; picked = pick_min old new })
picks_behind red.Add o ty old new e = absurd (true≢false (sym e))
picks_behind red.Mul o ty old new e = absurd (true≢false (sym e))
picks_behind red.And o ty old new e = absurd (true≢false (sym e))
picks_behind red.Or o ty old new e = absurd (true≢false (sym e))
picks_behind red.Xor o ty old new e = absurd (true≢false (sym e))

-- a scalar set to what it is stays
pub set_same : (xs : List ℤ) (i : ℕ) → slice_set xs i (unwrap_or (slice_get xs i) (pos 0)) ≡ xs
set_same [] i = refl
set_same (x ∷ xs) zero = refl
set_same (x ∷ xs) (suc i) = ap (λ l. x ∷ l) (set_same xs i)

-- ---- both runs of an expression

module _ (a : Stand) (is : IsSetting a) (there : has a.set.nodes a.node ≡ true) (input : List ℕ) (stale : ℕ → Bool) (s : State Notes) (n : State (Unit {0})) (g : Agrees a stale s n) where
  -- both give one value of the type and leave their states, or both come to one end
  abbrev pub Value : Ty → Step Notes ℤ → Step (Unit {0}) ℤ → Type 0
  Value ty r q = (v : ℤ) × FitsType ty v × (r ≡ Gave v s) × (q ≡ Gave v n)

  abbrev pub Stop : Step Notes ℤ → Step (Unit {0}) ℤ → Type 0
  Stop r q = (f : End) × (t : State Notes) × (m : State (Unit {0})) × (r ≡ Ended f t) × (q ≡ Ended f m) × EndsSo a f t f m

  came : (ty : Ty) (V : ℤ → Type 0) (r : Step Notes ℤ) (q : Step (Unit {0}) ℤ) → TakesNoStep s.steps r → GivesA ty r
      → StepsMeet (Beside a is there input stale s n g (agreed a stale)) (λ v w t m. (v ≡ w) × Beside a is there input stale s n g (agreed a stale) t m × V v) r q → Value ty r q ⊎ Stop r q
  came ty V (Gave v t) (Gave w m) h lies k =
      let same_serial : t ≡ s = k.1.serial ∙ ap (λ x. record s { steps = x }) h in
      let same_own : m ≡ n = k.1.own ∙ ap (λ x. record n { steps = x }) (sym k.1.steps ∙ (h ∙ sym g.steps)) in
      inl (v, lies, ap (Gave v) same_serial, (λ j. Gave (sym k.0 j) (same_own j)))
  came ty V (Gave v t) (Ended e m) h lies k = absurd k
  came ty V (Ended e t) (Gave w m) h lies k = absurd k
  came ty V (Ended e t) (Ended f m) h lies k =
      inr (e, t, m, refl, ap (λ z. Ended z m) (sym k.0), record { same = refl; out = near_out a is there input stale s n g t m k.1 })

  pub value_or_stop : (e : Expr) → a.set.inside ≡ true → AllByRecursion (TermStands a.program) (terms_of a.program e) → EachEvent (IsFine a.node stale) (reads_of e a.set)
      → Value (type_of a.program e) (expr_of erased (serial_cx a.program input) e s) (expr_of erased (node_context a.program a.node input) e n)
      ⊎ Stop (expr_of erased (serial_cx a.program input) e s) (expr_of erased (node_context a.program a.node input) e n)
  value_or_stop e inside terms h =
      came (type_of a.program e) (IsKnown (seen (known_in a s) e).value) (expr_of erased (serial_cx a.program input) e s) (expr_of erased (node_context a.program a.node input) e n)
      (expr_steps a is there input stale s n g e inside (seen_good a is there input stale s n g e terms h).2)
      (expressions_lie Notes a.program 0 input _ e (first_below a.node (node_count a.program) is.below) (terms_fit a.program (terms_of a.program e) terms) s g.whole.values).0
      (expr_meets a is there input stale s n g e terms h)

  -- an end is the end of what follows
  pub stop_along : {A : Type 0} (V : A → Type 0) (plan : Plan Event) (r : Step Notes ℤ) (q : Step (Unit {0}) ℤ) (f : ℤ → Run Notes A) (h : ℤ → Run (Unit {0}) A) → Stop r q → Along a V plan stale s n (and_then r f) (and_then q h)
  stop_along V plan r q f h k =
      subst (λ z. Along a V plan stale s n (and_then z f) (and_then q h)) (sym k.3) (subst (λ z. Along a V plan stale s n (Ended k.0 k.1) (and_then z h)) (sym k.4) k.5)

  -- both combine the variable with one value
  pub sum_along : (W : Flow → Type 0) → W Next → (ps : List (Plan Event)) → EachOf NoMark ps → (slot : ℕ) (op : RedOp) (role : a.set.roles slot ≡ Reduced op) → slot < length a.program.scalars
      → (d : ℤ) → FitsType (scalar_type a.program slot) d → (v w : ℤ) → v ≡ combine_of op (scalar_type a.program slot) (scalar_in s slot) d → w ≡ combine_of op (scalar_type a.program slot) (scalar_in n slot) d
      → Along a W (in_order ps) stale s n (Gave Next (with_scalar slot v s)) (Gave Next (with_scalar slot w n))
  sum_along W next ps clear slot op role lies d fits v w e f =
      let way : (es : List Event) × Path (in_order ps) es = some_path (in_order ps) in
      record {
        same = refl;
        value = next;
        way = way.0;
        path = way.1;
        agrees = subst (λ z. Agrees a (left a.node way.0 stale) (with_scalar slot z s) (with_scalar slot w n)) (sym e)
            (subst (λ z. Agrees a (left a.node way.0 stale) (with_scalar slot (combine_of op (scalar_type a.program slot) (scalar_in s slot) d) s) (with_scalar slot z n)) (sym f)
            (agrees_fewer a stale (left a.node way.0 stale) _ _ (λ object k. sym (keeps_front a.node ps clear stale way.0 way.1 object) ∙ k) (agrees_sum a is slot op role lies stale s n d fits g)));
        framed = sum_framed a is slot op role lies s v;
      }

-- a reduction variable stands in a loop directive
pub in_loop : (a : Stand) → IsSetting a → (slot : ℕ) (op : RedOp) → a.set.roles slot ≡ Reduced op → a.set.inside ≡ true
in_loop a is slot op role = of_over a.set.over refl
  where
    of_over : (o : Option LoopDirective) → a.set.over ≡ o → a.set.inside ≡ true
    of_over None e = let bad : Shared ≡ Reduced op = sym (is.shared e slot) ∙ role in cc
    of_over (Some d) e = (is.directive d e).inside
