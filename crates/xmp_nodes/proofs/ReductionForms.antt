-- An assignment to a reduction variable in one of its forms: both runs combine the variable with one value.
use Rattle.std.proofs.Common.{◌≡◌, ◌++◌, ◌&&◌, ◌||◌, not, ℕ, ℤ, Bool, true, false, true≢false, List, Some, None, Ok, refl, sym, subst, ap, ◌∙◌, if◌then◌else◌, arith}
use Rattle.std.specs.List.{AllByRecursion}
use Rattle.std.proofs.lemmas.Int.{ints, int_wrap_fits}
use Rattle.xmp_base.specs.declared.place.Place.{Place}
use Rattle.xmp_num.specs.declared.types.RedOp.{RedOp}
use Rattle.xmp_num.specs.declared.types.RedOp.TheVariants as red
use Rattle.xmp_num.specs.declared.types.BinOp.{BinOp}
use Rattle.xmp_num.specs.declared.types.BinOp.TheVariants as op
use Rattle.xmp_num.specs.declared.types.Ty.{Ty}
use Rattle.xmp_num.specs.declared.types.Ty.TheVariants.{Int, Long}
use Rattle.xmp_num.specs.Arithmetic.{FitsType, width_of, wrap, binary_of, truth}
use Rattle.xmp_num.specs.Reduction.{combine_of}
use Rattle.xmp_map.proofs.Counted.{and_left, and_right}
use Rattle.xmp_prog.specs.declared.parts.ProgParts.{ProgParts}
use Rattle.xmp_prog.specs.declared.expressions.Expr.{Expr, out-Expr, out-roll-Expr}
use Rattle.xmp_prog.specs.declared.expressions.Access.{Access}
use Rattle.xmp_prog.specs.declared.expressions.Expr.TheVariants as expr
use Rattle.xmp_prog.specs.declared.expressions.Expr.TheOpen.{Expr-F}
use Rattle.xmp_prog.specs.declared.expressions.Expr.TheViews.{roll-Expr, roll-out-Expr}
use Rattle.xmp_prog.specs.Numbers.{same_type}
use Rattle.xmp_prog.specs.Terms.{Typed, typed_step, access_step, terms_of, type_of}
use Rattle.xmp_prog.specs.Tests.{is_shift, right_fits}
use Rattle.xmp_prog.proofs.Rolls.{at_scalar, at_binary, at_choose, at_convert}
use Rattle.xmp_loops.specs.Same.{same}
use Rattle.xmp_loops.specs.Forms.{in_type, in_other_type, if_apart, variable, names, fits_in, goes_before, goes_behind, compared}
use Rattle.xmp_meaning.specs.Runs.{State, Gave, Ended, Run, and_then, ◌>>=◌, or_trap}
use Rattle.xmp_meaning.specs.declared.ends.End.{End}
use Rattle.xmp_meaning.specs.Declarations.{scalar_type}
use Rattle.xmp_meaning.specs.Context.{Context}
use Rattle.xmp_meaning.specs.Handlers.{erased}
use Rattle.xmp_meaning.specs.Expressions.{Element, expr_of, expr_step, is_zero}
use Rattle.xmp_meaning.specs.Expressions as meaning
use Rattle.xmp_meaning_laws.specs.Laws.{scalar_in}
use Rattle.xmp_meaning_laws.proofs.Conditions.{all_apart}
use Rattle.xmp_meaning_laws.proofs.Values.{same_types}
use Rattle.xmp_nodes.proofs.Standing.{TermStands}
use Rattle.xmp_nodes.proofs.WideBits.{Wide, Same, Wider}
use Rattle.xmp_nodes.proofs.SameGives.{same_gives, gave_first}
use Rattle.xmp_nodes.proofs.ReductionValues.{Picks, picks_before, picks_behind}

-- ---- forms

pub if_apart_is : (v : ℕ) (test : Bool) (es : List Expr) (x : Expr) (r : List Expr) → if_apart v test es x ≡ Some r → (test ≡ true) × (es ≡ r)
if_apart_is v test es x r e = of_test test (not (names v x)) e
  where
    of_test : (b c : Bool) → (if b && c then Some es else None) ≡ Some r → (b ≡ true) × (es ≡ r)
    of_test true true e = (refl, (let k : Some es ≡ Some r = e in cc))
    of_test true false e = cc
    of_test false c e = cc

-- an operation's type that is wide enough
pub wide_of : (p : ProgParts) (v : ℕ) (operation : Ty) → fits_in p v operation ≡ true → Wide (scalar_type p v) operation
wide_of p v operation e = of_types (scalar_type p v) operation e
  where
    of_types : (ty operation : Ty) → (same_type ty operation || same_type ty Int) ≡ true → Wide ty operation
    of_types Int Int e = Same refl
    of_types Int Long e = Wider refl
    of_types Long Long e = Same refl
    of_types Long Int e = absurd (true≢false (sym e))

int_is_long : (v : ℤ) → FitsType Int v → FitsType Long v
int_is_long v f = omega (arith, ints)

module _ (p : ProgParts) where
  -- ---- the variable itself

  module _ (X : Type 0) (cx : Context) (s : State X) (slot : ℕ) where
    abbrev old : ℤ
    old = scalar_in s slot

    pub variable_gives : (at : Place) → expr_of erased cx (variable slot at) s ≡ Gave old s
    variable_gives at = ap (λ (r : Run X ℤ). r s) (at_scalar (Run X ℤ) (Element X) (expr_step erased cx) (meaning.access_step cx) slot at)

    pub same_variable : (e : Expr) (at : Place) → same e (variable slot at) ≡ true → expr_of erased cx e s ≡ Gave old s
    same_variable e at h = gave_first X cx (expr_of erased cx e s) (expr_of erased cx (variable slot at) s) old s (same_gives X cx e (variable slot at) h s) (variable_gives at)

    converts : (ty : Ty) (at : Place) → expr_of erased cx (expr.Convert ty (variable slot at)) s ≡ Gave (wrap ty old) s
    converts ty at =
        ap (λ (r : Run X ℤ). r s) (at_convert (Run X ℤ) (Element X) (expr_step erased cx) (meaning.access_step cx) ty (variable slot at))
        ∙ ap (λ r. and_then r (λ v. (λ t. Gave (wrap ty v) t))) (variable_gives at)

    -- the variable in the type of an operation that is wide enough
    pub in_type_gives : (ty : Ty) (at : Place) → FitsType (scalar_type p slot) old → fits_in p slot ty ≡ true → expr_of erased cx (in_type p ty (variable slot at)) s ≡ Gave old s
    in_type_gives ty at fits e = of_test (same_type (type_of p (variable slot at)) ty) refl
      where
        typed_as : type_of p (variable slot at) ≡ scalar_type p slot
        typed_as = ap (λ (t : Typed). t.ty) (at_scalar Typed Typed (typed_step p) (access_step p) slot at)

        fits_wide : (own ty : Ty) → FitsType own old → (same_type own ty || same_type own Int) ≡ true → FitsType ty old
        fits_wide Int Int f e = f
        fits_wide Int Long f e = int_is_long old f
        fits_wide Long Long f e = f
        fits_wide Long Int f e = absurd (true≢false (sym e))

        out : out-Expr (variable slot at) ≡ Expr-F.Scalar slot at
        out = ap out-Expr (sym (expr.rolls-Scalar slot at)) ∙ out-roll-Expr (Expr-F.Scalar slot at)

        of_test : (b : Bool) → same_type (type_of p (variable slot at)) ty ≡ b → expr_of erased cx (in_type p ty (variable slot at)) s ≡ Gave old s
        of_test true k =
            ap (λ b. expr_of erased cx (if b then variable slot at else in_other_type ty (variable slot at) (out-Expr (variable slot at))) s) k
            ∙ variable_gives at
        of_test false k =
            ap (λ b. expr_of erased cx (if b then variable slot at else in_other_type ty (variable slot at) (out-Expr (variable slot at))) s) k
            ∙ (ap (λ o. expr_of erased cx (in_other_type ty (variable slot at) o) s) out
            ∙ (converts ty at ∙ ap (λ v. Gave v s) (int_wrap_fits (width_of ty) old (fits_wide (scalar_type p slot) ty fits e))))

  -- ---- the parts of an expression

  pub record BinaryParts (o : BinOp) (ty : Ty) (x y : Expr) : Type 0 where
    pub first : AllByRecursion (TermStands p) (terms_of p x)
    pub second : AllByRecursion (TermStands p) (terms_of p y)
    pub first_type : type_of p x ≡ ty
    pub second_type : is_shift o ≡ false → type_of p y ≡ ty

  pub binary_parts : (o : BinOp) (ty : Ty) (x y : Expr) (at : Place) → AllByRecursion (TermStands p) (terms_of p (expr.Binary o ty x y at)) → BinaryParts o ty x y
  binary_parts o ty x y at h =
      let all : _ = subst (λ (t : Typed). AllByRecursion (TermStands p) t.terms) (at_binary Typed Typed (typed_step p) (access_step p) o ty x y at) h in
      let both : _ = all_apart (TermStands p) (terms_of p x) (terms_of p y) all.1 in
      record {
        first = both.0;
        second = both.1;
        first_type = sym (same_types ty (type_of p x) (and_left (same_type ty (type_of p x)) (right_fits o ty (type_of p y)) all.0.operands));
        second_type = λ k. sym (same_types ty (type_of p y) (right (is_shift o) k (and_right (same_type ty (type_of p x)) (right_fits o ty (type_of p y)) all.0.operands)));
      }
    where
      right : (b : Bool) → b ≡ false → (b || same_type ty (type_of p y)) ≡ true → same_type ty (type_of p y) ≡ true
      right true k e = absurd (true≢false k)
      right false k e = e

  pub record ChooseParts (q x w : Expr) : Type 0 where
    pub test : AllByRecursion (TermStands p) (terms_of p q)
    pub first : AllByRecursion (TermStands p) (terms_of p x)
    pub second : AllByRecursion (TermStands p) (terms_of p w)

  pub choose_parts : (q x w : Expr) → AllByRecursion (TermStands p) (terms_of p (expr.Choose q x w)) → ChooseParts q x w
  choose_parts q x w h =
      let all : _ = subst (λ (t : Typed). AllByRecursion (TermStands p) t.terms) (at_choose Typed Typed (typed_step p) (access_step p) q x w) h in
      let parts : _ = all_apart (TermStands p) (terms_of p q) (terms_of p x ++ terms_of p w) all.1 in
      let rest : _ = all_apart (TermStands p) (terms_of p x) (terms_of p w) parts.1 in
      record { test = parts.0; first = rest.0; second = rest.1 }

  -- ---- the test of a maximum or a minimum

  no_shift_behind : (r : RedOp) (o : BinOp) → goes_behind r o ≡ true → is_shift o ≡ false
  no_shift_behind r op.Add e = refl
  no_shift_behind r op.Sub e = refl
  no_shift_behind r op.Mul e = refl
  no_shift_behind r op.Div e = refl
  no_shift_behind r op.Rem e = refl
  no_shift_behind red.Max op.Shl e = absurd (true≢false (sym e))
  no_shift_behind red.Min op.Shl e = absurd (true≢false (sym e))
  no_shift_behind red.Add op.Shl e = absurd (true≢false (sym e))
  no_shift_behind red.Mul op.Shl e = absurd (true≢false (sym e))
  no_shift_behind red.And op.Shl e = absurd (true≢false (sym e))
  no_shift_behind red.Or op.Shl e = absurd (true≢false (sym e))
  no_shift_behind red.Xor op.Shl e = absurd (true≢false (sym e))
  no_shift_behind red.Max op.Shr e = absurd (true≢false (sym e))
  no_shift_behind red.Min op.Shr e = absurd (true≢false (sym e))
  no_shift_behind red.Add op.Shr e = absurd (true≢false (sym e))
  no_shift_behind red.Mul op.Shr e = absurd (true≢false (sym e))
  no_shift_behind red.And op.Shr e = absurd (true≢false (sym e))
  no_shift_behind red.Or op.Shr e = absurd (true≢false (sym e))
  no_shift_behind red.Xor op.Shr e = absurd (true≢false (sym e))
  no_shift_behind r op.And e = refl
  no_shift_behind r op.Or e = refl
  no_shift_behind r op.Xor e = refl
  no_shift_behind r op.Less e = refl
  no_shift_behind r op.LessEq e = refl
  no_shift_behind r op.Greater e = refl
  no_shift_behind r op.GreaterEq e = refl
  no_shift_behind r op.Equal e = refl
  no_shift_behind r op.Differ e = refl

  -- What a test gives that compares an expression with the variable: whether the expression's value goes before the old
  -- one; it leaves the state, where the expression does.
  pub record Compares (r : RedOp) (slot : ℕ) (q y : Expr) : Type 1 where
    pub terms : AllByRecursion (TermStands p) (terms_of p y)
    pub types : type_of p y ≡ scalar_type p slot
    pub gives : (X : Type 0) (cx : Context) (s : State X) (v : ℤ) → expr_of erased cx y s ≡ Gave v s
        → (test : Bool) × (expr_of erased cx q s ≡ Gave (truth test) s) × ((if test then v else scalar_in s slot) ≡ combine_of r (scalar_type p slot) (scalar_in s slot) v)
    pub stops : (X : Type 0) (cx : Context) (s : State X) (f : End) (t : State X) → expr_of erased cx y s ≡ Ended f t → expr_of erased cx q s ≡ Ended f t

  module _ (r : RedOp) (slot : ℕ) (o : BinOp) (ty : Ty) (x y : Expr) (at here : Place) (parts : BinaryParts o ty x y) (own : same_type ty (scalar_type p slot) ≡ true) where
    typed_own : ty ≡ scalar_type p slot
    typed_own = same_types ty (scalar_type p slot) own

    binary_run : (X : Type 0) (cx : Context) (s : State X) → expr_of erased cx (expr.Binary o ty x y at) s
        ≡ and_then (expr_of erased cx x s) (λ v. expr_of erased cx y >>= (λ w. or_trap (binary_of o ty v w) at))
    binary_run X cx s = ap (λ (run : Run X ℤ). run s) (at_binary (Run X ℤ) (Element X) (expr_step erased cx) (meaning.access_step cx) o ty x y at)

    -- both operands give values
    both_give : (X : Type 0) (cx : Context) (s : State X) (v w : ℤ) (test : Bool) → expr_of erased cx x s ≡ Gave v s → expr_of erased cx y s ≡ Gave w s → binary_of o ty v w ≡ Ok (truth test)
        → expr_of erased cx (expr.Binary o ty x y at) s ≡ Gave (truth test) s
    both_give X cx s v w test e f k =
        binary_run X cx s
        ∙ (ap (λ z. and_then z (λ v. expr_of erased cx y >>= (λ w. or_trap (binary_of o ty v w) at))) e
        ∙ (ap (λ z. and_then z (λ w. or_trap (binary_of o ty v w) at)) f ∙ ap (λ z. or_trap z at s) k))

    before : goes_before r o ≡ true → same y (variable slot here) ≡ true → Compares r slot (expr.Binary o ty x y at) x
    before b h = record {
      terms = parts.first;
      types = parts.first_type ∙ typed_own;
      gives = λ X cx s v e.
          let k : Picks r o ty v (scalar_in s slot) (scalar_in s slot) v = picks_before r o ty (scalar_in s slot) v b in
          (k.test, both_give X cx s v (scalar_in s slot) k.test e (same_variable X cx s slot y here h) k.given, k.picked ∙ ap (λ z. combine_of r z (scalar_in s slot) v) typed_own);
      stops = λ X cx s f t e. binary_run X cx s ∙ ap (λ z. and_then z (λ v. expr_of erased cx y >>= (λ w. or_trap (binary_of o ty v w) at))) e;
    }

    behind : goes_behind r o ≡ true → same x (variable slot here) ≡ true → Compares r slot (expr.Binary o ty x y at) y
    behind b h = record {
      terms = parts.second;
      types = parts.second_type (no_shift_behind r o b) ∙ typed_own;
      gives = λ X cx s v e.
          let k : Picks r o ty (scalar_in s slot) v (scalar_in s slot) v = picks_behind r o ty (scalar_in s slot) v b in
          (k.test, both_give X cx s (scalar_in s slot) v k.test (same_variable X cx s slot x here h) e k.given, k.picked ∙ ap (λ z. combine_of r z (scalar_in s slot) v) typed_own);
      stops = λ X cx s f t e.
          binary_run X cx s
          ∙ (ap (λ z. and_then z (λ v. expr_of erased cx y >>= (λ w. or_trap (binary_of o ty v w) at))) (same_variable X cx s slot x here h)
          ∙ ap (λ z. and_then z (λ w. or_trap (binary_of o ty (scalar_in s slot) w) at)) e);
    }

  pub compares : (r : RedOp) (slot : ℕ) (q y : Expr) → compared p slot r (out-Expr q) ≡ Some y → AllByRecursion (TermStands p) (terms_of p q) → Compares r slot q y
  compares r slot q y e h = of_form (out-Expr q) (sym (roll-out-Expr q)) e
    where
      of_binary : (o : BinOp) (ty : Ty) (x z : Expr) (at : Place) → q ≡ expr.Binary o ty x z at → (b c : Bool) → (same_type ty (scalar_type p slot) && (goes_before r o && same z (variable slot at))) ≡ b
          → (same_type ty (scalar_type p slot) && (goes_behind r o && same x (variable slot at))) ≡ c → (if b then Some x else (if c then Some z else None)) ≡ Some y → Compares r slot q y
      of_binary o ty x z at is true c f g k =
          let same_y : x ≡ y = cc in
          let rest : _ = and_right (same_type ty (scalar_type p slot)) (goes_before r o && same z (variable slot at)) f in
          subst (λ w. Compares r slot q w) same_y (subst (λ w. Compares r slot w x) (sym is)
          (before r slot o ty x z at at (binary_parts o ty x z at (subst (λ w. AllByRecursion (TermStands p) (terms_of p w)) is h)) (and_left (same_type ty (scalar_type p slot)) (goes_before r o && same z (variable slot at)) f)
          (and_left (goes_before r o) (same z (variable slot at)) rest) (and_right (goes_before r o) (same z (variable slot at)) rest)))
      of_binary o ty x z at is false true f g k =
          let same_y : z ≡ y = cc in
          let rest : _ = and_right (same_type ty (scalar_type p slot)) (goes_behind r o && same x (variable slot at)) g in
          subst (λ w. Compares r slot q w) same_y (subst (λ w. Compares r slot w z) (sym is)
          (behind r slot o ty x z at at (binary_parts o ty x z at (subst (λ w. AllByRecursion (TermStands p) (terms_of p w)) is h)) (and_left (same_type ty (scalar_type p slot)) (goes_behind r o && same x (variable slot at)) g)
          (and_left (goes_behind r o) (same x (variable slot at)) rest) (and_right (goes_behind r o) (same x (variable slot at)) rest)))
      of_binary o ty x z at is false false f g k = cc

      of_form : (z : Expr-F Expr Access) → q ≡ roll-Expr z → compared p slot r z ≡ Some y → Compares r slot q y
      of_form (Expr-F.Binary o ty x z at) is k = of_binary o ty x z at (is ∙ expr.rolls-Binary o ty x z at) _ _ refl refl k
      of_form (Expr-F.Const v ty) is k = cc
      of_form (Expr-F.Scalar slot at) is k = cc
      of_form (Expr-F.Cell b) is k = cc
      of_form (Expr-F.Both b c) is k = cc
      of_form (Expr-F.Either b c) is k = cc
      of_form (Expr-F.Choose b c d) is k = cc
      of_form (Expr-F.Convert ty b) is k = cc
      of_form (Expr-F.Call function arguments at) is k = cc
      of_form Expr-F.Node is k = cc
      of_form Expr-F.Nodes is k = cc
