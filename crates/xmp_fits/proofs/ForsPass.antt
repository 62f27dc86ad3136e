-- What a `for` is made into: where it is a counted loop, it is one in the program.
use Rattle.std.proofs.Common.{◌≡◌, ◌∙◌, sym, ap, refl, subst, ◌&&◌, ℕ, zero, suc, ℤ, pos, negsuc, Bool, true, false, Option, Some, None, arith}
use Rattle.std.specs.Prelude.{◌==◌, nat_le, slice_get, if◌then◌else◌}
use Rattle.std.specs.Int.{int_wrap}
use Rattle.std.proofs.lemmas.Bool.Decides.{nat_tests}
use Rattle.std.proofs.lemmas.Option.{same_Some, none-some}
use Rattle.xmp_base.specs.declared.place.Place.{Place}
use Rattle.xmp_num.specs.declared.types.Ty.{Ty}
use Rattle.xmp_num.specs.declared.types.Ty.TheVariants.{Int, Long}
use Rattle.xmp_num.specs.declared.types.BinOp.{BinOp}
use Rattle.xmp_num.specs.declared.types.BinOp.TheVariants as op
use Rattle.xmp_prog.specs.declared.expressions.Expr.{Expr, out-Expr, out-roll-Expr}
use Rattle.xmp_prog.specs.declared.expressions.Expr.TheVariants as e
use Rattle.xmp_prog.specs.declared.expressions.Expr.TheOpen.{Expr-F}
use Rattle.xmp_prog.specs.declared.expressions.Access.{Access}
use Rattle.xmp_prog.specs.declared.statements.LoopHead.{LoopHead}
use Rattle.xmp_prog.specs.declared.statements.Target.{Target}
use Rattle.xmp_prog.specs.declared.statements.Target.TheVariants as target
use Rattle.xmp_prog.specs.declared.statements.Compound.{Compound}
use Rattle.xmp_prog.specs.declared.statements.Plain.{Plain}
use Rattle.xmp_prog.specs.declared.statements.Plain.TheVariants as plain
use Rattle.xmp_prog.specs.declared.statements.Stmt.{Stmt, out-Stmt, out-roll-Stmt}
use Rattle.xmp_prog.specs.declared.statements.Stmt.TheVariants as s
use Rattle.xmp_prog.specs.declared.statements.Stmt.TheOpen.{Stmt-F}
use Rattle.xmp_prog.specs.declared.statements.Task.{Task}
use Rattle.xmp_prog.specs.declared.parts.ProgParts.{ProgParts}
use Rattle.xmp_prog.specs.Counted as fit
use Rattle.xmp_prog.specs.Counted.{most_counted}
use Rattle.xmp_prog.specs.Statements.{writes_of}
use Rattle.xmp_prog.specs.Terms.{type_of}
use Rattle.xmp_prog.specs.Tests.{is_shift}
use Rattle.xmp_syntax.specs.declared.statement.ForHead.{ForHead}
use Rattle.xmp_names.specs.declared.typed.Operand.{Operand}
use Rattle.xmp_names.specs.declared.operators.Operator.{Operator}
use Rattle.xmp_names.specs.declared.operators.Operator.TheVariants as operator
use Rattle.xmp_walk.specs.declared.loops.First.{First}
use Rattle.xmp_walk.specs.declared.loops.Shape.{Shape}
use Rattle.xmp_names.specs.Typing.{is_of, operand}
use Rattle.xmp_walk.specs.Counted.{added_to, bound_of, is_counted, is_scalar, step_size}
use Rattle.xmp_walk.specs.Statements.{added_by, added_plain, compared_at, is_add, is_bump, one, right_side, set, shape_at, shape_by, shape_of, target_of}
use Rattle.xmp_fits.proofs.CountedPass.{counted_head}
use Rattle.xmp_parts.proofs.Unbroken.{both_true}

no : {A B : Type 0} (x : A) → None ≡ Some x → B
no x e = absurd (none-some x e)

-- ---- what is added to the index

-- A step that is found is 1 to the greatest step.
abbrev Small : ℕ → Type 0
Small k = (nat_le 1 k && nat_le k most_counted) ≡ true

small_some : (n k : ℕ) (b : Bool) → nat_le (suc n) most_counted ≡ b → (if b then Some (suc n) else None) ≡ Some k → Small k
small_some n k true h e = subst Small (same_Some (suc n) k e) (both_true (nat_le 1 (suc n)) _ (some n) h)
  where
    some : (n : ℕ) → nat_le 1 (suc n) ≡ true
    some n = grind (arith, nat_tests)
small_some n k false h e = no k e

small_size : (x : Expr-F Expr Access) (k : ℕ) → step_size x ≡ Some k → Small k
small_size (Expr-F.Const (pos zero) ty) k e = no k e
small_size (Expr-F.Const (pos (suc n)) ty) k e = small_some n k (nat_le (suc n) most_counted) refl e
small_size (Expr-F.Const (negsuc n) ty) k e = no k e
small_size (Expr-F.Scalar slot at) k e = no k e
small_size (Expr-F.Cell a) k e = no k e
small_size (Expr-F.Binary o ty a b at) k e = no k e
small_size (Expr-F.Both a b) k e = no k e
small_size (Expr-F.Either a b) k e = no k e
small_size (Expr-F.Choose a b c) k e = no k e
small_size (Expr-F.Convert ty a) k e = no k e
small_size (Expr-F.Call f xs at) k e = no k e
small_size Expr-F.Node k e = no k e
small_size Expr-F.Nodes k e = no k e

-- What is found of a test is found where the test holds.
if_some : {A : Type 0} (b : Bool) (o : Option A) (x : A) → (if b then o else None) ≡ Some x → (b ≡ true) × (o ≡ Some x)
if_some true o x e = (refl, e)
if_some false o x e = no x e

small_added : (i : ℕ) (t : Target) (v : Expr) (k : ℕ) → added_to i t v ≡ Some k → step_size (out-Expr v) ≡ Some k
small_added i (target.Scalar slot at) v k e = (if_some (slot == i) (step_size (out-Expr v)) k e).1
small_added i (target.Cell a) v k e = no k e

-- A step stands in a compound assignment.
record Adds (i : ℕ) (x : Plain) (k : ℕ) : Type 0 where
  pub written : Target
  pub compound : Compound
  pub value : Expr
  pub is : x ≡ plain.Set written (Some compound) value
  pub size : step_size (out-Expr value) ≡ Some k

adds_plain : (i : ℕ) (x : Plain) (k : ℕ) → added_plain i x ≡ Some k → Adds i x k
adds_plain i (plain.Set t None v) k e = no k e
adds_plain i (plain.Set t (Some c) v) k e = record {
  written = t;
  compound = c;
  value = v;
  is = refl;
  size = small_added i t v k (if_some (is_add c.op) (added_to i t v) k e).1;
}
adds_plain i (plain.Declare slot v at) k e = no k e
adds_plain i (plain.Return v) k e = no k e
adds_plain i (plain.Call f xs at) k e = no k e
adds_plain i (plain.Print f xs at) k e = no k e
adds_plain i (plain.Scan t at) k e = no k e
adds_plain i (plain.Sync n at) k e = no k e
adds_plain i (plain.Reflect ns at) k e = no k e
adds_plain i (plain.Barrier at) k e = no k e
adds_plain i (plain.Cast ns set at) k e = no k e
adds_plain i (plain.Gmove a b at) k e = no k e

pub small_step : (i : ℕ) (x : Stmt-F Stmt Task) (k : ℕ) → added_by i x ≡ Some k → (nat_le 1 k && nat_le k most_counted) ≡ true
small_step i (Stmt-F.Plain x) k e = let a = adds_plain i x k e in small_size (out-Expr a.value) k a.size
small_step i (Stmt-F.Block x) k e = no k e
small_step i (Stmt-F.If x y z) k e = no k e
small_step i (Stmt-F.While x y z) k e = no k e
small_step i (Stmt-F.Counted x y) k e = no k e
small_step i (Stmt-F.Loop x y) k e = no k e
small_step i (Stmt-F.Tasks x y) k e = no k e

-- ---- `i++` and `++i` add 1

out_const : (v : ℤ) (ty : Ty) → out-Expr (e.Const v ty) ≡ Expr-F.Const v ty
out_const v ty = ap out-Expr (sym (e.rolls-Const v ty)) ∙ out-roll-Expr (Expr-F.Const v ty)

out_plain : (x : Plain) → out-Stmt (s.Plain x) ≡ Stmt-F.Plain x
out_plain x = ap out-Stmt (sym (s.rolls-Plain x)) ∙ out-roll-Stmt (Stmt-F.Plain x)

one_in : (ty : Ty) → step_size (out-Expr (operand ty one)) ≡ Some 1
unfolding int_wrap
one_in Int = ap step_size (out_const (pos 1) Int)
one_in Long = ap step_size (out_const (pos 1) Long)

same_one : (v : Expr) (k : ℕ) → step_size (out-Expr v) ≡ Some 1 → step_size (out-Expr v) ≡ Some k → k ≡ 1
same_one v k p q = same_Some k 1 (sym q ∙ p)

one_added : (i : ℕ) (t : Target) (c : Compound) (v : Expr) (k : ℕ) → step_size (out-Expr v) ≡ Some 1 → added_by i (out-Stmt (s.Plain (plain.Set t (Some c) v))) ≡ Some k → k ≡ 1
one_added i t c v k h e =
    same_one v k h (small_added i t v k (if_some (is_add c.op) (added_to i t v) k (sym (ap (added_by i) (out_plain (plain.Set t (Some c) v))) ∙ e)).1)

none_added : {B : Type 0} (i : ℕ) (t : Target) (v : Expr) (k : ℕ) → added_by i (out-Stmt (s.Plain (plain.Set t None v))) ≡ Some k → B
none_added i t v k e = no k (sym (ap (added_by i) (out_plain (plain.Set t None v))) ∙ e)

pub one_step : (i : ℕ) (o : Option Operator) (at : Place) (t : Operand) (k : ℕ) → added_by i (out-Stmt (set o at t one)) ≡ Some k → k ≡ 1
one_step i None at t k e = none_added i (target_of t.made) one.made k e
one_step i (Some (operator.Arithmetic o)) at t k e = one_added i (target_of t.made) _ _ k (one_in _) e
one_step i (Some (operator.Compare o)) at t k e = none_added i (target_of t.made) one.made k e
one_step i (Some (operator.Shift o)) at t k e = one_added i (target_of t.made) _ one.made k (ap step_size (out_const (pos 1) Int)) e
one_step i (Some operator.Both) at t k e = none_added i (target_of t.made) one.made k e
one_step i (Some operator.Either) at t k e = none_added i (target_of t.made) one.made k e

-- ---- the bound

-- What an index is compared with.
record BoundIs (x : Expr-F Expr Access) (bound : Expr × Bool) : Type 0 where
  pub by : BinOp
  pub left : Expr
  pub at : Place
  pub is : x ≡ Expr-F.Binary by Int left bound.0 at
  pub plain : is_shift by ≡ false

bound_found : (i : ℕ) (a b : Expr) (o : BinOp) (inclusive : Bool) (at : Place) (bound : Expr × Bool) → is_shift o ≡ false →
    (if is_scalar i (out-Expr a) then Some (b, inclusive) else None) ≡ Some bound → BoundIs (Expr-F.Binary o Int a b at) bound
bound_found i a b o inclusive at bound n e =
    let same : (b, inclusive) ≡ bound = same_Some (b, inclusive) bound (if_some (is_scalar i (out-Expr a)) (Some (b, inclusive)) bound e).1 in
    record { by = o; left = a; at = at; is = ap (λ (x : Expr × Bool). Expr-F.Binary o Int a x.0 at) same; plain = n }

bound_is : (i : ℕ) (x : Expr-F Expr Access) (bound : Expr × Bool) → bound_of i x ≡ Some bound → BoundIs x bound
bound_is i (Expr-F.Const v ty) bound e = no bound e
bound_is i (Expr-F.Scalar slot at) bound e = no bound e
bound_is i (Expr-F.Cell a) bound e = no bound e
bound_is i (Expr-F.Binary op.Less Int a b at) bound e = bound_found i a b op.Less false at bound refl e
bound_is i (Expr-F.Binary op.Less Long a b at) bound e = no bound e
bound_is i (Expr-F.Binary op.LessEq Int a b at) bound e = bound_found i a b op.LessEq true at bound refl e
bound_is i (Expr-F.Binary op.LessEq Long a b at) bound e = no bound e
bound_is i (Expr-F.Binary op.Add ty a b at) bound e = no bound e
bound_is i (Expr-F.Binary op.Sub ty a b at) bound e = no bound e
bound_is i (Expr-F.Binary op.Mul ty a b at) bound e = no bound e
bound_is i (Expr-F.Binary op.Div ty a b at) bound e = no bound e
bound_is i (Expr-F.Binary op.Rem ty a b at) bound e = no bound e
bound_is i (Expr-F.Binary op.Shl ty a b at) bound e = no bound e
bound_is i (Expr-F.Binary op.Shr ty a b at) bound e = no bound e
bound_is i (Expr-F.Binary op.And ty a b at) bound e = no bound e
bound_is i (Expr-F.Binary op.Or ty a b at) bound e = no bound e
bound_is i (Expr-F.Binary op.Xor ty a b at) bound e = no bound e
bound_is i (Expr-F.Binary op.Greater ty a b at) bound e = no bound e
bound_is i (Expr-F.Binary op.GreaterEq ty a b at) bound e = no bound e
bound_is i (Expr-F.Binary op.Equal ty a b at) bound e = no bound e
bound_is i (Expr-F.Binary op.Differ ty a b at) bound e = no bound e
bound_is i (Expr-F.Both a b) bound e = no bound e
bound_is i (Expr-F.Either a b) bound e = no bound e
bound_is i (Expr-F.Choose a b c) bound e = no bound e
bound_is i (Expr-F.Convert ty a) bound e = no bound e
bound_is i (Expr-F.Call f xs at) bound e = no bound e
bound_is i Expr-F.Node bound e = no bound e
bound_is i Expr-F.Nodes bound e = no bound e

-- ---- the shape

-- What a `for` has that is counted.
pub record Counts (h : ForHead) (first : First) (test : Operand) (next body : Stmt) (shape : Shape) : Type 0 where
  pub at : Place
  pub index : out-Expr first.target.made ≡ Expr-F.Scalar shape.index.number at
  pub int : is_of first.target.ty Int ≡ true
  pub by : BinOp
  pub left : Expr
  pub test_at : Place
  pub test_is : out-Expr test.made ≡ Expr-F.Binary by Int left (right_side (out-Expr test.made)) test_at
  pub plain : is_shift by ≡ false
  pub counted : is_counted shape.index.number (right_side (out-Expr test.made)) shape.inclusive (is_bump h.next) body ≡ true
  pub step : added_by shape.index.number (out-Stmt next) ≡ Some shape.step

module _ (h : ForHead) (first : First) (test : Operand) (next body : Stmt) (shape : Shape) where
  counts_by : (i : ℕ) (at : Place) → out-Expr first.target.made ≡ Expr-F.Scalar i at → is_of first.target.ty Int ≡ true →
      shape_by i at (is_bump h.next) (bound_of i (out-Expr test.made)) (compared_at h.test) (added_by i (out-Stmt next)) body ≡ Some shape → Counts h first test next body shape
  counts_by i at is int e = go (bound_of i (out-Expr test.made)) (compared_at h.test) (added_by i (out-Stmt next)) refl refl e
    where
      found : (bound : Expr × Bool) (to_at : Place) (step : ℕ) → BoundIs (out-Expr test.made) bound → added_by i (out-Stmt next) ≡ Some step → is_counted i bound.0 bound.1 (is_bump h.next) body ≡ true →
          shape ≡ record { index = record { number = i; at = at }; inclusive = bound.1; step = step; to_at = to_at } → Counts h first test next body shape
      found bound to_at step b q c k =
          let right : right_side (out-Expr test.made) ≡ bound.0 = ap right_side b.is in
          let number : shape.index.number ≡ i = ap (λ (x : Shape). x.index.number) k in
          record {
            at = at;
            index = is ∙ ap (λ n. Expr-F.Scalar n at) (sym number);
            int = int;
            by = b.by;
            left = b.left;
            test_at = b.at;
            test_is = b.is ∙ ap (λ x. Expr-F.Binary b.by Int b.left x b.at) (sym right);
            plain = b.plain;
            counted =
                ap (λ n. is_counted n (right_side (out-Expr test.made)) shape.inclusive (is_bump h.next) body) number
                ∙ (ap (λ x. is_counted i x shape.inclusive (is_bump h.next) body) right
                ∙ (ap (λ (x : Shape). is_counted i bound.0 x.inclusive (is_bump h.next) body) k ∙ c));
            step = ap (λ n. added_by n (out-Stmt next)) number ∙ (q ∙ ap (λ (x : Shape). Some x.step) (sym k));
          }

      go : (bound : Option (Expr × Bool)) (to_at : Option Place) (step : Option ℕ) → bound_of i (out-Expr test.made) ≡ bound → added_by i (out-Stmt next) ≡ step →
          shape_by i at (is_bump h.next) bound to_at step body ≡ Some shape → Counts h first test next body shape
      go None to_at step p q e = no shape e
      go (Some bound) None step p q e = no shape e
      go (Some bound) (Some to_at) None p q e = no shape e
      go (Some bound) (Some to_at) (Some step) p q e =
          let made : Shape = record { index = record { number = i; at = at }; inclusive = bound.1; step = step; to_at = to_at } in
          let both = if_some (is_counted i bound.0 bound.1 (is_bump h.next) body) (Some made) shape e in
          found bound to_at step (bound_is i (out-Expr test.made) bound p) q both.0 (sym (same_Some made shape both.1))

  counts_at : (x : Expr-F Expr Access) → out-Expr first.target.made ≡ x → shape_at h first.target.ty test next body x ≡ Some shape → Counts h first test next body shape
  counts_at (Expr-F.Scalar i at) is e =
      let both = if_some (is_of first.target.ty Int) (shape_by i at (is_bump h.next) (bound_of i (out-Expr test.made)) (compared_at h.test) (added_by i (out-Stmt next)) body) shape e in
      counts_by i at is both.0 both.1
  counts_at (Expr-F.Const v ty) is e = no shape e
  counts_at (Expr-F.Cell a) is e = no shape e
  counts_at (Expr-F.Binary o ty a b at) is e = no shape e
  counts_at (Expr-F.Both a b) is e = no shape e
  counts_at (Expr-F.Either a b) is e = no shape e
  counts_at (Expr-F.Choose a b c) is e = no shape e
  counts_at (Expr-F.Convert ty a) is e = no shape e
  counts_at (Expr-F.Call f xs at) is e = no shape e
  counts_at Expr-F.Node is e = no shape e
  counts_at Expr-F.Nodes is e = no shape e

pub counts : (h : ForHead) (first : First) (test : Operand) (next body : Stmt) (shape : Shape) → shape_of h (Some first) (Some test) (Some next) body ≡ Some shape → Counts h first test next body shape
counts h first test next body shape e = counts_at h first test next body shape (out-Expr first.target.made) refl e

-- ---- the loop that is made

abbrev pub head_made : Shape → First → Operand → LoopHead
head_made shape first test = record {
  index = shape.index;
  from = first.value.made;
  to = right_side (out-Expr test.made);
  inclusive = shape.inclusive;
  step = shape.step;
  from_at = first.at;
  to_at = shape.to_at;
}

-- What has to be known of the parts of a `for`: a scalar that is an int is one in the program, the right operand of a comparison of ints
-- is an int, and `i++` and `++i` add 1.
pub record PartsKnown (p : ProgParts) (h : ForHead) (first : First) (test : Operand) (next : Stmt) : Type 0 where
  pub index : (i : ℕ) (at : Place) → out-Expr first.target.made ≡ Expr-F.Scalar i at → is_of first.target.ty Int ≡ true → slice_get p.scalars i ≡ Some Int
  pub bound : (o : BinOp) (a b : Expr) (at : Place) → out-Expr test.made ≡ Expr-F.Binary o Int a b at → is_shift o ≡ false → type_of p b ≡ Int
  pub step : is_bump h.next ≡ true → (i k : ℕ) → added_by i (out-Stmt next) ≡ Some k → k ≡ 1

pub shape_fits : (p : ProgParts) (h : ForHead) (first : First) (test : Operand) (next body : Stmt) (shape : Shape) → shape_of h (Some first) (Some test) (Some next) body ≡ Some shape →
    PartsKnown p h first test next → fit.is_counted p (head_made shape first test) (writes_of body) ≡ true
shape_fits p h first test next body shape e known =
    let c = counts h first test next body shape e in
    counted_head p (head_made shape first test) (is_bump h.next) body (known.index shape.index.number c.at c.index c.int) (known.bound c.by c.left (right_side (out-Expr test.made)) c.test_at c.test_is c.plain)
    c.counted (small_step shape.index.number (out-Stmt next) shape.step c.step) (λ b. known.step b shape.index.number shape.step c.step)
