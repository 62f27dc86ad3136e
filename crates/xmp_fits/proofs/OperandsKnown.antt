-- What the head of a counted loop rests on: the type of a scalar that stands alone, and of what a comparison compares with; and that `i++` adds 1.
use Rattle.std.proofs.Common.{◌≡◌, ◌∙◌, sym, ap, refl, subst, ◌++◌, ◌∷◌, [], ◌||◌, ℕ, pos, Bool, true, false, Option, Some, None}
use Rattle.std.specs.Prelude.{slice_get}
use Rattle.std.specs.List.{AllByRecursion}
use Rattle.std.specs.Option.{unwrap_or}
use Rattle.std.proofs.lemmas.Option.{same_Some, none-some}
use Rattle.xmp_base.specs.declared.place.Place.{Place}
use Rattle.xmp_num.specs.declared.types.Ty.{Ty}
use Rattle.xmp_num.specs.declared.types.Ty.TheVariants.{Int, Long}
use Rattle.xmp_num.specs.declared.types.BinOp.{BinOp}
use Rattle.xmp_prog.specs.declared.expressions.Expr.{Expr, out-Expr, out-roll-Expr}
use Rattle.xmp_prog.specs.declared.expressions.Expr.TheVariants as e
use Rattle.xmp_prog.specs.declared.expressions.Expr.TheOpen.{Expr-F}
use Rattle.xmp_prog.specs.declared.expressions.Expr.TheViews.{roll-Expr, roll-out-Expr}
use Rattle.xmp_prog.specs.declared.expressions.Access.{Access}
use Rattle.xmp_prog.specs.declared.statements.Stmt.{Stmt, out-Stmt}
use Rattle.xmp_prog.specs.declared.parts.ProgParts.{ProgParts}
use Rattle.xmp_prog.specs.Numbers.{same_type}
use Rattle.xmp_prog.specs.Terms.{Of, Typed, access_step, terms_of, type_of, typed_step}
use Rattle.xmp_prog.specs.Tests.{is_shift, right_fits}
use Rattle.xmp_prog.proofs.Rolls.{at_binary, at_scalar}
use Rattle.xmp_syntax.specs.declared.statement.ForHead.{ForHead}
use Rattle.xmp_syntax.specs.declared.statement.Simple.{Simple}
use Rattle.xmp_syntax.specs.declared.statement.Simple.TheVariants as simple
use Rattle.xmp_names.specs.declared.names.Environment.{Environment}
use Rattle.xmp_names.specs.declared.typed.Operand.{Operand}
use Rattle.xmp_names.specs.declared.world.World.{World}
use Rattle.xmp_walk.specs.Statements.{added_by, compound_of, is_bump, one, simple_of}
use Rattle.xmp_names.specs.Typing.{is_of}
use Rattle.xmp_names.specs.Walk.{if_there}
use Rattle.xmp_fits.proofs.Endings.{ends_in}
use Rattle.xmp_fits.proofs.ForsPass.{one_step}
use Rattle.xmp_fits.proofs.Respected.{Ends}
use Rattle.xmp_fits.proofs.NamesFit.{Tells}
use Rattle.xmp_fits.proofs.OperandsFit.{Fits}
use Rattle.xmp_fits.proofs.TermsFit.{TermFits}
use Rattle.xmp_parts.proofs.Unbroken.{right_true}

pub record KnownOperand (p : ProgParts) (x : Operand) : Type 0 where
  pub index : (i : ℕ) (at : Place) → out-Expr x.made ≡ Expr-F.Scalar i at → is_of x.ty Int ≡ true → slice_get p.scalars i ≡ Some Int
  pub bound : (o : BinOp) (a b : Expr) (at : Place) → out-Expr x.made ≡ Expr-F.Binary o Int a b at → is_shift o ≡ false → type_of p b ≡ Int

int_of : (o : Option Ty) (ty : Ty) → o ≡ Some ty → is_of o Int ≡ true → ty ≡ Int
int_of (Some Int) ty e h = sym (same_Some Int ty e)
int_of (Some Long) ty e h = absurd (cc)
int_of None ty e h = absurd (cc)

type_found : (o : Option Ty) (ty uy : Ty) → o ≡ Some uy → unwrap_or o Int ≡ ty → uy ≡ ty
type_found o ty uy e h = sym (ap (λ x. unwrap_or x Int) e) ∙ h

same_as_int : (a : Bool) (ty : Ty) → a ≡ false → (a || same_type Int ty) ≡ true → ty ≡ Int
same_as_int false Int h k = refl
same_as_int false Long h k = absurd (cc)
same_as_int true ty h k = absurd (cc)

module _ (env : Environment) (p : ProgParts) (t : Tells env p) (x : Operand) (f : Fits env p x) where
  scalar_known : (i : ℕ) (at : Place) → x.made ≡ e.Scalar i at → is_of x.ty Int ≡ true → slice_get p.scalars i ≡ Some Int
  scalar_known i at h int =
      let made = at_scalar Typed Typed (typed_step p) (access_step p) i at in
      let terms : AllByRecursion (TermFits env p) (Of (Expr-F.Scalar i at) ∷ []) = subst (AllByRecursion (TermFits env p)) (ap (terms_of p) h ∙ ap (λ (y : Typed). y.terms) made) f.fits.terms in
      let seen = terms.0.slots.0 in
      let there : slice_get p.scalars i ≡ Some seen.ty = t.scalars seen.name i seen.ty seen.means in
      let type : unwrap_or (slice_get p.scalars i) Int ≡ f.ty = sym (ap (type_of p) h ∙ ap (λ (y : Typed). y.ty) made) ∙ f.fits.is in
      there ∙ ap (λ ty. Some ty) (type_found (slice_get p.scalars i) f.ty seen.ty there type ∙ int_of x.ty f.ty f.typed int)

  binary_known : (o : BinOp) (a b : Expr) (at : Place) → x.made ≡ e.Binary o Int a b at → is_shift o ≡ false → type_of p b ≡ Int
  binary_known o a b at h no_shift =
      let made = at_binary Typed Typed (typed_step p) (access_step p) o Int a b at in
      let terms : AllByRecursion (TermFits env p) (Of (Expr-F.Binary o Int (type_of p a) (type_of p b) at) ∷ (terms_of p a ++ terms_of p b)) =
      subst (AllByRecursion (TermFits env p)) (ap (terms_of p) h ∙ ap (λ (y : Typed). y.terms) made) f.fits.terms in
      same_as_int (is_shift o) (type_of p b) no_shift (right_true (same_type Int (type_of p a)) (right_fits o Int (type_of p b)) terms.0.operands)

  pub operand_known : KnownOperand p x
  operand_known = record {
    index = λ i at h int. scalar_known i at (sym (roll-out-Expr x.made) ∙ (ap roll-Expr h ∙ e.rolls-Scalar i at)) int;
    bound = λ o a b at h no_shift. binary_known o a b at (sym (roll-out-Expr x.made) ∙ (ap roll-Expr h ∙ e.rolls-Binary o Int a b at)) no_shift;
  }

-- A constant is neither a scalar nor a comparison.
pub one_known : (p : ProgParts) → KnownOperand p one
one_known p = record {
  index = λ i at h int. absurd (not_scalar (out-Expr one.made) i at out_one h);
  bound = λ o a b at h no_shift. absurd (not_binary (out-Expr one.made) o a b at out_one h);
}
  where
    out_one : out-Expr one.made ≡ Expr-F.Const (pos 1) Int
    out_one = ap out-Expr (sym (e.rolls-Const (pos 1) Int)) ∙ out-roll-Expr (Expr-F.Const (pos 1) Int)

    not_scalar : (x : Expr-F Expr Access) (i : ℕ) (at : Place) → x ≡ Expr-F.Const (pos 1) Int → x ≡ Expr-F.Scalar i at → ⊥
    not_scalar x i at h k = cc

    not_binary : (x : Expr-F Expr Access) (o : BinOp) (a b : Expr) (at : Place) → x ≡ Expr-F.Const (pos 1) Int → x ≡ Expr-F.Binary o Int a b at → ⊥
    not_binary x o a b at h k = cc

-- ---- the last part of a `for`

-- What `i++` or `++i` adds is 1.
abbrev pub AddsOne : ForHead → Option Stmt → Type 0
AddsOne h next = (x : Stmt) → next ≡ Some x → is_bump h.next ≡ true → (i k : ℕ) → added_by i (out-Stmt x) ≡ Some k → k ≡ 1

abbrev pub AddsOneBy : Option Simple → Option Stmt → World → Type 0
AddsOneBy by next v = (x : Stmt) → next ≡ Some x → is_bump by ≡ true → (i k : ℕ) → added_by i (out-Stmt x) ≡ Some k → k ≡ 1

pub adds_one : (by : Option Simple) (w : World) → Ends (AddsOneBy by) (if_there simple_of by w)
adds_one None w = λ x h b i k a. absurd (none-some x h)
adds_one (Some (simple.Postfix r op)) w = λ x h b i k a.
    one_step i (compound_of op.what) op.at _ k (ap (λ y. added_by i (out-Stmt y)) (same_Some _ x h) ∙ a)
adds_one (Some (simple.Prefix op r)) w = λ x h b i k a.
    one_step i (compound_of op.what) op.at _ k (ap (λ y. added_by i (out-Stmt y)) (same_Some _ x h) ∙ a)
adds_one (Some (simple.Assign r op y)) w = ends_in (AddsOneBy (Some (simple.Assign r op y))) (if_there simple_of (Some (simple.Assign r op y)) w) (λ next v h. λ x g b i k a. absurd (cc b))
adds_one (Some (simple.Call c)) w = ends_in (AddsOneBy (Some (simple.Call c))) (if_there simple_of (Some (simple.Call c)) w) (λ next v h. λ x g b i k a. absurd (cc b))
