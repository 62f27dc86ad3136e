-- What is known of the operands in the head of a `for`, in a program that the walk ends in.
use Rattle.std.proofs.Common.{◌≡◌, ◌∙◌, refl, ◌++◌, ℕ, true, List, Some}
use Rattle.std.specs.Prelude.{slice_get}
use Rattle.xmp_num.specs.declared.types.Ty.TheVariants.{Int}
use Rattle.xmp_prog.specs.declared.parts.ProgParts.{ProgParts}
use Rattle.xmp_syntax.specs.declared.parts.Reference.{Reference}
use Rattle.xmp_syntax.specs.declared.expression.Expr.{Expr}
use Rattle.xmp_syntax.specs.declared.statement.ForFirst.{ForFirst}
use Rattle.xmp_syntax.specs.declared.statement.ForFirst.TheVariants as for_first
use Rattle.xmp_walk.specs.declared.loops.First.{First}
use Rattle.xmp_names.specs.declared.names.Array as array
use Rattle.xmp_names.specs.declared.typed.Operand.{Operand}
use Rattle.xmp_names.specs.declared.typed.Typed.{Typed}
use Rattle.xmp_names.specs.declared.world.World.{World}
use Rattle.xmp_names.specs.Rules.{greater}
use Rattle.xmp_names.specs.Expressions.{expr_of, reference_of}
use Rattle.xmp_parts.specs.Parts.{IsArray}
use Rattle.xmp_walk.specs.Statements.{first_of, index_of}
use Rattle.xmp_names.specs.Walk.{typed}
use Rattle.xmp_fits.proofs.Endings.{Ending, before_noted, no_broken}
use Rattle.xmp_fits.proofs.GoodSteps.{begins_get}
use Rattle.xmp_fits.proofs.GoodWorlds.{ArrayOf, Extends, Good, Own}
use Rattle.xmp_fits.proofs.KeptRuns.{Goes, goes_noted, scalar_goes}
use Rattle.xmp_fits.proofs.Respected.{Ends}
use Rattle.xmp_fits.proofs.KindsPass.{made_image, made_kind}
use Rattle.xmp_fits.proofs.Laters.{Begins}
use Rattle.xmp_parts.proofs.MadeLists.{made_here}
use Rattle.xmp_fits.proofs.NamesFit.{Tells}
use Rattle.xmp_fits.specs.NumbersLie.{first_lies, numbers_lie, reference_lies}
use Rattle.xmp_fits.proofs.OperandsFit.{Fits}
use Rattle.xmp_fits.proofs.OperandsKnown.{KnownOperand, operand_known}
use Rattle.xmp_fits.proofs.StepsFit.{reference_fits, typed_fits}
use Rattle.xmp_fits.proofs.TellsTrue.{tells}
use Rattle.xmp_parts.proofs.Unbroken.{left_true, right_true}

-- ---- the program extends the worlds of its walk

begins_as : {A : Type 0} (xs ys zs : List A) → Begins xs ys → zs ≡ ys → Begins xs zs
begins_as xs ys zs b e = record { more = b.more; is = e ∙ b.is }

array_of : (w : World) (p : ProgParts) (e : Ending w p) (k : ℕ) (a : array.Array) → slice_get w.names.arrays k ≡ Some a → ArrayOf p k a
array_of w p e k a h =
    let m = made_here (IsArray e.last p.templates) e.last.names.arrays p.arrays k a e.made.arrays (begins_get w.names.arrays e.last.names.arrays k a e.later.names.arrays h) in
    record { made = m.0; is = m.1; same = record { ty = m.2.ty; extents = m.2.extents; image = made_image e.last p.templates k a m.0 m.2 } }

pub extends_of : (w : World) (p : ProgParts) → Ending w p → Extends p w
extends_of w p e = record {
  scalars = begins_as w.scalars e.last.scalars p.scalars e.later.scalars e.made.scalars;
  functions = begins_as w.functions e.last.functions p.functions e.later.functions e.made.functions;
  start = begins_as w.start e.last.start p.start e.later.start e.made.start;
  arrays = λ k a h. array_of w p e k a h;
  kind = made_kind e.last e.main p e.made ∙ e.later.names.coarray;
}

-- ---- operands

abbrev pub OperandMade : Operand → World → Type 0
OperandMade x v = (p : ProgParts) → Ending v p → KnownOperand p x

abbrev pub TargetMade : First → World → Type 0
TargetMade x v = OperandMade x.target v

module _ (own : Own) where
  known_from : (w : World) → Good own w → (p : ProgParts) → Ending w p → (x : Operand) → (Tells w.names p → Fits w.names p x) → KnownOperand p x
  known_from w g p e x f = let t = tells own w p g (extends_of w p e) in operand_known w.names p t x (f t)

  abbrev behind : World → Typed → World
  behind w t = record w { deepest = greater w.deepest t.notes.deepest; broken = w.broken ++ t.notes.broken }

  before : (w : World) (t : Typed) (p : ProgParts) → Ending (behind w t) p → Ending w p
  before w t p e = before_noted w (greater w.deepest t.notes.deepest) t.notes.broken p e

  expr_known : (w : World) → Good own w → (x : Expr) → numbers_lie x ≡ true → OperandMade (expr_of w.names x).operand (behind w (expr_of w.names x))
  expr_known w g x h = λ p e. known_from w g p (before w (expr_of w.names x) p e) (expr_of w.names x).operand (λ t. typed_fits p w t x h (no_broken (behind w (expr_of w.names x)) p e))

  reference_known : (w : World) → Good own w → (r : Reference Expr) → reference_lies r ≡ true → OperandMade (reference_of w.names r).operand (behind w (reference_of w.names r))
  reference_known w g r h = λ p e.
      known_from w g p (before w (reference_of w.names r) p e) (reference_of w.names r).operand (λ t. (reference_fits p w t r h (no_broken (behind w (reference_of w.names r)) p e)).0)

  pub typed_known : (w : World) → Good own w → (x : Expr) → numbers_lie x ≡ true → Ends OperandMade (typed x w)
  typed_known w g x h = expr_known w g x h

  -- ---- the first part

  goes_behind : (w : World) (t : Typed) → Goes w (behind w t)
  goes_behind w t = goes_noted w (greater w.deepest t.notes.deepest) t.notes.broken

  -- What a first part assigns to, and the value.
  pub record FirstKnown (x : First) (v : World) : Type 0 where
    pub target : OperandMade x.target v
    pub value : OperandMade x.value v

  both_known : (w : World) → Good own w → (r : Reference Expr) (x : Expr) → reference_lies r ≡ true → numbers_lie x ≡ true →
      let v : World = behind w (reference_of w.names r) in
      OperandMade (reference_of w.names r).operand (behind v (expr_of v.names x)) × OperandMade (expr_of v.names x).operand (behind v (expr_of v.names x))
  both_known w g r x h k =
      let v : World = behind w (reference_of w.names r) in (
        λ p e. reference_known w g r h p (before v (expr_of v.names x) p e),
        expr_known v ((goes_behind w (reference_of w.names r)).good own g) x k,
      )

  pub first_known : (w : World) → Good own w → (x : ForFirst) → first_lies x ≡ true → Ends FirstKnown (first_of x w)
  first_known w g (for_first.Assign r at x) h =
      let both = both_known w g r x (left_true (reference_lies r) (numbers_lie x) h) (right_true (reference_lies r) (numbers_lie x) h) in
      record { target = both.0; value = both.1 }
  first_known w g (for_first.Declare at n equals x) h =
      let both = both_known _ ((scalar_goes n Int w).good own g) (index_of n) x refl h in
      record { target = both.0; value = both.1 }
