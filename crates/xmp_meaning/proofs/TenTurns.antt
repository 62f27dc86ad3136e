-- Ten turns of an uncounted loop.
use Rattle.std.proofs.Common.{◌≡◌, ℕ, ℤ, pos, [], ◌∷◌, refl, Some, ap, ◌∙◌}
use Rattle.xmp_base.specs.declared.place.Place.{Place}
use Rattle.xmp_map.specs.declared.grid.Grid.{Grid}
use Rattle.std.specs.Int.{int_wrap}
use Rattle.std.specs.Fmt.{digits}
use Rattle.xmp_num.specs.Arithmetic.{binary_of}
use Rattle.xmp_num.specs.declared.types.Ty.TheVariants.{Int}
use Rattle.xmp_num.specs.declared.types.BinOp.TheVariants as op
use Rattle.xmp_prog.specs.declared.expressions.Expr.TheVariants as expr
use Rattle.xmp_prog.specs.declared.statements.Stmt.TheVariants as stmt
use Rattle.xmp_meaning.proofs.Forms.{expr_const, expr_scalar, expr_binary, stmt_plain, stmt_block, stmt_while}
use Rattle.xmp_meaning.specs.declared.outcome.Outcome.{Outcome}
use Rattle.xmp_meaning.specs.declared.outcome.Outcome.TheVariants as outcome
use Rattle.xmp_meaning.specs.declared.ends.Flow.{Flow}
use Rattle.xmp_meaning.specs.declared.ends.Flow.TheVariants.{Next}
use Rattle.xmp_meaning.specs.Runs.{Run, ◌>>=◌, pure, or_trap, scalar, write}
use Rattle.xmp_meaning.specs.Blocks.{then_run, block}
use Rattle.xmp_meaning.specs.Layouts.{Whole}
use Rattle.xmp_meaning.specs.Context.{Context}
use Rattle.xmp_meaning.specs.Handlers.{erased}
use Rattle.xmp_meaning.specs.Calls.{main_context}
use Rattle.xmp_meaning.specs.Expressions.{each, expr_of, holds}
use Rattle.xmp_meaning.specs.Formats.{pieces_of, printed}
use Rattle.xmp_meaning.specs.Loops.{while_loop}
use Rattle.xmp_meaning.specs.Statements.{stmt_of}
use Rattle.xmp_meaning.specs.Programs.{serial, beginning, outcome_of}
use Rattle.xmp_meaning.specs.Assignments.{store}
use Rattle.xmp_meaning.specs.declared.location.Location.TheVariants as location
use Rattle.xmp_prog.specs.declared.statements.Plain.TheVariants as plain
use Rattle.xmp_prog.specs.declared.statements.Target.TheVariants as target
use Rattle.xmp_meaning.specs.Examples.{number, below_ten, increment, print_i, ten_turns}

test_run : {X : Type 0} → Place → Run X ℤ
test_run at = scalar 0 >>= (λ x. pure (pos 10) >>= (λ y. or_trap (binary_of op.Less Int x y) at))

abbrev sum_run : {X : Type 0} → Context → Place → ℤ → Run X ℤ
sum_run cx at old = pure (pos 1) >>= (λ v. or_trap (binary_of op.Add Int old v) at)

abbrev turn_run : {X : Type 0} → Context → Place → Run X Flow
turn_run cx at = scalar 0 >>= (λ old. sum_run cx at old >>= (λ v. store erased cx (location.Scalar 0) v >>= (λ u. pure Next)))

abbrev print_run : {X : Type 0} → Context → Run X Flow
print_run cx = each (scalar 0 ∷ []) [] >>= (λ vs. write (printed (37 ∷ 100 ∷ 10 ∷ []) vs) >>= (λ u. pure Next))

test_is : {X : Type 0} (cx : Context) (at : Place) → expr_of {X = X} erased cx (below_ten at) ≡ test_run at
unfolding test_run
test_is {X} cx at = expr_binary erased cx op.Less Int (expr.Scalar 0 at) (number 10) at ∙ rw (expr_scalar {X = X} erased cx 0 at, expr_const {X = X} erased cx (pos 10) Int) refl

turn_is : {X : Type 0} (cx : Context) (at : Place) → stmt_of {X = X} erased cx (increment at) ≡ turn_run cx at
turn_is {X} cx at = stmt_plain erased cx (plain.Set (target.Scalar 0 at) (Some (record { op = op.Add; ty = Int; at = at })) (number 1)) ∙ rw (expr_const {X = X} erased cx (pos 1) Int) refl

print_is : {X : Type 0} (cx : Context) (at : Place) → stmt_of {X = X} erased cx (print_i at) ≡ print_run cx
print_is {X} cx at = stmt_plain erased cx (plain.Print (37 ∷ 100 ∷ 10 ∷ []) (expr.Scalar 0 at ∷ []) at) ∙ rw (expr_scalar {X = X} erased cx 0 at) refl

abbrev whole_run : {X : Type 0} → Context → Place → Run X Flow
whole_run cx at = block (while_loop (holds (test_run at)) (turn_run cx at) ∷ print_run cx ∷ [])

whole_is : {X : Type 0} (cx : Context) (at : Place)
    → stmt_of {X = X} erased cx (stmt.Block (stmt.While (below_ten at) (increment at) at ∷ print_i at ∷ [])) ≡ whole_run cx at
whole_is {X} cx at = stmt_block erased cx (stmt.While (below_ten at) (increment at) at ∷ print_i at ∷ [])
    ∙ ap (λ r. block (r ∷ stmt_of erased cx (print_i at) ∷ [])) (stmt_while erased cx (below_ten at) (increment at) at)
    ∙ ap (λ r. block (while_loop (holds r) (stmt_of erased cx (increment at)) ∷ stmt_of erased cx (print_i at) ∷ [])) (test_is cx at)
    ∙ ap (λ r. block (while_loop (holds (test_run at)) r ∷ stmt_of erased cx (print_i at) ∷ [])) (turn_is cx at)
    ∙ ap (λ r. block (while_loop (holds (test_run at)) (turn_run cx at) ∷ r ∷ [])) (print_is cx at)

-- what the program comes to with so many steps
abbrev comes_to : Grid → Place → ℕ → Run (Unit {0}) Flow → Outcome
comes_to g at steps main = outcome_of (ten_turns g at) (then_run (pure Next) main (beginning {X = Unit {0}} Whole (ten_turns g at) steps tt))

by_runs : (g : Grid) (at : Place) (steps : ℕ) → serial (ten_turns g at) [] steps ≡ comes_to g at steps (whole_run (main_context (ten_turns g at) 0 []) at)
by_runs g at steps = ap (comes_to g at steps) (whole_is (main_context (ten_turns g at) 0 []) at)

ten_computed : (g : Grid) (at : Place) → comes_to g at 10 (whole_run (main_context (ten_turns g at) 0 []) at) ≡ outcome.Ended (49 ∷ 48 ∷ 10 ∷ []) []
unfolding test_run binary_of pieces_of int_wrap digits
ten_computed g at = refl

nine_computed : (g : Grid) (at : Place) → comes_to g at 9 (whole_run (main_context (ten_turns g at) 0 []) at) ≡ outcome.OutOfSteps []
unfolding test_run binary_of pieces_of int_wrap digits
nine_computed g at = refl

pub with_ten_steps : (g : Grid) (at : Place) → serial (ten_turns g at) [] 10 ≡ outcome.Ended (49 ∷ 48 ∷ 10 ∷ []) []
with_ten_steps g at = by_runs g at 10 ∙ ten_computed g at

pub with_nine_steps : (g : Grid) (at : Place) → serial (ten_turns g at) [] 9 ≡ outcome.OutOfSteps []
with_nine_steps g at = by_runs g at 9 ∙ nine_computed g at
