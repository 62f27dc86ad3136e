-- Counted loops on typed parts: `for (i = e1; i < e2; i++)` (this project). Scalars are slots here.
use Rattle.std.specs.Prelude.{ℕ, suc, Bool, true, false, not, ◌==◌, ◌&&◌, ◌||◌, nat_le, if◌then◌else◌, List, pos, Option, Some, None}
use Rattle.std.specs.List.{list_any}
use Rattle.xmp_num.specs.declared.types.Ty.{Ty}
use Rattle.xmp_num.specs.declared.types.Ty.TheVariants.{Int, Long}
use Rattle.xmp_num.specs.declared.types.BinOp.TheVariants as op
use Rattle.xmp_prog.specs.declared.expressions.Expr.{Expr, out-Expr}
use Rattle.xmp_prog.specs.declared.expressions.Expr.TheOpen.{Expr-F, Access-F}
use Rattle.xmp_prog.specs.declared.expressions.Expr.TheFolds.{fold-Expr, fold-Access}
use Rattle.xmp_prog.specs.declared.expressions.Access.{Access}
use Rattle.xmp_prog.specs.declared.statements.Target.{Target}
use Rattle.xmp_prog.specs.declared.statements.Target.TheVariants as target
use Rattle.xmp_prog.specs.declared.statements.MoveSide.{MoveSide}
use Rattle.xmp_prog.specs.declared.statements.MoveSide.TheVariants as side
use Rattle.xmp_prog.specs.declared.statements.Plain.{Plain}
use Rattle.xmp_prog.specs.declared.statements.Plain.TheVariants as plain
use Rattle.xmp_prog.specs.declared.statements.Stmt.{Stmt}
use Rattle.xmp_prog.specs.declared.statements.Stmt.TheOpen.{Stmt-F, Task-F}
use Rattle.xmp_prog.specs.declared.statements.Stmt.TheFolds.{fold-Stmt, fold-Task}
use Rattle.xmp_prog.specs.declared.statements.Task.{Task}
use Rattle.xmp_prog.specs.Counted.{most_counted, is_bound_operator, is_small_constant}

abbrev pub any : List Bool → Bool
any bs = list_any (λ b. b) bs

abbrev pub optional : Option Bool → Bool
optional None = false
optional (Some b) = b

module _ (is : ℕ → Bool) where
  -- Whether an expression reads a scalar that passes.
  abbrev pub reads_step : Expr-F Bool Bool → Bool
  reads_step (Expr-F.Const v ty) = false
  reads_step (Expr-F.Scalar slot at) = is slot
  reads_step (Expr-F.Cell a) = a
  reads_step (Expr-F.Binary op ty a b at) = a || b
  reads_step (Expr-F.Both a b) = a || b
  reads_step (Expr-F.Either a b) = a || b
  reads_step (Expr-F.Choose a b c) = (a || b) || c
  reads_step (Expr-F.Convert ty a) = a
  reads_step (Expr-F.Call f args at) = any args
  reads_step Expr-F.Node = false
  reads_step Expr-F.Nodes = false

  abbrev pub reads_access : Access-F Bool Bool → Bool
  reads_access a = any a.subscripts || optional a.image

  abbrev pub target_writes : Target → Bool
  target_writes (target.Scalar slot at) = is slot
  target_writes (target.Cell a) = false

  abbrev pub side_writes : MoveSide → Bool
  side_writes (side.Scalar n) = is n.number
  side_writes (side.Array n parts) = false

  -- Whether a statement writes a scalar that passes.
  abbrev pub plain_writes : Plain → Bool
  plain_writes (plain.Declare slot value at) = is slot
  plain_writes (plain.Set target compound value) = target_writes target
  plain_writes (plain.Scan target at) = target_writes target
  plain_writes (plain.Sync status at) = is status.number
  plain_writes (plain.Gmove target source at) = side_writes target
  plain_writes _ = false

  abbrev pub writes_step : Stmt-F Bool Bool → Bool
  writes_step (Stmt-F.Plain s) = plain_writes s
  writes_step (Stmt-F.Block all) = any all
  writes_step (Stmt-F.If test a b) = a || b
  writes_step (Stmt-F.While test body at) = body
  writes_step (Stmt-F.Counted head body) = is head.index.number || body
  writes_step (Stmt-F.Loop directive body) = list_any (λ h. is h.index.number) directive.nest || body
  writes_step (Stmt-F.Tasks all at) = any all

  abbrev pub task_writes : Task-F Bool Bool → Bool
  task_writes t = t.body

abbrev pub reads : Expr → ℕ → Bool
reads e slot = fold-Expr Bool Bool (reads_step (λ n. n == slot)) (reads_access (λ n. n == slot)) e

abbrev pub access_reads : Access → ℕ → Bool
access_reads a slot = fold-Access Bool Bool (reads_step (λ n. n == slot)) (reads_access (λ n. n == slot)) a

abbrev pub writes_any : (ℕ → Bool) → Stmt → Bool
writes_any is = fold-Stmt Bool Bool (writes_step is) (task_writes is)

abbrev pub task_writes_any : (ℕ → Bool) → Task → Bool
task_writes_any is = fold-Task Bool Bool (writes_step is) (task_writes is)

-- Whether a statement writes the index of a loop or a scalar of its bound.
abbrev pub is_kept : ℕ → Expr → ℕ → Bool
is_kept i to slot = (slot == i) || reads to slot

-- Whether an expression is built of int constants and scalars by `+`, `-` and `*`.
abbrev pub is_int : Ty → Bool
is_int Int = true
is_int Long = false

abbrev pub bound_step : Expr-F Bool Bool → Bool
bound_step (Expr-F.Const v ty) = is_int ty
bound_step (Expr-F.Scalar slot at) = true
bound_step (Expr-F.Binary op ty a b at) = is_bound_operator op && (is_int ty && (a && b))
bound_step _ = false

abbrev pub is_bound : Expr → Bool
is_bound = fold-Expr Bool Bool bound_step (λ a. false)

-- What a loop compares its index with, and whether that is included: of `i < e2` and `i <= e2`, where both are int.
abbrev pub is_scalar : ℕ → Expr-F Expr Access → Bool
is_scalar i (Expr-F.Scalar slot at) = slot == i
is_scalar i _ = false

abbrev pub bound_of : ℕ → Expr-F Expr Access → Option (Expr × Bool)
bound_of i (Expr-F.Binary op.Less Int a b at) = if is_scalar i (out-Expr a) then Some (b, false) else None
bound_of i (Expr-F.Binary op.LessEq Int a b at) = if is_scalar i (out-Expr a) then Some (b, true) else None
bound_of i _ = None

-- What an assignment adds to the index: a constant of 1 to the greatest step.
abbrev pub step_size : Expr-F Expr Access → Option ℕ
step_size (Expr-F.Const (pos (suc n)) ty) = if nat_le (suc n) most_counted then Some (suc n) else None
step_size _ = None

abbrev pub added_to : ℕ → Target → Expr → Option ℕ
added_to i (target.Scalar slot at) value = if slot == i then step_size (out-Expr value) else None
added_to i (target.Cell a) value = None

-- Whether the body of a loop leaves the index and the bound as they are, and the bound and the step are of a counted loop's form:
-- the last part is `i++` or `++i` and the bound excluded, or the bound is a small constant.
abbrev pub is_counted : ℕ → Expr → Bool → Bool → Stmt → Bool
is_counted i to inclusive by_one body =
    is_bound to && (not (reads to i) && (not (writes_any (is_kept i to) body)
    && ((by_one && not inclusive) || is_small_constant to)))
