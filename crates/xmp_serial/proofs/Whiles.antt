use Rattle.std.proofs.Common.{◌≡◌, ap, ◌∙◌, sym, subst, Result, List, map}
use Rattle.xmp_base.specs.declared.place.Place.{Place}
use Rattle.xmp_prog.specs.declared.expressions.Expr.{Expr}
use Rattle.xmp_prog.specs.declared.statements.Stmt.{Stmt}
use Rattle.xmp_prog.specs.declared.statements.Stmt.TheOpen.{Stmt-F}
use Rattle.xmp_prog.specs.declared.statements.Stmt.TheFolds.{fold-Stmt, fold-roll-Stmt}
use Rattle.xmp_prog.specs.declared.statements.Stmt.TheVariants.{Block, rolls-Block, Tasks, rolls-Tasks, While, rolls-While}
use Rattle.xmp_prog.specs.declared.statements.Task.{Task}
use Rattle.xmp_meaning.specs.declared.ends.Flow.{Flow}
use Rattle.xmp_meaning.specs.declared.ends.Halt.{Halt}
use Rattle.xmp_meaning.specs.Runs.{State, Run, Does}
use Rattle.xmp_meaning.specs.Context.{Context}
use Rattle.xmp_meaning.specs.Handlers.{TaskRun, erased, task_run}
use Rattle.xmp_meaning.specs.Expressions.{expr_of, holds}
use Rattle.xmp_meaning.specs.Loops.{while_loop}
use Rattle.xmp_meaning.specs.Blocks.{block}
use Rattle.xmp_meaning.specs.Statements.{stmt_step, task_step}
use Rattle.xmp_serial.specs.Turns.{run_of, task_of}

-- what an uncounted loop does
pub while_is : (cx : Context) (e : Expr) (body : Stmt) (at : Place)
    → run_of cx (While e body at) ≡ while_loop (holds (expr_of erased cx e)) (run_of cx body)
while_is cx e body at =
    ap (fold-Stmt (Run (Unit {0}) Flow) (TaskRun (Unit {0})) (stmt_step erased cx) task_step) (sym (rolls-While e body at))
    ∙ fold-roll-Stmt (Run (Unit {0}) Flow) (TaskRun (Unit {0})) (stmt_step erased cx) task_step (Stmt-F.While e body at)

-- what a block does
pub block_is : (cx : Context) (all : List Stmt) → run_of cx (Block all) ≡ block (map (run_of cx) all)
block_is cx all =
    ap (fold-Stmt (Run (Unit {0}) Flow) (TaskRun (Unit {0})) (stmt_step erased cx) task_step) (sym (rolls-Block all))
    ∙ fold-roll-Stmt (Run (Unit {0}) Flow) (TaskRun (Unit {0})) (stmt_step erased cx) task_step (Stmt-F.Block all)

-- what tasks do
pub tasks_is : (cx : Context) (all : List Task) (at : Place) → run_of cx (Tasks all at) ≡ block (map task_run (map (task_of cx) all))
tasks_is cx all at =
    ap (fold-Stmt (Run (Unit {0}) Flow) (TaskRun (Unit {0})) (stmt_step erased cx) task_step) (sym (rolls-Tasks all at))
    ∙ fold-roll-Stmt (Run (Unit {0}) Flow) (TaskRun (Unit {0})) (stmt_step erased cx) task_step (Stmt-F.Tasks all at)

-- so who does the loop does the statement
pub while_done : (cx : Context) (s : Stmt) (e : Expr) (body given : Stmt) (at : Place) (old : State (Unit {0})) (r : Result Flow Halt) (new : State (Unit {0}))
    → s ≡ While e body at → given ≡ body → Does (while_loop (holds (expr_of erased cx e)) (run_of cx given) old) r new → Does (run_of cx s old) r new
while_done cx s e body given at old r new p q h =
    let P : Stmt → Type 0 = λ x. Does (run_of cx x old) r new in
    let Q : Run (Unit {0}) Flow → Type 0 = λ f. Does (f old) r new in
    let W : Stmt → Type 0 = λ b. Does (while_loop (holds (expr_of erased cx e)) (run_of cx b) old) r new in
    subst P (sym p) (subst Q (sym (while_is cx e body at)) (subst W q h))
