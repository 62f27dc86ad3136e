-- What a statement does (ISO C11 6.8).
use Rattle.std.specs.Prelude.{[], map, pos}
use Rattle.xmp_prog.specs.declared.statements.Plain.{Plain}
use Rattle.xmp_prog.specs.declared.statements.Plain.TheVariants as plain
use Rattle.xmp_prog.specs.declared.statements.Stmt.{Stmt}
use Rattle.xmp_prog.specs.declared.statements.Stmt.TheOpen.{Stmt-F, Task-F}
use Rattle.xmp_prog.specs.declared.statements.Stmt.TheFolds.{fold-Stmt}
use Rattle.xmp_meaning.specs.declared.ends.Flow.{Flow}
use Rattle.xmp_meaning.specs.declared.ends.Flow.TheVariants.{Next, Returned}
use Rattle.xmp_meaning.specs.Runs.{Run, ◌>>=◌, pure, set_scalar, write}
use Rattle.xmp_meaning.specs.Blocks.{then_run, block, choose}
use Rattle.xmp_meaning.specs.Context.{Context}
use Rattle.xmp_meaning.specs.Handlers.{Handlers, TaskRun}
use Rattle.xmp_meaning.specs.Expressions.{expr_of, each, call, holds}
use Rattle.xmp_meaning.specs.Formats.{printed}
use Rattle.xmp_meaning.specs.Assignments.{at_target, assign, declare, scan}
use Rattle.xmp_meaning.specs.Loops.{while_loop, counted, nest}
use Rattle.xmp_meaning.specs.Sections.{aim, read_cell, store_all}

-- those that hold no statement
abbrev pub plain_of : {X : Type 0} → Handlers X → Context → Plain → Run X Flow
plain_of h cx (plain.Declare slot value at) = declare h cx slot value
plain_of h cx (plain.Set to compound e) = at_target h cx to (assign h cx compound e)
plain_of h cx (plain.Return e) = do
  v ← expr_of h cx e
  pure (Returned v)
plain_of h cx (plain.Call function arguments at) = do
  vs ← each (map (expr_of h cx) arguments) []
  _ ← call cx function vs
  pure Next
plain_of h cx (plain.Print format arguments at) = do
  vs ← each (map (expr_of h cx) arguments) []
  _ ← write (printed format vs)
  pure Next
plain_of h cx (plain.Scan to at) = at_target h cx to (scan h cx)
plain_of h cx (plain.Sync status at) = then_run h.sync (do
  _ ← set_scalar status.number (pos 0)
  pure Next)
plain_of h cx (plain.Reflect arrays at) = h.reflect arrays
plain_of h cx (plain.Barrier at) = h.barrier
plain_of h cx (plain.Cast variables from at) = h.bcast variables from
plain_of h cx (plain.Gmove target source at) = h.gmove target source (aim h cx target source) (read_cell h source) (store_all h cx target)

-- a task with what its statement does
abbrev pub task_step : {X : Type 0} → Task-F (Run X Flow) (TaskRun X) → TaskRun X
task_step t = record { nodes = t.nodes; run = t.body; at = t.at }

-- a statement, by what the statements in it do
abbrev pub stmt_step : {X : Type 0} → Handlers X → Context → Stmt-F (Run X Flow) (TaskRun X) → Run X Flow
stmt_step h cx (Stmt-F.Plain p) = plain_of h cx p
stmt_step h cx (Stmt-F.Block all) = block all
stmt_step h cx (Stmt-F.If e a b) = do
  v ← holds (expr_of h cx e)
  choose v a b
stmt_step h cx (Stmt-F.While e body at) = while_loop (holds (expr_of h cx e)) body
stmt_step h cx (Stmt-F.Counted head body) = counted h cx head body
stmt_step h cx (Stmt-F.Loop directive body) = h.loop directive (nest h cx directive.nest) body
stmt_step h cx (Stmt-F.Tasks all at) = h.tasks all

-- what a statement does
abbrev pub stmt_of : {X : Type 0} → Handlers X → Context → Stmt → Run X Flow
stmt_of {X} h cx = fold-Stmt (Run X Flow) (TaskRun X) (stmt_step h cx) task_step
