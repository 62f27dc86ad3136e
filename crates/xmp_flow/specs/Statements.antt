-- The events of every statement: a fold that keeps each statement beside its events, one line a form. Source: this project.
use Rattle.std.specs.Prelude.{ℕ, List, [], ◌∷◌, map, Option, Some, None, if◌then◌else◌}
use Rattle.xmp_base.specs.declared.place.Place.{Place}
use Rattle.xmp_paths.specs.Plans.{Plan, branch, loop, in_order}
use Rattle.xmp_paths.specs.declared.event.Event.{Event}
use Rattle.xmp_prog.specs.declared.expressions.Expr.{Expr, out-Expr}
use Rattle.xmp_prog.specs.declared.statements.LoopHead.{LoopHead}
use Rattle.xmp_prog.specs.declared.statements.Stmt.{Stmt, out-Stmt}
use Rattle.xmp_prog.specs.declared.statements.Stmt.TheVariants as stmt
use Rattle.xmp_prog.specs.declared.statements.Stmt.TheOpen.{Stmt-F, Task-F}
use Rattle.xmp_prog.specs.declared.statements.Stmt.TheFolds.{fold-Stmt, fold-Task}
use Rattle.xmp_prog.specs.declared.statements.Task.{Task}
use Rattle.xmp_flow.specs.Setting.{Setting, in_task, wrong_where, is_reduced, assigned}
use Rattle.xmp_flow.specs.Reads.{reads_of}
use Rattle.xmp_loops.specs.Forms.{compared, guarded_form, is_nothing, assigns}
use Rattle.xmp_flow.specs.PlainEvents.{in_form, plain_events}
use Rattle.xmp_flow.specs.LoopEvents.{loop_events}
use Rattle.xmp_loops.specs.declared.role.Role.{Role}
use Rattle.xmp_loops.specs.declared.role.Role.TheVariants.{Reduced}

-- a statement beside its events, and a task beside those of its statement
pub record Told : Type 0 where
  pub statement : Stmt
  pub events : Setting → Plan Event

pub record ToldTask : Type 0 where
  pub task : Task
  pub events : Setting → Plan Event

abbrev pub plain_statement : Stmt-F Told ToldTask → Stmt
plain_statement (Stmt-F.Plain s) = stmt.Plain s
plain_statement (Stmt-F.Block all) = stmt.Block (map (λ t. t.statement) all)
plain_statement (Stmt-F.If test a b) = stmt.If test a.statement b.statement
plain_statement (Stmt-F.While test body at) = stmt.While test body.statement at
plain_statement (Stmt-F.Counted head body) = stmt.Counted head body.statement
plain_statement (Stmt-F.Loop directive body) = stmt.Loop directive body.statement
plain_statement (Stmt-F.Tasks all at) = stmt.Tasks (map (λ t. t.task) all) at

-- ---- `if`

-- the reduction form `if (q) v = x;`, where that is what the statement is
abbrev pub form_of_if : Setting → Expr → Option (ℕ × Expr) → Option (List Expr)
form_of_if s test None = None
form_of_if s test (Some set) = at_role (s.roles set.0)
  where
    at_role : Role → Option (List Expr)
    at_role (Reduced r) = guarded_form s.program set.0 set.1 (compared s.program set.0 r (out-Expr test))
    at_role _ = None

abbrev pub if_form : Setting → Expr → Stmt → Stmt → Option (List Expr)
if_form s test a b = if is_nothing (out-Stmt b) then form_of_if s test (assigns (out-Stmt a)) else None

-- the condition, and then either part
abbrev pub choice_events : Expr → Told → Told → Setting → Plan Event
choice_events test a b s =
    in_form s (in_order (reads_of test s ∷ branch (a.events s) (b.events s) ∷ [])) (if_form s test a.statement b.statement)

-- ---- loops

-- an uncounted loop: the condition before each turn, and once more
abbrev pub while_events : Expr → (Setting → Plan Event) → Place → Setting → Plan Event
while_events test body at s =
    in_order (wrong_where s.inside 9 at ∷ loop (in_order (reads_of test s ∷ body s ∷ [])) ∷ reads_of test s ∷ [])

-- A counted loop: its first bound, its index, and the second bound before each turn, which sets the index anew. The
-- index is read in the test and the step too, where it is current, since the body writes neither it nor the bound.
abbrev pub counted_events : LoopHead → (Setting → Plan Event) → Setting → Plan Event
counted_events h body s = in_order (
    wrong_where (is_reduced (s.roles h.index.number)) 5 h.index.at
    ∷ reads_of h.from s
    ∷ assigned s h.index.number
    ∷ loop (in_order (reads_of h.to s ∷ body s ∷ assigned s h.index.number ∷ []))
    ∷ reads_of h.to s
    ∷ [])

-- ---- all forms

abbrev pub events_in : Stmt-F Told ToldTask → Setting → Plan Event
events_in (Stmt-F.Plain p) s = plain_events p s
events_in (Stmt-F.Block all) s = in_order (map (λ t. t.events s) all)
events_in (Stmt-F.If test a b) s = choice_events test a b s
events_in (Stmt-F.While test body at) s = while_events test body.events at s
events_in (Stmt-F.Counted head body) s = counted_events head body.events s
events_in (Stmt-F.Loop directive body) s = loop_events directive body.statement body.events s
events_in (Stmt-F.Tasks all at) s = in_order (wrong_where s.inside 10 at ∷ map (λ t. t.events s) all)

abbrev pub stmt_step : Stmt-F Told ToldTask → Told
stmt_step x = record { statement = plain_statement x; events = λ s. events_in x s }

abbrev pub task_step : Task-F Told ToldTask → ToldTask
task_step t = record {
  task = record { nodes = t.nodes; body = t.body.statement; at = t.at };
  events = λ s. t.body.events (in_task s t.nodes);
}

abbrev pub told : Stmt → Told
told = fold-Stmt Told ToldTask stmt_step task_step

abbrev pub told_task : Task → ToldTask
told_task = fold-Task Told ToldTask stmt_step task_step

-- the events of a statement where it stands
abbrev pub events_of : Stmt → Setting → Plan Event
events_of x s = (told x).events s
