-- The events of each form of statement.
use Rattle.std.proofs.Common.{◌≡◌, ◌∙◌, ap, refl, ◌∷◌, [], List, map}
use Rattle.xmp_base.specs.declared.place.Place.{Place}
use Rattle.xmp_paths.specs.Plans.{branch, in_order}
use Rattle.xmp_prog.proofs.Rolls.{at_plain, at_block, at_if, at_while, at_counted, at_loop, at_tasks}
use Rattle.xmp_prog.specs.declared.expressions.Expr.{Expr}
use Rattle.xmp_prog.specs.declared.statements.LoopHead.{LoopHead}
use Rattle.xmp_prog.specs.declared.statements.LoopDirective.{LoopDirective}
use Rattle.xmp_prog.specs.declared.statements.Plain.{Plain}
use Rattle.xmp_prog.specs.declared.statements.Stmt.{Stmt}
use Rattle.xmp_prog.specs.declared.statements.Stmt.TheVariants as stmt
use Rattle.xmp_prog.specs.declared.statements.Stmt.TheFolds.{fold-roll-Task}
use Rattle.xmp_prog.specs.declared.statements.Task.{Task}
use Rattle.xmp_flow.specs.Setting.{Setting, in_task, wrong_where}
use Rattle.xmp_flow.specs.Reads.{reads_of}
use Rattle.xmp_flow.specs.PlainEvents.{in_form, plain_events}
use Rattle.xmp_flow.specs.LoopEvents.{loop_events}
use Rattle.xmp_flow.specs.Statements.{Told, ToldTask, stmt_step, task_step, told, told_task, events_of, if_form, while_events, counted_events}
use Rattle.xmp_flow.proofs.ToldLaws.{statement-told}

pub events_plain : (p : Plain) (s : Setting) → events_of (stmt.Plain p) s ≡ plain_events p s
events_plain p s = ap (λ (t : Told). t.events s) (at_plain Told ToldTask stmt_step task_step p)

map_told : (all : List Stmt) (s : Setting) → map (λ t. t.events s) (map told all) ≡ map (λ x. events_of x s) all
map_told [] s = refl
map_told (x ∷ xs) s = ap (λ l. events_of x s ∷ l) (map_told xs s)

pub events_block : (all : List Stmt) (s : Setting) → events_of (stmt.Block all) s ≡ in_order (map (λ x. events_of x s) all)
events_block all s = ap (λ (t : Told). t.events s) (at_block Told ToldTask stmt_step task_step all) ∙ ap in_order (map_told all s)

pub events_if : (test : Expr) (a b : Stmt) (s : Setting) →
    events_of (stmt.If test a b) s ≡ in_form s (in_order (reads_of test s ∷ branch (events_of a s) (events_of b s) ∷ [])) (if_form s test a b)
events_if test a b s =
    ap (λ (t : Told). t.events s) (at_if Told ToldTask stmt_step task_step test a b)
    ∙ (ap (λ x. in_form s (in_order (reads_of test s ∷ branch (events_of a s) (events_of b s) ∷ [])) (if_form s test x (told b).statement)) (statement-told a)
    ∙ ap (λ x. in_form s (in_order (reads_of test s ∷ branch (events_of a s) (events_of b s) ∷ [])) (if_form s test a x)) (statement-told b))

pub events_while : (test : Expr) (body : Stmt) (at : Place) (s : Setting) → events_of (stmt.While test body at) s ≡ while_events test (events_of body) at s
events_while test body at s = ap (λ (t : Told). t.events s) (at_while Told ToldTask stmt_step task_step test body at)

pub events_counted : (head : LoopHead) (body : Stmt) (s : Setting) → events_of (stmt.Counted head body) s ≡ counted_events head (events_of body) s
events_counted head body s = ap (λ (t : Told). t.events s) (at_counted Told ToldTask stmt_step task_step head body)

pub events_loop : (d : LoopDirective) (body : Stmt) (s : Setting) → events_of (stmt.Loop d body) s ≡ loop_events d body (events_of body) s
events_loop d body s =
    ap (λ (t : Told). t.events s) (at_loop Told ToldTask stmt_step task_step d body)
    ∙ ap (λ x. loop_events d x (events_of body) s) (statement-told body)

task_events : (t : Task) (s : Setting) → (told_task t).events s ≡ events_of t.body (in_task s t.nodes)
task_events t s = ap (λ (w : ToldTask). w.events s) (fold-roll-Task Told ToldTask stmt_step task_step (record { nodes = t.nodes; body = t.body; at = t.at }))

map_tasks : (all : List Task) (s : Setting) → map (λ t. t.events s) (map told_task all) ≡ map (λ t. events_of t.body (in_task s t.nodes)) all
map_tasks [] s = refl
map_tasks (t ∷ ts) s =
    ap (λ x. x ∷ map (λ t. t.events s) (map told_task ts)) (task_events t s)
    ∙ ap (λ l. events_of t.body (in_task s t.nodes) ∷ l) (map_tasks ts s)

pub events_tasks : (all : List Task) (at : Place) (s : Setting) →
    events_of (stmt.Tasks all at) s ≡ in_order (wrong_where s.inside 10 at ∷ map (λ t. events_of t.body (in_task s t.nodes)) all)
events_tasks all at s =
    ap (λ (t : Told). t.events s) (at_tasks Told ToldTask stmt_step task_step all at)
    ∙ ap (λ l. in_order (wrong_where s.inside 10 at ∷ l)) (map_tasks all s)
