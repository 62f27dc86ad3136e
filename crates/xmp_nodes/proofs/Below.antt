-- What holds of every statement in a statement holds of those in its parts.
use Rattle.std.proofs.Common.{◌≡◌, List, [], ◌∷◌, map, subst}
use Rattle.std.specs.List.{AllByRecursion, flat_map}
use Rattle.xmp_base.specs.declared.place.Place.{Place}
use Rattle.xmp_prog.specs.declared.expressions.Expr.{Expr}
use Rattle.xmp_prog.specs.declared.statements.LoopDirective.{LoopDirective}
use Rattle.xmp_prog.specs.declared.statements.LoopHead.{LoopHead}
use Rattle.xmp_prog.specs.declared.statements.Plain.{Plain}
use Rattle.xmp_prog.specs.declared.statements.Stmt.{Stmt}
use Rattle.xmp_prog.specs.declared.statements.Stmt.TheOpen.{Stmt-F}
use Rattle.xmp_prog.specs.declared.statements.Stmt.TheVariants as stmt
use Rattle.xmp_prog.specs.declared.statements.Stmt.TheFolds.{fold-Task, fold-roll-Task}
use Rattle.xmp_prog.specs.declared.statements.Task.{Task}
use Rattle.xmp_prog.specs.Statements.{Statement, Walked, WalkedTask, walk_step, walk_task, walked, statements_of}
use Rattle.xmp_prog.proofs.Rolls as rolls
use Rattle.xmp_meaning_laws.proofs.Conditions.{all_apart}

module _ (P : Statement → Type 0) where
  abbrev pub Every : Stmt → Type 0
  Every x = AllByRecursion P (statements_of x)

  of_walked : (w v : Walked) → w ≡ v → AllByRecursion P w.statements → AllByRecursion P v.statements
  of_walked w v e h = subst (λ (u : Walked). AllByRecursion P u.statements) e h

  pub every_plain : (q : Plain) → Every (stmt.Plain q) → P (Stmt-F.Plain q)
  every_plain q h = (of_walked (walked (stmt.Plain q)) (walk_step (Stmt-F.Plain q)) (rolls.at_plain Walked WalkedTask walk_step walk_task q) h).0

  each_below : (all : List Stmt) → AllByRecursion P (flat_map (λ (w : Walked). w.statements) (map walked all)) → AllByRecursion Every all
  each_below [] h = tt
  each_below (x ∷ xs) h =
      let d = all_apart P (statements_of x) (flat_map (λ (w : Walked). w.statements) (map walked xs)) h in
      (d.0, each_below xs d.1)

  pub every_block : (all : List Stmt) → Every (stmt.Block all) → AllByRecursion Every all
  every_block all h = each_below all (of_walked (walked (stmt.Block all)) (walk_step (Stmt-F.Block (map walked all))) (rolls.at_block Walked WalkedTask walk_step walk_task all) h).1

  pub every_if : (e : Expr) (x y : Stmt) → Every (stmt.If e x y) → Every x × Every y
  every_if e x y h = all_apart P (statements_of x) (statements_of y)
      (of_walked (walked (stmt.If e x y)) (walk_step (Stmt-F.If e (walked x) (walked y))) (rolls.at_if Walked WalkedTask walk_step walk_task e x y) h).1

  pub every_while : (e : Expr) (x : Stmt) (at : Place) → Every (stmt.While e x at) → Every x
  every_while e x at h = (of_walked (walked (stmt.While e x at)) (walk_step (Stmt-F.While e (walked x) at)) (rolls.at_while Walked WalkedTask walk_step walk_task e x at) h).1

  pub every_counted : (head : LoopHead) (x : Stmt) → Every (stmt.Counted head x) → Every x
  every_counted head x h = (of_walked (walked (stmt.Counted head x)) (walk_step (Stmt-F.Counted head (walked x))) (rolls.at_counted Walked WalkedTask walk_step walk_task head x) h).1

  pub every_loop : (d : LoopDirective) (x : Stmt) → Every (stmt.Loop d x) → Every x
  every_loop d x h = (of_walked (walked (stmt.Loop d x)) (walk_step (Stmt-F.Loop d (walked x))) (rolls.at_loop Walked WalkedTask walk_step walk_task d x) h).1

  abbrev walked_task : Task → WalkedTask
  walked_task = fold-Task Walked WalkedTask walk_step walk_task

  task_is : (t : Task) → walked_task t ≡ walk_task (record { nodes = t.nodes; body = walked t.body; at = t.at })
  task_is t = fold-roll-Task Walked WalkedTask walk_step walk_task (record { nodes = t.nodes; body = t.body; at = t.at })

  tasks_below : (all : List Task) → AllByRecursion P (flat_map (λ (w : WalkedTask). w.statements) (map walked_task all)) → AllByRecursion (λ t. Every t.body) all
  tasks_below [] h = tt
  tasks_below (t ∷ ts) h =
      let d = all_apart P (walked_task t).statements (flat_map (λ (w : WalkedTask). w.statements) (map walked_task ts)) h in
      (subst (λ (w : WalkedTask). AllByRecursion P w.statements) (task_is t) d.0, tasks_below ts d.1)

  pub every_tasks : (all : List Task) (at : Place) → Every (stmt.Tasks all at) → AllByRecursion (λ t. Every t.body) all
  every_tasks all at h = tasks_below all
      (of_walked (walked (stmt.Tasks all at)) (walk_step (Stmt-F.Tasks (map walked_task all) at)) (rolls.at_tasks Walked WalkedTask walk_step walk_task all at) h).1
