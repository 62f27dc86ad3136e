-- The tests of a plain statement and of tasks, from those of all that stands in them.
use Rattle.std.proofs.Common.{List, map, ap, subst}
use Rattle.std.specs.List.{AllByRecursion}
use Rattle.xmp_base.specs.declared.place.Place.{Place}
use Rattle.xmp_prog.specs.declared.parts.ProgParts.{ProgParts}
use Rattle.xmp_prog.specs.declared.statements.Plain.{Plain}
use Rattle.xmp_prog.specs.declared.statements.Stmt.TheVariants as stmt
use Rattle.xmp_prog.specs.declared.statements.Stmt.TheOpen.{Stmt-F}
use Rattle.xmp_prog.specs.declared.statements.Stmt.TheFolds.{fold-Task}
use Rattle.xmp_prog.specs.declared.statements.Task.{Task}
use Rattle.xmp_prog.specs.Statements.{Walked, WalkedTask, walk_step, walk_task}
use Rattle.xmp_prog.proofs.Rolls as rolls
use Rattle.xmp_nodes.proofs.Standing.{StatementStands, PartFits}

pub plain_stands : (p : ProgParts) (q : Plain) → PartFits p (stmt.Plain q) → StatementStands p (Stmt-F.Plain q)
plain_stands p q fits = (subst (AllByRecursion (StatementStands p)) (ap (λ (w : Walked). w.statements) (rolls.at_plain Walked WalkedTask walk_step walk_task q)) fits.statements).0

pub tasks_stand : (p : ProgParts) (all : List Task) (at : Place) → PartFits p (stmt.Tasks all at)
    → StatementStands p (Stmt-F.Tasks (map (λ t. t.nodes) (map (fold-Task Walked WalkedTask walk_step walk_task) all)) at)
tasks_stand p all at fits = (subst (AllByRecursion (StatementStands p)) (ap (λ (w : Walked). w.statements) (rolls.at_tasks Walked WalkedTask walk_step walk_task all at)) fits.statements).0
