-- The tree of each statement.
use Rattle.std.proofs.Common.{◌≡◌, List, Option, None, Some}
use Rattle.xmp_base.specs.declared.place.Place.{Place}
use Rattle.xmp_syntax.specs.declared.parts.Inside.{Inside}
use Rattle.xmp_syntax.specs.declared.expression.Expr as made_expr
use Rattle.xmp_syntax.specs.declared.directive.DirectiveLine.{DirectiveLine}
use Rattle.xmp_syntax.specs.declared.directive.LoopLine.{LoopLine}
use Rattle.xmp_syntax.specs.declared.directive.TaskLine.{TaskLine}
use Rattle.xmp_syntax.specs.declared.statement.BlockItem.{BlockItem}
use Rattle.xmp_syntax.specs.declared.statement.ForHead.{ForHead}
use Rattle.xmp_syntax.specs.declared.statement.Plain.{Plain}
use Rattle.xmp_syntax.specs.declared.statement.Stmt as made
use Rattle.xmp_syntax.specs.declared.statement.Stmt.TheVariants as s
use Rattle.xmp_syntax.specs.Trees.{Stmt, plain, block, if_then, if_else, while_do, for_do, loop, task, tasks}
use Rattle.xmp_syntax.specs.View.{stmt_view, items_view, tasks_view}
use Rattle.xmp_syntax.specs.Seen.{seen_plain, seen_block, seen_if, seen_else, seen_while, seen_for, seen_loop, seen_task, seen_tasks}

pub view_plain : (x : Plain) → stmt_view (s.Plain x) ≡ plain x
view_plain x = seen_plain x

pub view_block : (x : Inside (List (BlockItem made.Stmt))) → stmt_view (s.Block x) ≡ block x.open (items_view x.item) x.close
view_block x = seen_block x.open x.item x.close

pub view_if : (p : Place) (x : Inside made_expr.Expr) (y : made.Stmt) → stmt_view (s.If p x y None) ≡ if_then p x (stmt_view y)
view_if p x y = seen_if p x y

pub view_else : (p : Place) (x : Inside made_expr.Expr) (y : made.Stmt) (z : Place × made.Stmt) → stmt_view (s.If p x y (Some z)) ≡ if_else p x (stmt_view y) z.0 (stmt_view z.1)
view_else p x y z = seen_else p x y z.0 z.1

pub view_while : (p : Place) (x : Inside made_expr.Expr) (y : made.Stmt) → stmt_view (s.While p x y) ≡ while_do p x (stmt_view y)
view_while p x y = seen_while p x y

pub view_for : (h : ForHead) (y : made.Stmt) → stmt_view (s.For h y) ≡ for_do h (stmt_view y)
view_for h y = seen_for h y

pub view_loop : (l : LoopLine) (h : ForHead) (y : made.Stmt) → stmt_view (s.Loop l h y) ≡ loop l h (stmt_view y)
view_loop l h y = seen_loop l h y

pub view_task : (l : TaskLine) (y : made.Stmt) → stmt_view (s.Task l y) ≡ task l (stmt_view y)
view_task l y = seen_task l y

pub view_tasks : (l : DirectiveLine) (x : Inside (List (TaskLine × made.Stmt))) → stmt_view (s.Tasks l x) ≡ tasks l x.open (tasks_view x.item) x.close
view_tasks l x = seen_tasks l x.open x.item x.close
