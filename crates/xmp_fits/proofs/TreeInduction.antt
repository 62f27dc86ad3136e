-- Induction over the statements of a tree.
use Rattle.std.proofs.Common.{subst, List, [], ◌∷◌}
use Rattle.std.specs.Prelude.{⊤, None, Some}
use Rattle.std.specs.List.{AllByRecursion}
use Rattle.xmp_base.specs.declared.place.Place.{Place}
use Rattle.xmp_syntax.specs.declared.parts.Inside.{Inside}
use Rattle.xmp_syntax.specs.declared.expression.Expr.{Expr}
use Rattle.xmp_syntax.specs.declared.directive.DirectiveLine.{DirectiveLine}
use Rattle.xmp_syntax.specs.declared.directive.LoopLine.{LoopLine}
use Rattle.xmp_syntax.specs.declared.directive.TaskLine.{TaskLine}
use Rattle.xmp_syntax.specs.declared.statement.Plain.{Plain}
use Rattle.xmp_syntax.specs.declared.statement.ForHead.{ForHead}
use Rattle.xmp_syntax.specs.declared.statement.BlockItem.{BlockItem}
use Rattle.xmp_syntax.specs.declared.statement.BlockItem.TheVariants as b
use Rattle.xmp_syntax.specs.declared.statement.Stmt.{Stmt}
use Rattle.xmp_syntax.specs.declared.statement.Stmt.TheVariants as s
use Rattle.xmp_syntax.specs.Trees as tree
use Rattle.xmp_syntax.specs.View.{stmt_view}
use Rattle.xmp_syntax.proofs.BackStatements.{back, back_items, back_tasks, back_view}

-- What stands in a block: a statement of which P holds, or something else.
abbrev pub ItemIs : {A : Type 0} → (A → Type 0) → BlockItem A → Type 0
ItemIs P (b.Mapping x) = ⊤
ItemIs P (b.Declaration d) = ⊤
ItemIs P (b.Stmt x) = P x

-- P holds of a statement of each form where it holds of the statements inside.
pub record Cases (P : Stmt → Type 0) : Type 0 where
  pub plain : (x : Plain) → P (s.Plain x)
  pub block : (o : Place) (xs : List (BlockItem Stmt)) (c : Place) → AllByRecursion (ItemIs P) xs → P (s.Block (record { «open» = o; item = xs; close = c }))
  pub if_then : (p : Place) (e : Inside Expr) (x : Stmt) → P x → P (s.If p e x None)
  pub if_else : (p : Place) (e : Inside Expr) (x : Stmt) (q : Place) (y : Stmt) → P x → P y → P (s.If p e x (Some (q, y)))
  pub while_do : (p : Place) (e : Inside Expr) (x : Stmt) → P x → P (s.While p e x)
  pub for_do : (h : ForHead) (x : Stmt) → P x → P (s.For h x)
  pub loop : (l : LoopLine) (h : ForHead) (x : Stmt) → P x → P (s.Loop l h x)
  pub task : (l : TaskLine) (x : Stmt) → P x → P (s.Task l x)
  pub tasks : (l : DirectiveLine) (o : Place) (xs : List (TaskLine × Stmt)) (c : Place) → AllByRecursion (λ t. P t.1) xs → P (s.Tasks l (record { «open» = o; item = xs; close = c }))

module _ (P : Stmt → Type 0) (cases : Cases P) where
  mutual
    of_view : (t : tree.Stmt) → P (back t)
    of_view (tree.plain x) = cases.plain x
    of_view (tree.block o xs c) = cases.block o (back_items xs) c (of_items xs)
    of_view (tree.if_then p e x) = cases.if_then p e (back x) (of_view x)
    of_view (tree.if_else p e x q y) = cases.if_else p e (back x) q (back y) (of_view x) (of_view y)
    of_view (tree.while_do p e x) = cases.while_do p e (back x) (of_view x)
    of_view (tree.for_do h x) = cases.for_do h (back x) (of_view x)
    of_view (tree.loop l h x) = cases.loop l h (back x) (of_view x)
    of_view (tree.task l x) = cases.task l (back x) (of_view x)
    of_view (tree.tasks l o xs c) = cases.tasks l o (back_tasks xs) c (of_tasks xs)

    of_items : (xs : tree.BlockItems) → AllByRecursion (ItemIs P) (back_items xs)
    of_items tree.none = tt
    of_items (tree.mapping x xs) = (tt, of_items xs)
    of_items (tree.declaration d xs) = (tt, of_items xs)
    of_items (tree.statement x xs) = (of_view x, of_items xs)

    of_tasks : (xs : tree.Tasks) → AllByRecursion (λ t. P t.1) (back_tasks xs)
    of_tasks tree.no_task = tt
    of_tasks (tree.a_task l x xs) = (of_view x, of_tasks xs)

  pub each_stmt : (x : Stmt) → P x
  each_stmt x = subst P (back_view x) (of_view (stmt_view x))

  pub each_item : (xs : List (BlockItem Stmt)) → AllByRecursion (ItemIs P) xs
  each_item [] = tt
  each_item (b.Mapping x ∷ xs) = (tt, each_item xs)
  each_item (b.Declaration d ∷ xs) = (tt, each_item xs)
  each_item (b.Stmt x ∷ xs) = (each_stmt x, each_item xs)
