-- The numbers of a tree lie in their types: a test of each part of it.
use Rattle.std.proofs.Common.{◌≡◌, ◌∙◌, refl, sym, ap, List, [], ◌∷◌, map, Bool, true, ◌&&◌, Some, None}
use Rattle.std.specs.List.{list_all}
use Rattle.xmp_base.specs.declared.place.Place.{Place}
use Rattle.xmp_syntax.specs.declared.parts.Inside.{Inside}
use Rattle.xmp_syntax.specs.declared.expression.Expr.{Expr}
use Rattle.xmp_syntax.specs.declared.declaration.Declaration.{Declaration}
use Rattle.xmp_syntax.specs.declared.directive.DirectiveLine.{DirectiveLine}
use Rattle.xmp_syntax.specs.declared.directive.Mapping.{Mapping}
use Rattle.xmp_syntax.specs.declared.directive.LoopLine.{LoopLine}
use Rattle.xmp_syntax.specs.declared.directive.TaskLine.{TaskLine}
use Rattle.xmp_syntax.specs.declared.statement.ForHead.{ForHead}
use Rattle.xmp_syntax.specs.declared.statement.Plain.{Plain}
use Rattle.xmp_syntax.specs.declared.statement.BlockItem.{BlockItem}
use Rattle.xmp_syntax.specs.declared.statement.BlockItem.TheVariants as b
use Rattle.xmp_syntax.specs.declared.statement.Stmt.{Stmt, fold-roll-Stmt}
use Rattle.xmp_syntax.specs.declared.statement.Stmt.TheOpen.{Stmt-F}
use Rattle.xmp_syntax.specs.declared.statement.Stmt.TheVariants as s
use Rattle.xmp_fits.specs.NumbersLie.{declaration_lies, head_lies, item_step, items_lie, lies_step, loop_line_lies, mapping_lies, numbers_lie, plain_lies, stmt_lies, task_line_lies, task_step, tasks_lie}

-- ---- parts

-- ---- statements

-- ---- the program

-- ---- the same of a statement of each form

pub plain_is : (x : Plain) → stmt_lies (s.Plain x) ≡ plain_lies x
plain_is x = ap stmt_lies (sym (s.rolls-Plain x)) ∙ fold-roll-Stmt Bool lies_step (Stmt-F.Plain x)

pub if_is : (p : Place) (x : Inside Expr) (y : Stmt) → stmt_lies (s.If p x y None) ≡ (numbers_lie x.item && (stmt_lies y && true))
if_is p x y = ap stmt_lies (sym (s.rolls-If p x y None)) ∙ fold-roll-Stmt Bool lies_step (Stmt-F.If p x y None)

pub else_is : (p : Place) (x : Inside Expr) (y : Stmt) (q : Place) (z : Stmt) → stmt_lies (s.If p x y (Some (q, z))) ≡ (numbers_lie x.item && (stmt_lies y && stmt_lies z))
else_is p x y q z = ap stmt_lies (sym (s.rolls-If p x y (Some (q, z)))) ∙ fold-roll-Stmt Bool lies_step (Stmt-F.If p x y (Some (q, z)))

pub while_is : (p : Place) (x : Inside Expr) (y : Stmt) → stmt_lies (s.While p x y) ≡ (numbers_lie x.item && stmt_lies y)
while_is p x y = ap stmt_lies (sym (s.rolls-While p x y)) ∙ fold-roll-Stmt Bool lies_step (Stmt-F.While p x y)

pub for_is : (h : ForHead) (y : Stmt) → stmt_lies (s.For h y) ≡ (head_lies h && stmt_lies y)
for_is h y = ap stmt_lies (sym (s.rolls-For h y)) ∙ fold-roll-Stmt Bool lies_step (Stmt-F.For h y)

pub loop_is : (l : LoopLine) (h : ForHead) (y : Stmt) → stmt_lies (s.Loop l h y) ≡ (loop_line_lies l && (head_lies h && stmt_lies y))
loop_is l h y = ap stmt_lies (sym (s.rolls-Loop l h y)) ∙ fold-roll-Stmt Bool lies_step (Stmt-F.Loop l h y)

pub task_is : (l : TaskLine) (y : Stmt) → stmt_lies (s.Task l y) ≡ (task_line_lies l && stmt_lies y)
task_is l y = ap stmt_lies (sym (s.rolls-Task l y)) ∙ fold-roll-Stmt Bool lies_step (Stmt-F.Task l y)

-- the items of a block, and tasks, seen one by one
same_items : (h : BlockItem Stmt → BlockItem Bool) → ((x : Mapping) → h (b.Mapping x) ≡ b.Mapping x) → ((x : Declaration) → h (b.Declaration x) ≡ b.Declaration x)
    → ((x : Stmt) → h (b.Stmt x) ≡ b.Stmt (stmt_lies x)) → (xs : List (BlockItem Stmt)) → list_all item_step (map h xs) ≡ items_lie xs
same_items h m d e [] = refl
same_items h m d e (b.Mapping x ∷ xs) = ap (λ v. item_step v && list_all item_step (map h xs)) (m x) ∙ ap (λ l. mapping_lies x && l) (same_items h m d e xs)
same_items h m d e (b.Declaration x ∷ xs) = ap (λ v. item_step v && list_all item_step (map h xs)) (d x) ∙ ap (λ l. declaration_lies x && l) (same_items h m d e xs)
same_items h m d e (b.Stmt x ∷ xs) = ap (λ v. item_step v && list_all item_step (map h xs)) (e x) ∙ ap (λ l. stmt_lies x && l) (same_items h m d e xs)

seen_items : (h : BlockItem Stmt → BlockItem Bool) (v : Bool) (xs : List (BlockItem Stmt)) → v ≡ list_all item_step (map h xs)
    → ((x : Mapping) → h (b.Mapping x) ≡ b.Mapping x) → ((x : Declaration) → h (b.Declaration x) ≡ b.Declaration x) → ((x : Stmt) → h (b.Stmt x) ≡ b.Stmt (stmt_lies x)) → v ≡ items_lie xs
seen_items h v xs e m d q = e ∙ same_items h m d q xs

pub block_is : (o : Place) (xs : List (BlockItem Stmt)) (c : Place) → stmt_lies (s.Block (record { «open» = o; item = xs; close = c })) ≡ items_lie xs
block_is o xs c =
    seen_items _ _ xs (ap stmt_lies (sym (s.rolls-Block _)) ∙ fold-roll-Stmt Bool lies_step (Stmt-F.Block (record { «open» = o; item = xs; close = c })))
    (λ x. refl) (λ x. refl) (λ x. refl)

abbrev seen_task : TaskLine × Stmt → TaskLine × Bool
seen_task x = (x.0, stmt_lies x.1)

same_tasks : (xs : List (TaskLine × Stmt)) → list_all task_step (map seen_task xs) ≡ tasks_lie xs
same_tasks [] = refl
same_tasks (x ∷ xs) = ap (λ l. (task_line_lies x.0 && stmt_lies x.1) && l) (same_tasks xs)

pub tasks_are : (l : DirectiveLine) (o : Place) (xs : List (TaskLine × Stmt)) (c : Place) → stmt_lies (s.Tasks l (record { «open» = o; item = xs; close = c })) ≡ tasks_lie xs
tasks_are l o xs c = ap stmt_lies (sym (s.rolls-Tasks l _)) ∙ (fold-roll-Stmt Bool lies_step (Stmt-F.Tasks l (record { «open» = o; item = xs; close = c })) ∙ same_tasks xs)
