-- What a statement of each form becomes.
use Rattle.std.proofs.Common.{◌≡◌, ◌∙◌, refl, sym, ap, List, [], ◌∷◌, map}
use Rattle.std.specs.Prelude.{Option, None, Some}
use Rattle.std.specs.Option.{option_map}
use Rattle.xmp_base.specs.declared.place.Place.{Place}
use Rattle.xmp_prog.specs.declared.statements.Stmt as made
use Rattle.xmp_syntax.specs.declared.parts.Inside.{Inside}
use Rattle.xmp_syntax.specs.declared.expression.Expr.{Expr}
use Rattle.xmp_syntax.specs.declared.declaration.Declaration.{Declaration}
use Rattle.xmp_syntax.specs.declared.directive.DirectiveLine.{DirectiveLine}
use Rattle.xmp_syntax.specs.declared.directive.LoopLine.{LoopLine}
use Rattle.xmp_syntax.specs.declared.directive.TaskLine.{TaskLine}
use Rattle.xmp_syntax.specs.declared.directive.Mapping.{Mapping}
use Rattle.xmp_syntax.specs.declared.statement.Plain.{Plain}
use Rattle.xmp_syntax.specs.declared.statement.ForHead.{ForHead}
use Rattle.xmp_syntax.specs.declared.statement.BlockItem.{BlockItem}
use Rattle.xmp_syntax.specs.declared.statement.BlockItem.TheVariants as b
use Rattle.xmp_syntax.specs.declared.statement.Stmt.{Stmt, fold-Stmt, fold-roll-Stmt}
use Rattle.xmp_syntax.specs.declared.statement.Stmt.TheOpen.{Stmt-F}
use Rattle.xmp_syntax.specs.declared.statement.Stmt.TheVariants as s
use Rattle.xmp_names.specs.Walk.{Run}
use Rattle.xmp_walk.specs.Statements.{if_of, while_of, for_of}
use Rattle.xmp_walk.specs.Program.{loop_directive, stmt_of, stmt_step, plain_of, block_of, inside_item, else_step, task_step}
use Rattle.xmp_directives.specs.Directives.{lone_task, tasks_of}

pub seen_plain : (x : Plain) → stmt_of (s.Plain x) ≡ plain_of x
seen_plain x = ap stmt_of (sym (s.rolls-Plain x)) ∙ fold-roll-Stmt (Run made.Stmt) stmt_step (Stmt-F.Plain x)

pub seen_if : (p : Place) (x : Inside Expr) (y : Stmt) (z : Option (Place × Stmt)) → stmt_of (s.If p x y z) ≡ if_of x.item (stmt_of y) (option_map else_step z)
seen_if p x y None = ap stmt_of (sym (s.rolls-If p x y None)) ∙ fold-roll-Stmt (Run made.Stmt) stmt_step (Stmt-F.If p x y None)
seen_if p x y (Some z) = ap stmt_of (sym (s.rolls-If p x y (Some z))) ∙ fold-roll-Stmt (Run made.Stmt) stmt_step (Stmt-F.If p x y (Some z))

pub seen_while : (p : Place) (x : Inside Expr) (y : Stmt) → stmt_of (s.While p x y) ≡ while_of p x.item (stmt_of y)
seen_while p x y = ap stmt_of (sym (s.rolls-While p x y)) ∙ fold-roll-Stmt (Run made.Stmt) stmt_step (Stmt-F.While p x y)

pub seen_for : (h : ForHead) (y : Stmt) → stmt_of (s.For h y) ≡ for_of h (stmt_of y)
seen_for h y = ap stmt_of (sym (s.rolls-For h y)) ∙ fold-roll-Stmt (Run made.Stmt) stmt_step (Stmt-F.For h y)

pub seen_loop : (l : LoopLine) (h : ForHead) (y : Stmt) → stmt_of (s.Loop l h y) ≡ loop_directive l h (stmt_of y)
seen_loop l h y = ap stmt_of (sym (s.rolls-Loop l h y)) ∙ fold-roll-Stmt (Run made.Stmt) stmt_step (Stmt-F.Loop l h y)

pub seen_task : (l : TaskLine) (y : Stmt) → stmt_of (s.Task l y) ≡ lone_task l (stmt_of y)
seen_task l y = ap stmt_of (sym (s.rolls-Task l y)) ∙ fold-roll-Stmt (Run made.Stmt) stmt_step (Stmt-F.Task l y)

pub seen_tasks : (l : DirectiveLine) (o : Place) (xs : List (TaskLine × Stmt)) (c : Place) →
    stmt_of (s.Tasks l (record { «open» = o; item = xs; close = c })) ≡ tasks_of l (map task_step xs)
seen_tasks l o xs c = ap stmt_of (sym (s.rolls-Tasks l _)) ∙ fold-roll-Stmt (Run made.Stmt) stmt_step (Stmt-F.Tasks l (record { «open» = o; item = xs; close = c }))

-- the items of a block, seen one by one
same_items : (h : BlockItem Stmt → BlockItem (Run made.Stmt)) → ((x : Mapping) → h (b.Mapping x) ≡ b.Mapping x) → ((x : Declaration) → h (b.Declaration x) ≡ b.Declaration x)
    → ((x : Stmt) → h (b.Stmt x) ≡ b.Stmt (stmt_of x)) → (xs : List (BlockItem Stmt)) → map h xs ≡ map inside_item xs
same_items h m d e [] = refl
same_items h m d e (b.Mapping x ∷ xs) = ap (λ v. v ∷ map h xs) (m x) ∙ ap (λ l. b.Mapping x ∷ l) (same_items h m d e xs)
same_items h m d e (b.Declaration x ∷ xs) = ap (λ v. v ∷ map h xs) (d x) ∙ ap (λ l. b.Declaration x ∷ l) (same_items h m d e xs)
same_items h m d e (b.Stmt x ∷ xs) = ap (λ v. v ∷ map h xs) (e x) ∙ ap (λ l. b.Stmt (stmt_of x) ∷ l) (same_items h m d e xs)

seen_items : (h : BlockItem Stmt → BlockItem (Run made.Stmt)) (v : Run made.Stmt) (xs : List (BlockItem Stmt)) → v ≡ block_of (map h xs)
    → ((x : Mapping) → h (b.Mapping x) ≡ b.Mapping x) → ((x : Declaration) → h (b.Declaration x) ≡ b.Declaration x) → ((x : Stmt) → h (b.Stmt x) ≡ b.Stmt (stmt_of x))
    → v ≡ block_of (map inside_item xs)
seen_items h v xs e m d q = e ∙ ap block_of (same_items h m d q xs)

pub seen_block : (o : Place) (xs : List (BlockItem Stmt)) (c : Place) → stmt_of (s.Block (record { «open» = o; item = xs; close = c })) ≡ block_of (map inside_item xs)
seen_block o xs c =
    seen_items _ _ xs (ap stmt_of (sym (s.rolls-Block _)) ∙ fold-roll-Stmt (Run made.Stmt) stmt_step (Stmt-F.Block (record { «open» = o; item = xs; close = c })))
    (λ x. refl) (λ x. refl) (λ x. refl)
