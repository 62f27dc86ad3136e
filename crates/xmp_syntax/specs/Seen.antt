-- What each value of an expression and of a statement stands for.
use Rattle.std.proofs.Common.{◌≡◌, ℕ, List, [], ◌∷◌, map, refl, sym, ap, ◌∙◌}
use Rattle.std.specs.Prelude.{ℤ, Option, None, Some}
use Rattle.xmp_base.specs.declared.place.Place.{Place}
use Rattle.xmp_num.specs.declared.types.Ty.{Ty}
use Rattle.xmp_lex.specs.declared.token.Mark.{Mark}
use Rattle.xmp_syntax.specs.declared.parts.CommaList.{CommaList}
use Rattle.xmp_syntax.specs.declared.parts.Placed.{Placed}
use Rattle.xmp_syntax.specs.declared.parts.Inside.{Inside}
use Rattle.xmp_syntax.specs.declared.parts.Reference.{Reference}
use Rattle.xmp_syntax.specs.declared.parts.Call.{Call}
use Rattle.xmp_syntax.specs.declared.parts.Link.{Link}
use Rattle.xmp_syntax.specs.declared.parts.Name.{Name}
use Rattle.xmp_syntax.specs.declared.parts.Image as made_image
use Rattle.xmp_syntax.specs.declared.expression.Expr as made
use Rattle.xmp_syntax.specs.declared.expression.Expr.{fold-Expr, fold-roll-Expr}
use Rattle.xmp_syntax.specs.declared.expression.Expr.TheOpen.{Expr-F}
use Rattle.xmp_syntax.specs.declared.expression.Expr.TheVariants as e
use Rattle.xmp_syntax.specs.declared.directive.DirectiveLine.{DirectiveLine}
use Rattle.xmp_syntax.specs.declared.directive.LoopLine.{LoopLine}
use Rattle.xmp_syntax.specs.declared.directive.TaskLine.{TaskLine}
use Rattle.xmp_syntax.specs.declared.statement.ForHead.{ForHead}
use Rattle.xmp_syntax.specs.declared.statement.Plain.{Plain}
use Rattle.xmp_syntax.specs.declared.directive.Mapping.{Mapping}
use Rattle.xmp_syntax.specs.declared.declaration.Declaration.{Declaration}
use Rattle.xmp_syntax.specs.declared.statement.BlockItem.{BlockItem}
use Rattle.xmp_syntax.specs.declared.statement.BlockItem.TheVariants as b
use Rattle.xmp_syntax.specs.declared.statement.Stmt as made_stmt
use Rattle.xmp_syntax.specs.declared.statement.Stmt.{fold-Stmt, fold-roll-Stmt}
use Rattle.xmp_syntax.specs.declared.statement.Stmt.TheOpen.{Stmt-F}
use Rattle.xmp_syntax.specs.declared.statement.Stmt.TheVariants as s
use Rattle.xmp_syntax.specs.Trees.{Expr, number, read, parens, unary, cast, chain, conditional, Stmt, plain, block, if_then, if_else, while_do, for_do, loop, task, tasks}
use Rattle.xmp_syntax.specs.View.{expr_step, expr_view, ref_view, call_view, links_view, stmt_step, stmt_view, items_of, item_view, items_view, tasks_view}

pub seen_number : (p : Place) (n : ℤ) (ty : Ty) → expr_view (e.Number p n ty) ≡ number p n ty
seen_number p n ty = ap expr_view (sym (e.rolls-Number p n ty)) ∙ fold-roll-Expr Expr expr_step (Expr-F.Number p n ty)

pub seen_parens : (x : Inside made.Expr) → expr_view (e.Parens x) ≡ parens x.open (expr_view x.item) x.close
seen_parens x = ap expr_view (sym (e.rolls-Parens x)) ∙ fold-roll-Expr Expr expr_step (Expr-F.Parens x)

pub seen_unary : (op : Placed Mark) (x : made.Expr) → expr_view (e.Unary op x) ≡ unary op.what op.at (expr_view x)
seen_unary op x = ap expr_view (sym (e.rolls-Unary op x)) ∙ fold-roll-Expr Expr expr_step (Expr-F.Unary op x)

pub seen_cast : (ty : Inside (Placed Ty)) (x : made.Expr) → expr_view (e.Cast ty x) ≡ cast ty.open ty.item.what ty.item.at ty.close (expr_view x)
seen_cast ty x = ap expr_view (sym (e.rolls-Cast ty x)) ∙ fold-roll-Expr Expr expr_step (Expr-F.Cast ty x)

pub seen_chain : (x : made.Expr) (xs : List (Link made.Expr)) → expr_view (e.Chain x xs) ≡ chain (expr_view x) (links_view xs)
seen_chain x xs = ap expr_view (sym (e.rolls-Chain x xs)) ∙ fold-roll-Expr Expr expr_step (Expr-F.Chain x xs)

pub seen_conditional : (x : made.Expr) (p : Place) (y : made.Expr) (q : Place) (z : made.Expr) → expr_view (e.Conditional x p y q z) ≡ conditional (expr_view x) p (expr_view y) q (expr_view z)
seen_conditional x p y q z = ap expr_view (sym (e.rolls-Conditional x p y q z)) ∙ fold-roll-Expr Expr expr_step (Expr-F.Conditional x p y q z)

pub seen_read : (n : Name) (ds : List (Inside made.Expr)) (i : Option (made_image.Image made.Expr)) → expr_view (e.Read (record { name = n; subscripts = ds; image = i })) ≡ read (ref_view (record { name = n; subscripts = ds; image = i }))
seen_read n ds None = ap expr_view (sym (e.rolls-Read _)) ∙ fold-roll-Expr Expr expr_step (Expr-F.Read (record { name = n; subscripts = ds; image = None }))
seen_read n ds (Some i) = ap expr_view (sym (e.rolls-Read _)) ∙ fold-roll-Expr Expr expr_step (Expr-F.Read (record { name = n; subscripts = ds; image = Some i }))

pub seen_call : (n : Name) (o : Place) (xs : Option (CommaList made.Expr)) (c : Place)
    → expr_view (e.Call (record { name = n; arguments = record { «open» = o; item = xs; close = c } })) ≡ call_view (record { name = n; arguments = record { «open» = o; item = xs; close = c } })
seen_call n o None c = ap expr_view (sym (e.rolls-Call _)) ∙ fold-roll-Expr Expr expr_step (Expr-F.Call (record { name = n; arguments = record { «open» = o; item = None; close = c } }))
seen_call n o (Some x) c = ap expr_view (sym (e.rolls-Call _)) ∙ fold-roll-Expr Expr expr_step (Expr-F.Call (record { name = n; arguments = record { «open» = o; item = Some x; close = c } }))

pub seen_plain : (x : Plain) → stmt_view (s.Plain x) ≡ plain x
seen_plain x = ap stmt_view (sym (s.rolls-Plain x)) ∙ fold-roll-Stmt Stmt stmt_step (Stmt-F.Plain x)

pub seen_if : (p : Place) (x : Inside made.Expr) (y : made_stmt.Stmt) → stmt_view (s.If p x y None) ≡ if_then p x (stmt_view y)
seen_if p x y = ap stmt_view (sym (s.rolls-If p x y None)) ∙ fold-roll-Stmt Stmt stmt_step (Stmt-F.If p x y None)

pub seen_else : (p : Place) (x : Inside made.Expr) (y : made_stmt.Stmt) (q : Place) (z : made_stmt.Stmt) → stmt_view (s.If p x y (Some (q, z))) ≡ if_else p x (stmt_view y) q (stmt_view z)
seen_else p x y q z = ap stmt_view (sym (s.rolls-If p x y (Some (q, z)))) ∙ fold-roll-Stmt Stmt stmt_step (Stmt-F.If p x y (Some (q, z)))

pub seen_while : (p : Place) (x : Inside made.Expr) (y : made_stmt.Stmt) → stmt_view (s.While p x y) ≡ while_do p x (stmt_view y)
seen_while p x y = ap stmt_view (sym (s.rolls-While p x y)) ∙ fold-roll-Stmt Stmt stmt_step (Stmt-F.While p x y)

pub seen_for : (h : ForHead) (y : made_stmt.Stmt) → stmt_view (s.For h y) ≡ for_do h (stmt_view y)
seen_for h y = ap stmt_view (sym (s.rolls-For h y)) ∙ fold-roll-Stmt Stmt stmt_step (Stmt-F.For h y)

pub seen_loop : (l : LoopLine) (h : ForHead) (y : made_stmt.Stmt) → stmt_view (s.Loop l h y) ≡ loop l h (stmt_view y)
seen_loop l h y = ap stmt_view (sym (s.rolls-Loop l h y)) ∙ fold-roll-Stmt Stmt stmt_step (Stmt-F.Loop l h y)

pub seen_task : (l : TaskLine) (y : made_stmt.Stmt) → stmt_view (s.Task l y) ≡ task l (stmt_view y)
seen_task l y = ap stmt_view (sym (s.rolls-Task l y)) ∙ fold-roll-Stmt Stmt stmt_step (Stmt-F.Task l y)

pub seen_tasks : (l : DirectiveLine) (o : Place) (xs : List (TaskLine × made_stmt.Stmt)) (c : Place) → stmt_view (s.Tasks l (record { «open» = o; item = xs; close = c })) ≡ tasks l o (tasks_view xs) c
seen_tasks l o xs c = ap stmt_view (sym (s.rolls-Tasks l _)) ∙ fold-roll-Stmt Stmt stmt_step (Stmt-F.Tasks l (record { «open» = o; item = xs; close = c }))

-- the items of a block, seen one by one
same_items : (h : BlockItem made_stmt.Stmt → BlockItem Stmt) → ((x : Mapping) → h (b.Mapping x) ≡ b.Mapping x) → ((x : Declaration) → h (b.Declaration x) ≡ b.Declaration x)
    → ((x : made_stmt.Stmt) → h (b.Stmt x) ≡ b.Stmt (stmt_view x)) → (xs : List (BlockItem made_stmt.Stmt)) → map h xs ≡ map item_view xs
same_items h m d s [] = refl
same_items h m d s (b.Mapping x ∷ xs) = ap (λ v. v ∷ map h xs) (m x) ∙ ap (λ l. b.Mapping x ∷ l) (same_items h m d s xs)
same_items h m d s (b.Declaration x ∷ xs) = ap (λ v. v ∷ map h xs) (d x) ∙ ap (λ l. b.Declaration x ∷ l) (same_items h m d s xs)
same_items h m d s (b.Stmt x ∷ xs) = ap (λ v. v ∷ map h xs) (s x) ∙ ap (λ l. b.Stmt (stmt_view x) ∷ l) (same_items h m d s xs)

seen_items : (h : BlockItem made_stmt.Stmt → BlockItem Stmt) (v : Stmt) (o : Place) (xs : List (BlockItem made_stmt.Stmt)) (c : Place) → v ≡ block o (items_of (map h xs)) c
    → ((x : Mapping) → h (b.Mapping x) ≡ b.Mapping x) → ((x : Declaration) → h (b.Declaration x) ≡ b.Declaration x) → ((x : made_stmt.Stmt) → h (b.Stmt x) ≡ b.Stmt (stmt_view x))
    → v ≡ block o (items_view xs) c
seen_items h v o xs c e m d s = e ∙ ap (λ l. block o (items_of l) c) (same_items h m d s xs)

pub seen_block : (o : Place) (xs : List (BlockItem made_stmt.Stmt)) (c : Place) → stmt_view (s.Block (record { «open» = o; item = xs; close = c })) ≡ block o (items_view xs) c
seen_block o xs c =
    seen_items _ _ o xs c (ap stmt_view (sym (s.rolls-Block _)) ∙ fold-roll-Stmt Stmt stmt_step (Stmt-F.Block (record { «open» = o; item = xs; close = c })))
    (λ x. refl) (λ x. refl) (λ x. refl)
