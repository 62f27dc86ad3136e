-- What the view of a statement stands for is one value.
use Rattle.std.proofs.Common.{◌≡◌, List, [], ◌∷◌, map, refl, sym, ap, ◌∙◌, subst}
use Rattle.std.specs.Prelude.{Option, None, Some}
use Rattle.xmp_base.specs.declared.place.Place.{Place}
use Rattle.xmp_syntax.specs.declared.expression.Expr as made
use Rattle.xmp_syntax.specs.declared.declaration.Declaration.{Declaration}
use Rattle.xmp_syntax.specs.declared.directive.Mapping.{Mapping}
use Rattle.xmp_syntax.specs.declared.directive.TaskLine.{TaskLine}
use Rattle.xmp_syntax.specs.declared.statement.BlockItem.{BlockItem}
use Rattle.xmp_syntax.specs.declared.statement.BlockItem.TheVariants as b
use Rattle.xmp_syntax.specs.declared.statement.Stmt as made_stmt
use Rattle.xmp_syntax.specs.declared.statement.Stmt.TheFolds.{fold-roll-Stmt, ind-Stmt, map-Stmt}
use Rattle.xmp_syntax.specs.declared.statement.Stmt.TheViews.{roll-Stmt}
use Rattle.xmp_syntax.specs.declared.statement.Stmt.TheOpen.{Stmt-F}
use Rattle.xmp_syntax.specs.declared.statement.Stmt.TheVariants as s
use Rattle.xmp_syntax.specs.Trees.{Stmt, plain, block, if_then, if_else, while_do, for_do, loop, task, tasks, BlockItems, none, mapping, declaration, statement, Tasks, no_task, a_task}
use Rattle.xmp_syntax.specs.View.{stmt_step, stmt_view, items_of, items_view, tasks_of, task_view}
use Rattle.xmp_syntax.proofs.OneTokens.{more_is}

abbrev mutual
  pub back : Stmt → made_stmt.Stmt
  back (plain x) = s.Plain x
  back (block o xs c) = s.Block (record { «open» = o; item = back_items xs; close = c })
  back (if_then p e x) = s.If p e (back x) None
  back (if_else p e x q y) = s.If p e (back x) (Some (q, back y))
  back (while_do p e x) = s.While p e (back x)
  back (for_do h x) = s.For h (back x)
  back (loop l h x) = s.Loop l h (back x)
  back (task l x) = s.Task l (back x)
  back (tasks l o xs c) = s.Tasks l (record { «open» = o; item = back_tasks xs; close = c })

  pub back_items : BlockItems → List (BlockItem made_stmt.Stmt)
  back_items none = []
  back_items (mapping x xs) = b.Mapping x ∷ back_items xs
  back_items (declaration x xs) = b.Declaration x ∷ back_items xs
  back_items (statement x xs) = b.Stmt (back x) ∷ back_items xs

  pub back_tasks : Tasks → List (TaskLine × made_stmt.Stmt)
  back_tasks no_task = []
  back_tasks (a_task l x xs) = (l, back x) ∷ back_tasks xs

-- a value whose view stands for it
abbrev Back : made_stmt.Stmt → Type 0
Back x = back (stmt_view x) ≡ x

abbrev Known : Type 0
Known = (x : made_stmt.Stmt) × Back x

-- the items of a block, one by one
module _ (u : BlockItem Known → BlockItem made_stmt.Stmt) (h : BlockItem made_stmt.Stmt → BlockItem Stmt) (um : (x : Mapping) → u (b.Mapping x) ≡ b.Mapping x) (ud : (x : Declaration) → u (b.Declaration x) ≡ b.Declaration x)
    (us : (x : Known) → u (b.Stmt x) ≡ b.Stmt x.0) (hm : (x : Mapping) → h (b.Mapping x) ≡ b.Mapping x) (hd : (x : Declaration) → h (b.Declaration x) ≡ b.Declaration x)
    (hs : (x : made_stmt.Stmt) → h (b.Stmt x) ≡ b.Stmt (stmt_view x)) where
  items_known : (xs : List (BlockItem Known)) → back_items (items_of (map h (map u xs))) ≡ map u xs
  items_known [] = refl
  items_known (b.Mapping x ∷ xs) =
      ap (λ v. back_items (items_of (v ∷ map h (map u xs)))) (ap h (um x) ∙ hm x) ∙ more_is (sym (um x)) (items_known xs)
  items_known (b.Declaration x ∷ xs) =
      ap (λ v. back_items (items_of (v ∷ map h (map u xs)))) (ap h (ud x) ∙ hd x) ∙ more_is (sym (ud x)) (items_known xs)
  items_known (b.Stmt x ∷ xs) =
      ap (λ v. back_items (items_of (v ∷ map h (map u xs)))) (ap h (us x) ∙ hs x.0) ∙ more_is (ap b.Stmt x.1 ∙ sym (us x)) (items_known xs)

block_known : (u : BlockItem Known → BlockItem made_stmt.Stmt) (h : BlockItem made_stmt.Stmt → BlockItem Stmt) (o c : Place) (xs : List (BlockItem Known)) (v w : made_stmt.Stmt)
    → v ≡ s.Block (record { «open» = o; item = back_items (items_of (map h (map u xs))); close = c }) → s.Block (record { «open» = o; item = map u xs; close = c }) ≡ w
    → ((x : Mapping) → u (b.Mapping x) ≡ b.Mapping x) → ((x : Declaration) → u (b.Declaration x) ≡ b.Declaration x) → ((x : Known) → u (b.Stmt x) ≡ b.Stmt x.0)
    → ((x : Mapping) → h (b.Mapping x) ≡ b.Mapping x) → ((x : Declaration) → h (b.Declaration x) ≡ b.Declaration x) → ((x : made_stmt.Stmt) → h (b.Stmt x) ≡ b.Stmt (stmt_view x)) → v ≡ w
block_known u h o c xs v w e f um ud us hm hd hs =
    let g : List (BlockItem made_stmt.Stmt) → made_stmt.Stmt = λ z. s.Block (record { «open» = o; item = z; close = c }) in e ∙ ap g (items_known u h um ud us hm hd hs xs) ∙ f

abbrev task_part : TaskLine × Known → TaskLine × made_stmt.Stmt
task_part (l, x) = (l, x.0)

tasks_known : (xs : List (TaskLine × Known)) → back_tasks (tasks_of (map task_view (map task_part xs))) ≡ map task_part xs
tasks_known [] = refl
tasks_known ((l, x) ∷ xs) = let f : made_stmt.Stmt → TaskLine × made_stmt.Stmt = λ v. (l, v) in more_is (ap f x.1) (tasks_known xs)

step : (y : Stmt-F Known) → back (stmt_step (map-Stmt made_stmt.Stmt Stmt stmt_view (map-Stmt Known made_stmt.Stmt (λ z. z.0) y))) ≡ roll-Stmt (map-Stmt Known made_stmt.Stmt (λ z. z.0) y)
step (Stmt-F.Plain x) = sym (s.rolls-Plain x)
step (Stmt-F.Block x) = block_known _ _ _ _ x.item _ _ refl (sym (s.rolls-Block _)) (λ x. refl) (λ x. refl) (λ x. refl) (λ x. refl) (λ x. refl) (λ x. refl)
step (Stmt-F.If p e x None) = ap (λ v. s.If p e v None) x.1 ∙ sym (s.rolls-If p e x.0 None)
step (Stmt-F.If p e x (Some (q, z))) =
    ap (λ v. s.If p e v (Some (q, back (stmt_view z.0)))) x.1 ∙ ap (λ v. s.If p e x.0 (Some (q, v))) z.1 ∙ sym (s.rolls-If p e x.0 (Some (q, z.0)))
step (Stmt-F.While p e x) = ap (λ v. s.While p e v) x.1 ∙ sym (s.rolls-While p e x.0)
step (Stmt-F.For h x) = ap (λ v. s.For h v) x.1 ∙ sym (s.rolls-For h x.0)
step (Stmt-F.Loop l h x) = ap (λ v. s.Loop l h v) x.1 ∙ sym (s.rolls-Loop l h x.0)
step (Stmt-F.Task l x) = ap (λ v. s.Task l v) x.1 ∙ sym (s.rolls-Task l x.0)
step (Stmt-F.Tasks l x) =
    let g : List (TaskLine × made_stmt.Stmt) → made_stmt.Stmt = λ z. s.Tasks l (record { «open» = x.open; item = z; close = x.close }) in ap g (tasks_known x.item) ∙ sym (s.rolls-Tasks l _)

-- the view of a statement stands for it alone
pub back_view : (x : made_stmt.Stmt) → Back x
back_view = ind-Stmt Back (λ x y h. subst (λ z. Back (roll-Stmt z)) h (ap back (fold-roll-Stmt Stmt stmt_step (map-Stmt Known made_stmt.Stmt (λ z. z.0) y)) ∙ step y))

items_seen : (xs : List (BlockItem made_stmt.Stmt)) → back_items (items_view xs) ≡ xs
items_seen [] = refl
items_seen (b.Mapping x ∷ xs) = more_is refl (items_seen xs)
items_seen (b.Declaration x ∷ xs) = more_is refl (items_seen xs)
items_seen (b.Stmt x ∷ xs) = more_is (ap b.Stmt (back_view x)) (items_seen xs)

pub items_is : (xs ys : List (BlockItem made_stmt.Stmt)) → items_view xs ≡ items_view ys → xs ≡ ys
items_is xs ys h = sym (items_seen xs) ∙ ap back_items h ∙ items_seen ys
