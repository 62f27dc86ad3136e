-- Whether a statement of a form with a list inside declares a coarray.
use Rattle.std.proofs.Common.{◌≡◌, ◌∙◌, refl, sym, ap, Bool, List, [], ◌∷◌, map}
use Rattle.std.specs.Prelude.{◌||◌}
use Rattle.std.specs.List.{list_any}
use Rattle.xmp_base.specs.declared.place.Place.{Place}
use Rattle.xmp_syntax.specs.declared.declaration.Declaration.{Declaration}
use Rattle.xmp_syntax.specs.declared.directive.DirectiveLine.{DirectiveLine}
use Rattle.xmp_syntax.specs.declared.directive.TaskLine.{TaskLine}
use Rattle.xmp_syntax.specs.declared.directive.Mapping.{Mapping}
use Rattle.xmp_syntax.specs.declared.statement.BlockItem.{BlockItem}
use Rattle.xmp_syntax.specs.declared.statement.BlockItem.TheVariants as b
use Rattle.xmp_syntax.specs.declared.statement.Stmt.{Stmt, fold-roll-Stmt}
use Rattle.xmp_syntax.specs.declared.statement.Stmt.TheOpen.{Stmt-F}
use Rattle.xmp_syntax.specs.declared.statement.Stmt.TheVariants as s
use Rattle.xmp_walk.specs.Program.{coarray_declaration, coarray_in, coarray_item, coarray_step, coarray_stmt}

-- the items of a block, one by one
any_items : (h : BlockItem Stmt → BlockItem Bool) → ((x : Mapping) → h (b.Mapping x) ≡ b.Mapping x) → ((x : Declaration) → h (b.Declaration x) ≡ b.Declaration x)
    → ((x : Stmt) → h (b.Stmt x) ≡ b.Stmt (coarray_stmt x)) → (xs : List (BlockItem Stmt)) → list_any coarray_item (map h xs) ≡ list_any coarray_in xs
any_items h m d e [] = refl
any_items h m d e (b.Mapping x ∷ xs) = ap (λ v. coarray_item v || list_any coarray_item (map h xs)) (m x) ∙ any_items h m d e xs
any_items h m d e (b.Declaration x ∷ xs) =
    ap (λ v. coarray_item v || list_any coarray_item (map h xs)) (d x) ∙ ap (λ r. coarray_declaration x || r) (any_items h m d e xs)
any_items h m d e (b.Stmt x ∷ xs) = ap (λ v. coarray_item v || list_any coarray_item (map h xs)) (e x) ∙ ap (λ r. coarray_stmt x || r) (any_items h m d e xs)

block_by : (h : BlockItem Stmt → BlockItem Bool) (v : Bool) (xs : List (BlockItem Stmt)) → v ≡ list_any coarray_item (map h xs)
    → ((x : Mapping) → h (b.Mapping x) ≡ b.Mapping x) → ((x : Declaration) → h (b.Declaration x) ≡ b.Declaration x) → ((x : Stmt) → h (b.Stmt x) ≡ b.Stmt (coarray_stmt x))
    → v ≡ list_any coarray_in xs
block_by h v xs e m d q = e ∙ any_items h m d q xs

pub block_has : (o : Place) (xs : List (BlockItem Stmt)) (c : Place) → coarray_stmt (s.Block (record { «open» = o; item = xs; close = c })) ≡ list_any coarray_in xs
block_has o xs c =
    block_by _ _ xs (ap coarray_stmt (sym (s.rolls-Block _)) ∙ fold-roll-Stmt Bool coarray_step (Stmt-F.Block (record { «open» = o; item = xs; close = c })))
    (λ x. refl) (λ x. refl) (λ x. refl)

abbrev task_has : TaskLine × Stmt → TaskLine × Bool
task_has x = (x.0, coarray_stmt x.1)

any_tasks : (xs : List (TaskLine × Stmt)) → list_any (λ x. x.1) (map task_has xs) ≡ list_any (λ x. coarray_stmt x.1) xs
any_tasks [] = refl
any_tasks (x ∷ xs) = ap (λ r. coarray_stmt x.1 || r) (any_tasks xs)

pub tasks_have : (l : DirectiveLine) (o : Place) (xs : List (TaskLine × Stmt)) (c : Place) →
    coarray_stmt (s.Tasks l (record { «open» = o; item = xs; close = c })) ≡ list_any (λ x. coarray_stmt x.1) xs
tasks_have l o xs c =
    ap coarray_stmt (sym (s.rolls-Tasks l _)) ∙ fold-roll-Stmt Bool coarray_step (Stmt-F.Tasks l (record { «open» = o; item = xs; close = c })) ∙ any_tasks xs
