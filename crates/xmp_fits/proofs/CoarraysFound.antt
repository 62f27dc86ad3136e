-- The functions of a program and the whole of it: its walk finds a coarray where its text declares one.
use Rattle.std.proofs.Common.{◌≡◌, ◌∙◌, sym, ap, refl, ◌++◌, ◌∷◌, [], ℕ, Bool, true, false, List, Option, map}
use Rattle.std.specs.Prelude.{⊤, ◌||◌}
use Rattle.std.specs.List.{list_any}
use Rattle.xmp_base.specs.declared.place.Place.{Place}
use Rattle.xmp_prog.specs.declared.statements.Stmt as made
use Rattle.xmp_prog.specs.declared.statements.Stmt.TheVariants as m
use Rattle.xmp_syntax.specs.declared.parts.Name as named
use Rattle.xmp_syntax.specs.declared.parts.TypeWords.{TypeWords}
use Rattle.xmp_syntax.specs.declared.expression.Expr.{Expr}
use Rattle.xmp_syntax.specs.declared.program.Function.{Function}
use Rattle.xmp_syntax.specs.declared.program.TopItem.{TopItem}
use Rattle.xmp_syntax.specs.declared.program.TopItem.TheVariants as top
use Rattle.xmp_syntax.specs.declared.program.Tree.{Tree}
use Rattle.xmp_syntax.specs.declared.statement.Plain.TheVariants as plain
use Rattle.xmp_syntax.specs.declared.statement.BlockItem.{BlockItem}
use Rattle.xmp_syntax.specs.declared.statement.BlockItem.TheVariants as b
use Rattle.xmp_syntax.specs.declared.statement.Stmt.{Stmt, fold-roll-Stmt, out-Stmt}
use Rattle.xmp_syntax.specs.declared.statement.Stmt.TheOpen.{Stmt-F}
use Rattle.xmp_syntax.specs.declared.statement.Stmt.TheViews.{roll-Stmt, roll-out-Stmt}
use Rattle.xmp_names.specs.declared.names.Region.{Region}
use Rattle.xmp_names.specs.declared.names.Region.TheVariants as region
use Rattle.xmp_names.specs.declared.rules.Rule.TheVariants.{N7}
use Rattle.xmp_names.specs.declared.world.World.{World}
use Rattle.xmp_names.specs.Walk as walk
use Rattle.xmp_names.specs.Walk.{Step, Gave, Run}
use Rattle.xmp_walk.specs.Declarations.{file_declaration, type_of}
use Rattle.xmp_names.specs.Lists.{listed}
use Rattle.xmp_directives.specs.MappingLines.{mapping_of}
use Rattle.xmp_walk.specs.Program.{coarray_in, coarray_step, coarray_stmt, coarray_top, function_of, head_of, inside_item, is_main_head, item_of, items_of, keep_function, last_in, last_item, last_top, leave, main_items, main_of, parameter_of, parameters_in, program_of, start_world, top_of, tops_of, with_count}
use Rattle.xmp_walk.specs.Statements.{return_of}
use Rattle.xmp_fits.proofs.CoarraysDeclared.{Adds, Declares, before_quiet, behind_quiet, body_declares, all_declare, declares_as, images, item_declares, quiet_run, stmt_declares, then_declares, or_false, still}
use Rattle.xmp_fits.proofs.Endings.{ends_at}
use Rattle.xmp_fits.proofs.QuietRuns.{Kept, quiet, quiet_scalars}
use Rattle.xmp_fits.proofs.Respected.{Ends, ◌>>=◌, pure}
use Rattle.xmp_fits.proofs.RespectedSteps as quiet_steps
use Rattle.xmp_fits.proofs.Respected as quiet_runs
use Rattle.xmp_fits.proofs.RespectedMappings as quiet_mappings
use Rattle.xmp_fits.proofs.RespectedDirectives as quiet

-- ---- functions

head_quiet : (r : Region) (f : Function) → Kept (head_of r f)
head_quiet r f = record { at = λ w. record { arrays = refl; coarray = refl } }

parameters_quiet : (ps : List (TypeWords × named.Name)) → Kept (walk.each parameter_of ps)
parameters_quiet ps = (quiet_runs.each quiet (λ x. quiet_steps.declare_scalar quiet quiet_scalars x.1 (type_of x.0)) ps).kept

-- What a function does behind its body.
abbrev ends_function : Function → ℕ → List ℕ → List made.Stmt → Run ⊤
ends_function f k slots body = walk.◌>>=◌ walk.close_scope (λ _. walk.◌>>=◌ (leave k) (λ _. keep_function (record { result = type_of f.ty; parameters = slots; body = m.Block body })))

function_declares : (f : Function) → Declares (function_of f) (list_any coarray_in f.body.item)
function_declares f =
    behind_quiet (head_of region.Function f) _ (list_any coarray_in f.body.item) (head_quiet region.Function f) (λ k.
    behind_quiet (walk.each parameter_of (parameters_in f.parameters.item)) _ (list_any coarray_in f.body.item) (parameters_quiet (parameters_in f.parameters.item)) (λ slots.
    before_quiet (items_of [] (map inside_item f.body.item)) (ends_function f k slots) (list_any coarray_in f.body.item) (body_declares f.body.item) (λ body. record { at = λ w. record { arrays = refl; coarray = refl } })))

-- ---- main

-- A `return` declares nothing.
return_declares : (x : Stmt) (at end : Place) (value : Expr) → out-Stmt x ≡ Stmt-F.Plain (plain.Return at value end) → Declares (return_of true at value) (coarray_stmt x)
return_declares x at end value e =
    declares_as (return_of true at value) false (coarray_stmt x)
    (sym (ap coarray_stmt (sym (roll-out-Stmt x) ∙ ap roll-Stmt e) ∙ fold-roll-Stmt Bool coarray_step (Stmt-F.Plain (plain.Return at value end))))
    (quiet_run (return_of true at value) (quiet.return_kept quiet true at value))

last_declares : (x : Stmt) (o : Stmt-F Stmt) → out-Stmt x ≡ o → Declares (last_in x o) (coarray_stmt x)
last_declares x (Stmt-F.Plain (plain.Return at value end)) e = return_declares x at end value e
last_declares x (Stmt-F.Plain (plain.Empty at)) e = stmt_declares x
last_declares x (Stmt-F.Plain (plain.Simple y at)) e = stmt_declares x
last_declares x (Stmt-F.Plain (plain.Print at y end)) e = stmt_declares x
last_declares x (Stmt-F.Plain (plain.Scan at y end)) e = stmt_declares x
last_declares x (Stmt-F.Plain (plain.Sync at y end)) e = stmt_declares x
last_declares x (Stmt-F.Plain (plain.Reflect line names)) e = stmt_declares x
last_declares x (Stmt-F.Plain (plain.Barrier line)) e = stmt_declares x
last_declares x (Stmt-F.Plain (plain.Bcast line names from_at set)) e = stmt_declares x
last_declares x (Stmt-F.Plain (plain.Gmove line target equals source end)) e = stmt_declares x
last_declares x (Stmt-F.Block y) e = stmt_declares x
last_declares x (Stmt-F.If at y z u) e = stmt_declares x
last_declares x (Stmt-F.While at y z) e = stmt_declares x
last_declares x (Stmt-F.For h y) e = stmt_declares x
last_declares x (Stmt-F.Loop l h y) e = stmt_declares x
last_declares x (Stmt-F.Task l y) e = stmt_declares x
last_declares x (Stmt-F.Tasks l ys) e = stmt_declares x

last_item_declares : (done : List made.Stmt) (x : BlockItem Stmt) → Declares (item_of done (last_item x)) (coarray_in x)
last_item_declares done (b.Mapping x) = item_declares done (b.Mapping x) tt
last_item_declares done (b.Declaration d) = item_declares done (b.Declaration d) tt
last_item_declares done (b.Stmt x) = before_quiet (last_in x (out-Stmt x)) (λ one. walk.pure (done ++ one ∷ [])) (coarray_stmt x) (last_declares x (out-Stmt x) refl) (λ one. still (done ++ one ∷ []))

item_there : (done : List made.Stmt) (x : BlockItem Stmt) → Declares (item_of done (inside_item x)) (coarray_in x)
item_there done (b.Mapping x) = item_declares done (b.Mapping x) tt
item_there done (b.Declaration d) = item_declares done (b.Declaration d) tt
item_there done (b.Stmt x) = item_declares done (b.Stmt x) (stmt_declares x)

main_declare : (done : List made.Stmt) (xs : List (BlockItem Stmt)) → Declares (items_of done (main_items xs)) (list_any coarray_in xs)
main_declare done [] = quiet_run (items_of done []) (still done)
main_declare done (x ∷ []) = then_declares (item_of done (last_item x)) (λ so_far. items_of so_far []) (coarray_in x) false (last_item_declares done x) (λ so_far. quiet_run (items_of so_far []) (still so_far))
main_declare done (x ∷ y ∷ ys) =
    then_declares (item_of done (inside_item x)) (λ so_far. items_of so_far (main_items (y ∷ ys))) (coarray_in x) (list_any coarray_in (y ∷ ys)) (item_there done x) (λ so_far. main_declare so_far (y ∷ ys))

abbrev ends_main : ℕ → List made.Stmt → Run made.Stmt
ends_main k body = walk.◌>>=◌ walk.close_scope (λ _. walk.◌>>=◌ (leave k) (λ _. walk.pure (m.Block body)))

main_declares : (f : Function) → Declares (main_of f) (list_any coarray_in f.body.item)
main_declares f =
    behind_quiet (head_of region.Main f) _ (list_any coarray_in f.body.item) (head_quiet region.Main f) (λ k.
    behind_quiet (walk.judge (is_main_head f) N7 f.name.at) _ (list_any coarray_in f.body.item) (quiet_steps.judge quiet (is_main_head f) N7 f.name.at).kept (λ _.
    behind_quiet (walk.each parameter_of (parameters_in f.parameters.item)) _ (list_any coarray_in f.body.item) (parameters_quiet (parameters_in f.parameters.item)) (λ slots.
    before_quiet (items_of [] (main_items f.body.item)) (ends_main k) (list_any coarray_in f.body.item) (main_declare [] f.body.item) (λ body. record { at = λ w. record { arrays = refl; coarray = refl } }))))

-- ---- the program

top_declares : (x : TopItem) → Declares (top_of x) (coarray_top x)
top_declares (top.Mapping x) = quiet_run (mapping_of x) (quiet_mappings.mapping_kept quiet x)
top_declares (top.Declaration d) = all_declare (type_of d.ty) (listed d.items)
top_declares (top.Function f) = function_declares f

last_top_declares : (x : TopItem) → Declares (last_top x) (coarray_top x)
last_top_declares (top.Mapping x) = before_quiet (mapping_of x) (λ _. walk.pure (m.Block [])) false (top_declares (top.Mapping x)) (λ _. still (m.Block []))
last_top_declares (top.Declaration d) = before_quiet (file_declaration d) (λ _. walk.pure (m.Block [])) (coarray_top (top.Declaration d)) (top_declares (top.Declaration d)) (λ _. still (m.Block []))
last_top_declares (top.Function f) = main_declares f

tops_declare : (xs : List TopItem) → Declares (tops_of xs) (list_any coarray_top xs)
tops_declare [] = quiet_run (tops_of []) (still (m.Block []))
tops_declare (x ∷ []) = declares_as (last_top x) (coarray_top x) (coarray_top x || false) (or_false (coarray_top x)) (last_top_declares x)
tops_declare (x ∷ y ∷ ys) = then_declares (top_of x) (λ _. tops_of (y ∷ ys)) (coarray_top x) (list_any coarray_top (y ∷ ys)) (top_declares x) (λ _. tops_declare (y ∷ ys))

counted_adds : (given : Option ℕ) (c : Bool) (w : World) (t : Step made.Stmt) → Ends (λ a v. Adds w v c) t → Ends (λ a v. Adds w v c) (with_count given t)
counted_adds given c w (Gave a v) h = record { images = h.images; coarray = h.coarray }

-- The kind of a program is whether an array of it is a coarray.
pub coarray_known : (t : Tree) (given : Option ℕ) (whole : made.Stmt) (v : World) → program_of t given ≡ Gave whole v → v.names.coarray ≡ images v
coarray_known t given whole v e =
    let c : Bool = list_any coarray_top t.parts in
    let w : World = start_world given c in
    let a : Adds w v c = ends_at (λ a v. Adds w v c) (program_of t given) whole v (counted_adds given c w (tops_of t.parts w) ((tops_declare t.parts).at w)) e in
    a.coarray ∙ sym a.images
