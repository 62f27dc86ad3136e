-- The walk over statements, functions and the whole program.
use Rattle.std.specs.Prelude.{⊤, ◌++◌, ◌∷◌, [], ℕ, List, Bool, true, false, ◌&&◌, ◌||◌, Option, Some, None, is_some, length, map, codes, slice_get, slice_set}
use Rattle.std.specs.List.{list_any}
use Rattle.xmp_base.specs.declared.place.Place.{Place}
use Rattle.xmp_prog.specs.declared.statements.Stmt as made
use Rattle.xmp_prog.specs.declared.statements.Stmt.TheVariants as s
use Rattle.xmp_prog.specs.declared.parts.Function as made_function
use Rattle.xmp_syntax.specs.declared.parts.Name as named
use Rattle.xmp_syntax.specs.declared.parts.TypeWords.{TypeWords}
use Rattle.xmp_syntax.specs.declared.parts.TypeWords.TheVariants as words
use Rattle.xmp_syntax.specs.declared.declaration.Declarator.{Declarator}
use Rattle.xmp_syntax.specs.declared.declaration.Declarator.TheVariants as declarator
use Rattle.xmp_syntax.specs.declared.declaration.Declaration.{Declaration}
use Rattle.xmp_syntax.specs.declared.directive.TaskLine.{TaskLine}
use Rattle.xmp_syntax.specs.declared.directive.LoopLine.{LoopLine}
use Rattle.xmp_syntax.specs.declared.statement.ForHead.{ForHead}
use Rattle.xmp_syntax.specs.declared.statement.Plain.{Plain}
use Rattle.xmp_syntax.specs.declared.statement.Plain.TheVariants as plain
use Rattle.xmp_syntax.specs.declared.statement.BlockItem.{BlockItem}
use Rattle.xmp_syntax.specs.declared.statement.BlockItem.TheVariants as item
use Rattle.xmp_syntax.specs.declared.statement.Stmt.{Stmt, fold-Stmt, out-Stmt}
use Rattle.xmp_syntax.specs.declared.statement.Stmt.TheOpen.{Stmt-F}
use Rattle.xmp_syntax.specs.declared.program.Parameters.{Parameters}
use Rattle.xmp_syntax.specs.declared.program.Parameters.TheVariants as parameters
use Rattle.xmp_syntax.specs.declared.program.Function.{Function}
use Rattle.xmp_syntax.specs.declared.program.TopItem.{TopItem}
use Rattle.xmp_syntax.specs.declared.program.TopItem.TheVariants as top
use Rattle.xmp_syntax.specs.declared.program.Tree.{Tree}
use Rattle.xmp_scopes.specs.Names as scope
use Rattle.xmp_names.specs.declared.names.Region.{Region}
use Rattle.xmp_names.specs.declared.names.Region.TheVariants as region
use Rattle.xmp_names.specs.declared.names.Meaning.TheVariants as meaning
use Rattle.xmp_names.specs.declared.names.Signature.{Signature}
use Rattle.xmp_names.specs.declared.names.Environment.{Environment}
use Rattle.xmp_names.specs.declared.mappings.Mappings.{Mappings}
use Rattle.xmp_names.specs.declared.rules.Rule.TheVariants.{N7}
use Rattle.xmp_names.specs.declared.world.World.{World}
use Rattle.xmp_names.specs.Rules.{deeper}
use Rattle.xmp_names.specs.Walk.{Step, Gave, Run, ◌>>=◌, pure, each, judge, open_scope, close_scope, declare, declare_scalar}
use Rattle.xmp_names.specs.Lists.{listed}
use Rattle.xmp_walk.specs.Declarations.{type_of, local_declaration, file_declaration}
use Rattle.xmp_walk.specs.Statements.{simple_of, return_of, print_of, scan_of, sync_of, if_of, while_of, for_of}
use Rattle.xmp_directives.specs.Directives.{loop_line, judged_loop, nest_of, lone_task, tasks_of, reflect_of, barrier_of, bcast_of, gmove_of}
use Rattle.xmp_directives.specs.MappingLines.{mapping_of}

-- ---- statements

-- A statement with no statement inside. A `return` of main is judged as one that isn't its last statement.
abbrev pub plain_of : Plain → Run made.Stmt
plain_of (plain.Empty at) = pure (s.Block [])
plain_of (plain.Simple x at) = simple_of x
plain_of (plain.Return at x end) = return_of false at x
plain_of (plain.Print at x end) = print_of at x.item.0 x.item.1
plain_of (plain.Scan at x end) = scan_of at x.item.0 x.item.3
plain_of (plain.Sync at x end) = sync_of at x.item.1
plain_of (plain.Reflect line names) = reflect_of line names.item
plain_of (plain.Barrier line) = barrier_of line
plain_of (plain.Bcast line names from_at set) = bcast_of line names.item set
plain_of (plain.Gmove line target equals source end) = gmove_of line target source

-- A loop directive over the `for` under it (XcalableMP 1.4, section 4.4.3).
abbrev pub loop_directive : LoopLine → ForHead → Run made.Stmt → Run made.Stmt
loop_directive line h body = do
  parts ← loop_line line
  loop ← for_of h body
  judged_loop line.line.word parts (nest_of (length parts.names) loop)

-- What stands in a block, after the statements before it: a mapping becomes nothing.
abbrev pub item_of : List made.Stmt → BlockItem (Run made.Stmt) → Run (List made.Stmt)
item_of done (item.Mapping x) = do
  _ ← mapping_of x
  pure done
item_of done (item.Declaration d) = local_declaration done d
item_of done (item.Stmt body) = do
  one ← body
  pure (done ++ one ∷ [])

abbrev pub items_of : List made.Stmt → List (BlockItem (Run made.Stmt)) → Run (List made.Stmt)
items_of done [] = pure done
items_of done (x ∷ xs) = do
  so_far ← item_of done x
  items_of so_far xs

abbrev pub block_of : List (BlockItem (Run made.Stmt)) → Run made.Stmt
block_of xs = do
  _ ← open_scope
  made ← items_of [] xs
  _ ← close_scope
  pure (s.Block made)

-- One level, with what the statements inside become.
abbrev pub stmt_step : Stmt-F (Run made.Stmt) → Run made.Stmt
stmt_step (Stmt-F.Plain x) = plain_of x
stmt_step (Stmt-F.Block x) = block_of x.item
stmt_step (Stmt-F.If at x a b) = if_of x.item a b
stmt_step (Stmt-F.While at x body) = while_of at x.item body
stmt_step (Stmt-F.For h body) = for_of h body
stmt_step (Stmt-F.Loop line h body) = loop_directive line h body
stmt_step (Stmt-F.Task line body) = lone_task line body
stmt_step (Stmt-F.Tasks line xs) = tasks_of line xs.item

abbrev pub stmt_of : Stmt → Run made.Stmt
stmt_of = fold-Stmt (Run made.Stmt) stmt_step

-- The same of parts with statements in them.
abbrev pub inside_item : BlockItem Stmt → BlockItem (Run made.Stmt)
inside_item (item.Mapping x) = item.Mapping x
inside_item (item.Declaration d) = item.Declaration d
inside_item (item.Stmt x) = item.Stmt (stmt_of x)

abbrev pub else_step : Place × Stmt → Place × Run made.Stmt
else_step x = (x.0, stmt_of x.1)

abbrev pub task_step : TaskLine × Stmt → TaskLine × Run made.Stmt
task_step x = (x.0, stmt_of x.1)

-- ---- functions

-- The parameters of a function.
abbrev pub parameters_in : Option Parameters → List (TypeWords × named.Name)
parameters_in None = []
parameters_in (Some (parameters.Void at)) = []
parameters_in (Some (parameters.Named l)) = listed l

abbrev pub parameter_of : TypeWords × named.Name → Run ℕ
parameter_of x = declare_scalar x.1 (type_of x.0)

-- A function takes the next number, and is known from its name on; up to its end it has the call depth 0.
abbrev pub new_function : ℕ → Run ℕ
new_function count = λ w. Gave (length w.names.functions) (record w {
  names = record w.names {
    functions = w.names.functions ++ record { parameters = count; depth = 0 } ∷ [];
  };
})

-- A function begins: it calls nothing so far, whatever an initialiser before it calls.
abbrev pub enter : Region → Run ⊤
enter r = λ w. Gave tt (record w { names = record w.names { region = r }; deepest = 0 })

-- At the end of a function its call depth is known.
abbrev pub with_depth : ℕ → Option Signature → Signature
with_depth depth None = record { parameters = 0; depth = depth }
with_depth depth (Some f) = record { parameters = f.parameters; depth = depth }

abbrev pub leave : ℕ → Run ⊤
leave k = λ w. Gave tt (record w {
  names = record w.names {
    region = region.File;
    functions = slice_set w.names.functions k (with_depth (deeper w.deepest) (slice_get w.names.functions k));
  };
})

abbrev pub head_of : Region → Function → Run ℕ
head_of r f = do
  k ← new_function (length (parameters_in f.parameters.item))
  _ ← declare f.name (meaning.Function k (type_of f.ty))
  _ ← enter r
  _ ← open_scope
  pure k

-- A function other than main.
abbrev pub keep_function : made_function.Function → Run ⊤
keep_function f = λ w. Gave tt (record w { functions = w.functions ++ f ∷ [] })

abbrev pub function_of : Function → Run ⊤
function_of f = do
  k ← head_of region.Function f
  slots ← each parameter_of (parameters_in f.parameters.item)
  body ← items_of [] (map inside_item f.body.item)
  _ ← close_scope
  _ ← leave k
  keep_function (record { result = type_of f.ty; parameters = slots; body = s.Block body })

-- ---- main

-- The last statement of main may be `return`.
abbrev pub last_in : Stmt → Stmt-F Stmt → Run made.Stmt
last_in x (Stmt-F.Plain (plain.Return at value end)) = return_of true at value
last_in x _ = stmt_of x

abbrev pub last_item : BlockItem Stmt → BlockItem (Run made.Stmt)
last_item (item.Mapping x) = item.Mapping x
last_item (item.Declaration d) = item.Declaration d
last_item (item.Stmt x) = item.Stmt (last_in x (out-Stmt x))

abbrev pub main_items : List (BlockItem Stmt) → List (BlockItem (Run made.Stmt))
main_items [] = []
main_items (x ∷ []) = last_item x ∷ []
main_items (x ∷ y ∷ ys) = inside_item x ∷ main_items (y ∷ ys)

-- The last function is `int main` without parameters.
abbrev pub is_int_word : TypeWords → Bool
is_int_word (words.Int at) = true
is_int_word (words.Long at) = false
is_int_word (words.LongInt at int_at) = false

abbrev pub no_parameters : List (TypeWords × named.Name) → Bool
no_parameters [] = true
no_parameters (x ∷ xs) = false

abbrev pub is_main_head : Function → Bool
is_main_head f = is_int_word f.ty && (scope.is_same f.name.text (codes "main") && no_parameters (parameters_in f.parameters.item))

abbrev pub main_of : Function → Run made.Stmt
main_of f = do
  k ← head_of region.Main f
  _ ← judge (is_main_head f) N7 f.name.at
  _ ← each parameter_of (parameters_in f.parameters.item)
  body ← items_of [] (main_items f.body.item)
  _ ← close_scope
  _ ← leave k
  pure (s.Block body)

-- ---- the program

-- A part of the program that isn't the last; what is no function at the end leaves an empty main.
abbrev pub top_of : TopItem → Run ⊤
top_of (top.Mapping x) = mapping_of x
top_of (top.Declaration d) = file_declaration d
top_of (top.Function f) = function_of f

abbrev pub last_top : TopItem → Run made.Stmt
last_top (top.Mapping x) = do
  _ ← mapping_of x
  pure (s.Block [])
last_top (top.Declaration d) = do
  _ ← file_declaration d
  pure (s.Block [])
last_top (top.Function f) = main_of f

abbrev pub tops_of : List TopItem → Run made.Stmt
tops_of [] = pure (s.Block [])
tops_of (x ∷ []) = last_top x
tops_of (x ∷ y ∷ ys) = do
  _ ← top_of x
  tops_of (y ∷ ys)

-- Whether a program declares a coarray.
abbrev pub coarray_declarator : Declarator → Bool
coarray_declarator (declarator.Scalar n value) = false
coarray_declarator (declarator.Array n extents image) = is_some image

abbrev pub coarray_declaration : Declaration → Bool
coarray_declaration d = list_any coarray_declarator (listed d.items)

abbrev pub coarray_item : BlockItem Bool → Bool
coarray_item (item.Mapping x) = false
coarray_item (item.Declaration d) = coarray_declaration d
coarray_item (item.Stmt b) = b

abbrev pub coarray_else : Option (Place × Bool) → Bool
coarray_else None = false
coarray_else (Some x) = x.1

abbrev pub coarray_step : Stmt-F Bool → Bool
coarray_step (Stmt-F.Plain x) = false
coarray_step (Stmt-F.Block x) = list_any coarray_item x.item
coarray_step (Stmt-F.If at x a b) = a || coarray_else b
coarray_step (Stmt-F.While at x body) = body
coarray_step (Stmt-F.For h body) = body
coarray_step (Stmt-F.Loop line h body) = body
coarray_step (Stmt-F.Task line body) = body
coarray_step (Stmt-F.Tasks line xs) = list_any (λ x. x.1) xs.item

abbrev pub coarray_stmt : Stmt → Bool
coarray_stmt = fold-Stmt Bool coarray_step

abbrev pub else_has : Place × Stmt → Place × Bool
else_has x = (x.0, coarray_stmt x.1)

abbrev pub coarray_in : BlockItem Stmt → Bool
coarray_in (item.Mapping x) = false
coarray_in (item.Declaration d) = coarray_declaration d
coarray_in (item.Stmt x) = coarray_stmt x

abbrev pub coarray_top : TopItem → Bool
coarray_top (top.Mapping x) = false
coarray_top (top.Declaration d) = coarray_declaration d
coarray_top (top.Function f) = list_any coarray_in f.body.item

-- What is known before the text: nothing, in the scope of the file.
abbrev pub no_mappings : Mappings
no_mappings = record { nodes = []; templates = []; distributions = []; aligns = []; shadows = []; loops = []; first_directive = None }

abbrev pub start_names : Bool → Environment
start_names coarray = record { coarray = coarray; region = region.File; scopes = [] ∷ []; arrays = []; functions = [] }

abbrev pub start_world : Option ℕ → Bool → World
start_world given coarray = record {
  given = given;
  names = start_names coarray;
  scalars = [];
  mappings = no_mappings;
  deepest = 0;
  functions = [];
  start = [];
  broken = [];
}

-- The number of nodes after the walk is the given one. (No step of the walk changes it.)
abbrev pub with_count : Option ℕ → Step made.Stmt → Step made.Stmt
with_count given (Gave body w) = Gave body (record w { given = given })

-- The walk over a program, for a number of nodes or none: the body of main, and the world after it.
abbrev pub program_of : Tree → Option ℕ → Step made.Stmt
program_of t given = with_count given (tops_of t.parts (start_world given (list_any coarray_top t.parts)))
