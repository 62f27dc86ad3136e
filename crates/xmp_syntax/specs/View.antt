-- The expression and the statement that a value stands for. Source: this project.
use Rattle.std.specs.Prelude.{ℕ, List, [], ◌∷◌, map, Option, None, Some}
use Rattle.xmp_base.specs.declared.place.Place.{Place}
use Rattle.xmp_syntax.specs.declared.parts.CommaList.{CommaList}
use Rattle.xmp_syntax.specs.declared.parts.Next.{Next}
use Rattle.xmp_syntax.specs.declared.parts.Inside.{Inside}
use Rattle.xmp_syntax.specs.declared.parts.Image as made_image
use Rattle.xmp_syntax.specs.declared.parts.Reference.{Reference}
use Rattle.xmp_syntax.specs.declared.parts.Call.{Call}
use Rattle.xmp_syntax.specs.declared.parts.Link.{Link}
use Rattle.xmp_syntax.specs.declared.expression.Expr as made
use Rattle.xmp_syntax.specs.declared.expression.Expr.{fold-Expr}
use Rattle.xmp_syntax.specs.declared.expression.Expr.TheOpen.{Expr-F}
use Rattle.xmp_syntax.specs.declared.directive.TaskLine.{TaskLine}
use Rattle.xmp_syntax.specs.declared.statement.BlockItem.{BlockItem}
use Rattle.xmp_syntax.specs.declared.statement.BlockItem.TheVariants as b
use Rattle.xmp_syntax.specs.declared.statement.Stmt as made_stmt
use Rattle.xmp_syntax.specs.declared.statement.Stmt.{fold-Stmt}
use Rattle.xmp_syntax.specs.declared.statement.Stmt.TheOpen.{Stmt-F}
use Rattle.xmp_syntax.specs.Trees.{Expr, number, read, call, parens, unary, cast, chain, conditional, Ref, ref, Subscripts, no_more, subscript, Image, no_image, image, Arguments, no_arguments, arguments, Rest, end, comma, Links, last, link, Stmt, plain, block, if_then, if_else, while_do, for_do, loop, task, tasks, BlockItems, none, mapping, declaration, statement, Tasks, no_task, a_task}

-- Lists of parts, as the data beside them.
abbrev pub subscripts_of : List (Inside Expr) → Subscripts
subscripts_of [] = no_more
subscripts_of (x ∷ xs) = subscript x.open x.item x.close (subscripts_of xs)

abbrev pub image_of : Option (made_image.Image Expr) → Image
image_of None = no_image
image_of (Some x) = image x.colon x.number.open x.number.item x.number.close

abbrev pub ref_of : Reference Expr → Ref
ref_of x = ref x.name (subscripts_of x.subscripts) (image_of x.image)

abbrev pub rest_of : List (Next Expr) → Rest
rest_of [] = end
rest_of (x ∷ xs) = comma x.comma x.item (rest_of xs)

abbrev pub arguments_of : Option (CommaList Expr) → Arguments
arguments_of None = no_arguments
arguments_of (Some x) = arguments x.first (rest_of x.more)

abbrev pub call_of : Call Expr → Expr
call_of x = call x.name x.arguments.open (arguments_of x.arguments.item) x.arguments.close

abbrev pub links_of : List (Link Expr) → Links
links_of [] = last
links_of (x ∷ xs) = link x.operator.what x.operator.at x.right (links_of xs)

abbrev pub expr_step : Expr-F Expr → Expr
expr_step (Expr-F.Number p n ty) = number p n ty
expr_step (Expr-F.Read x) = read (ref_of x)
expr_step (Expr-F.Call x) = call_of x
expr_step (Expr-F.Parens x) = parens x.open x.item x.close
expr_step (Expr-F.Unary op x) = unary op.what op.at x
expr_step (Expr-F.Cast ty x) = cast ty.open ty.item.what ty.item.at ty.close x
expr_step (Expr-F.Chain x xs) = chain x (links_of xs)
expr_step (Expr-F.Conditional c p a q b) = conditional c p a q b

abbrev pub expr_view : made.Expr → Expr
expr_view = fold-Expr Expr expr_step

-- Parts that hold expressions, each seen.
abbrev pub inside_view : {A B : Type 0} → (A → B) → Inside A → Inside B
inside_view f x = record { «open» = x.open; item = f x.item; close = x.close }

abbrev pub next_view : {A B : Type 0} → (A → B) → Next A → Next B
next_view f x = record { comma = x.comma; item = f x.item }

abbrev pub link_view : Link made.Expr → Link Expr
link_view x = record { operator = x.operator; right = expr_view x.right }

abbrev pub subscripts_view : List (Inside made.Expr) → Subscripts
subscripts_view xs = subscripts_of (map (inside_view expr_view) xs)

abbrev pub image_view : Option (made_image.Image made.Expr) → Image
image_view None = no_image
image_view (Some x) = image x.colon x.number.open (expr_view x.number.item) x.number.close

abbrev pub ref_view : Reference made.Expr → Ref
ref_view x = ref x.name (subscripts_view x.subscripts) (image_view x.image)

abbrev pub rest_view : List (Next made.Expr) → Rest
rest_view xs = rest_of (map (next_view expr_view) xs)

abbrev pub arguments_view : Option (CommaList made.Expr) → Arguments
arguments_view None = no_arguments
arguments_view (Some x) = arguments (expr_view x.first) (rest_view x.more)

abbrev pub call_view : Call made.Expr → Expr
call_view x = call x.name x.arguments.open (arguments_view x.arguments.item) x.arguments.close

abbrev pub links_view : List (Link made.Expr) → Links
links_view xs = links_of (map link_view xs)

-- Statements.
abbrev pub items_of : List (BlockItem Stmt) → BlockItems
items_of [] = none
items_of (b.Mapping x ∷ xs) = mapping x (items_of xs)
items_of (b.Declaration x ∷ xs) = declaration x (items_of xs)
items_of (b.Stmt x ∷ xs) = statement x (items_of xs)

abbrev pub tasks_of : List (TaskLine × Stmt) → Tasks
tasks_of [] = no_task
tasks_of (x ∷ xs) = a_task x.0 x.1 (tasks_of xs)

abbrev pub if_of : Place → Inside made.Expr → Stmt → Option (Place × Stmt) → Stmt
if_of p e s None = if_then p e s
if_of p e s (Some d) = if_else p e s d.0 d.1

abbrev pub stmt_step : Stmt-F Stmt → Stmt
stmt_step (Stmt-F.Plain x) = plain x
stmt_step (Stmt-F.Block x) = block x.open (items_of x.item) x.close
stmt_step (Stmt-F.If p e s d) = if_of p e s d
stmt_step (Stmt-F.While p e s) = while_do p e s
stmt_step (Stmt-F.For h s) = for_do h s
stmt_step (Stmt-F.Loop l h s) = loop l h s
stmt_step (Stmt-F.Task l s) = task l s
stmt_step (Stmt-F.Tasks l x) = tasks l x.open (tasks_of x.item) x.close

abbrev pub stmt_view : made_stmt.Stmt → Stmt
stmt_view = fold-Stmt Stmt stmt_step

abbrev pub item_view : BlockItem made_stmt.Stmt → BlockItem Stmt
item_view (b.Mapping x) = b.Mapping x
item_view (b.Declaration x) = b.Declaration x
item_view (b.Stmt x) = b.Stmt (stmt_view x)

abbrev pub items_view : List (BlockItem made_stmt.Stmt) → BlockItems
items_view xs = items_of (map item_view xs)

abbrev pub task_view : TaskLine × made_stmt.Stmt → TaskLine × Stmt
task_view x = (x.0, stmt_view x.1)

abbrev pub tasks_view : List (TaskLine × made_stmt.Stmt) → Tasks
tasks_view xs = tasks_of (map task_view xs)
