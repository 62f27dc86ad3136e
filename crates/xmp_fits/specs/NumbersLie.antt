-- The numbers of a tree lie in their types: an int from -2^31 to 2^31 - 1, a long from -2^63 to 2^63 - 1. A test of each part of a tree. Source: this project.
use Rattle.std.specs.Prelude.{◌&&◌, Bool, true, List, Option, Some, None}
use Rattle.std.specs.List.{list_all}
use Rattle.xmp_base.specs.declared.place.Place.{Place}
use Rattle.xmp_lex.specs.declared.token.TokenKind.{TokenKind}
use Rattle.xmp_lex.specs.declared.token.TokenKind.TheVariants as t
use Rattle.xmp_prog.specs.Numbers.{lies_in}
use Rattle.xmp_syntax.specs.declared.declaration.Declaration.{Declaration}
use Rattle.xmp_syntax.specs.declared.declaration.Declarator.TheVariants as declarator
use Rattle.xmp_syntax.specs.declared.declaration.Declarator.{Declarator}
use Rattle.xmp_syntax.specs.declared.directive.DistForm.TheVariants as form
use Rattle.xmp_syntax.specs.declared.directive.DistForm.{DistForm}
use Rattle.xmp_syntax.specs.declared.directive.LoopLine.{LoopLine}
use Rattle.xmp_syntax.specs.declared.directive.Mapping.TheVariants as mapping
use Rattle.xmp_syntax.specs.declared.directive.Mapping.{Mapping}
use Rattle.xmp_syntax.specs.declared.directive.NodesSet.{NodesSet}
use Rattle.xmp_syntax.specs.declared.directive.Piece.TheVariants as piece
use Rattle.xmp_syntax.specs.declared.directive.Piece.{Piece}
use Rattle.xmp_syntax.specs.declared.directive.Point.TheVariants as point
use Rattle.xmp_syntax.specs.declared.directive.Point.{Point}
use Rattle.xmp_syntax.specs.declared.directive.Section.TheVariants as section
use Rattle.xmp_syntax.specs.declared.directive.Section.{Section}
use Rattle.xmp_syntax.specs.declared.directive.Sections.{Sections}
use Rattle.xmp_syntax.specs.declared.directive.TaskLine.{TaskLine}
use Rattle.xmp_syntax.specs.declared.expression.Expr.TheOpen.{Expr-F}
use Rattle.xmp_syntax.specs.declared.expression.Expr.{Expr, fold-Expr}
use Rattle.xmp_syntax.specs.declared.expression.Expr.{Expr}
use Rattle.xmp_syntax.specs.declared.parts.CommaList.{CommaList}
use Rattle.xmp_syntax.specs.declared.parts.Image.{Image}
use Rattle.xmp_syntax.specs.declared.parts.Inside.{Inside}
use Rattle.xmp_syntax.specs.declared.parts.Next.{Next}
use Rattle.xmp_syntax.specs.declared.parts.Reference.{Reference}
use Rattle.xmp_syntax.specs.declared.parts.Several.TheVariants as several
use Rattle.xmp_syntax.specs.declared.parts.Several.{Several}
use Rattle.xmp_syntax.specs.declared.parts.Single.TheVariants as single
use Rattle.xmp_syntax.specs.declared.parts.Single.{Single}
use Rattle.xmp_syntax.specs.declared.program.TopItem.TheVariants as top
use Rattle.xmp_syntax.specs.declared.program.TopItem.{TopItem}
use Rattle.xmp_syntax.specs.declared.program.Tree.{Tree}
use Rattle.xmp_syntax.specs.declared.statement.BlockItem.TheVariants as b
use Rattle.xmp_syntax.specs.declared.statement.BlockItem.{BlockItem}
use Rattle.xmp_syntax.specs.declared.statement.ForFirst.TheVariants as for_first
use Rattle.xmp_syntax.specs.declared.statement.ForFirst.{ForFirst}
use Rattle.xmp_syntax.specs.declared.statement.ForHead.{ForHead}
use Rattle.xmp_syntax.specs.declared.statement.Plain.TheVariants as plain
use Rattle.xmp_syntax.specs.declared.statement.Plain.{Plain}
use Rattle.xmp_syntax.specs.declared.statement.Simple.TheVariants as simple
use Rattle.xmp_syntax.specs.declared.statement.Simple.{Simple}
use Rattle.xmp_syntax.specs.declared.statement.Stmt.TheOpen.{Stmt-F}
use Rattle.xmp_syntax.specs.declared.statement.Stmt.{Stmt, fold-Stmt}
use Rattle.xmp_names.specs.Lists.{listed}

-- Whether the number that a token is, if it is one, lies in its type.
abbrev pub number_lies : TokenKind → Bool
number_lies (t.Number v ty) = lies_in ty v
number_lies _ = true

-- Whether the numbers in an expression lie in their types, with the same of the expressions inside.
abbrev pub image_step : Option (Image Bool) → Bool
image_step None = true
image_step (Some i) = i.number.item

abbrev pub arguments_step : Option (CommaList Bool) → Bool
arguments_step None = true
arguments_step (Some l) = l.first && list_all (λ n. n.item) l.more

abbrev pub numbers_step : Expr-F Bool → Bool
numbers_step (Expr-F.Number p v ty) = lies_in ty v
numbers_step (Expr-F.Read r) = list_all (λ d. d.item) r.subscripts && image_step r.image
numbers_step (Expr-F.Call c) = arguments_step c.arguments.item
numbers_step (Expr-F.Parens x) = x.item
numbers_step (Expr-F.Unary op x) = x
numbers_step (Expr-F.Cast ty x) = x
numbers_step (Expr-F.Chain x ls) = x && list_all (λ l. l.right) ls
numbers_step (Expr-F.Conditional c p a q b) = c && (a && b)

abbrev pub numbers_lie : Expr → Bool
numbers_lie = fold-Expr Bool numbers_step

-- The same of parts with expressions in them.
abbrev pub subscripts_lie : List (Inside Expr) → Bool
subscripts_lie ds = list_all (λ d. numbers_lie d.item) ds

abbrev pub image_lies : Option (Image Expr) → Bool
image_lies None = true
image_lies (Some i) = numbers_lie i.number.item

abbrev pub reference_lies : Reference Expr → Bool
reference_lies r = subscripts_lie r.subscripts && image_lies r.image

abbrev pub rest_lies : List (Next Expr) → Bool
rest_lies ns = list_all (λ n. numbers_lie n.item) ns

abbrev pub arguments_lie : Option (CommaList Expr) → Bool
arguments_lie None = true
arguments_lie (Some l) = numbers_lie l.first && rest_lies l.more

-- A part that may be missing.
abbrev pub there_lies : {A : Type 0} → (A → Bool) → Option A → Bool
there_lies f None = true
there_lies f (Some x) = f x

abbrev pub second_lies : Place × Expr → Bool
second_lies x = numbers_lie x.1

-- Parts in brackets, or all between one pair of parentheses; one part in either.
abbrev pub several_lie : {A B : Type 0} → (A → Bool) → (B → Bool) → Several A B → Bool
several_lie f g (several.Brackets xs) = list_all (λ d. f d.item) xs
several_lie f g (several.Parens x) = list_all g (listed x.item)

abbrev pub single_lies : Single Expr → Bool
single_lies (single.Bracket x) = numbers_lie x.item
single_lies (single.Paren x) = numbers_lie x.item

-- One number, or two with a mark between them.
abbrev pub range_lies : Expr × Option (Place × Expr) → Bool
range_lies x = numbers_lie x.0 && there_lies second_lies x.1

abbrev pub section_lies : Section → Bool
section_lies (section.All at) = true
section_lies (section.Numbers a n k) = numbers_lie a && (there_lies second_lies n && there_lies second_lies k)

abbrev pub sections_lie : Sections → Bool
sections_lie x = list_all (λ d. section_lies d.item) x.sections

abbrev pub piece_lies : Piece → Bool
piece_lies (piece.All at) = true
piece_lies (piece.Numbers a b) = numbers_lie a && there_lies second_lies b

abbrev pub set_lies : NodesSet → Bool
set_lies x = several_lie piece_lies piece_lies x.pieces

abbrev pub point_lies : Point → Bool
point_lies (point.Star at) = true
point_lies (point.Index n offset) = there_lies (λ x. numbers_lie x.1) offset

abbrev pub form_lies : DistForm → Bool
form_lies (form.Whole at) = true
form_lies (form.Block at) = true
form_lies (form.Cyclic at width) = there_lies (λ w. numbers_lie w.item) width
form_lies (form.Gblock at lengths) = list_all numbers_lie (listed lengths.item.item)

abbrev pub mapping_lies : Mapping → Bool
mapping_lies (mapping.Nodes line n sizes) = several_lie numbers_lie numbers_lie sizes
mapping_lies (mapping.NodesStar line n star) = true
mapping_lies (mapping.NodesPart line n size equals set) = single_lies size && set_lies set
mapping_lies (mapping.Template line n sizes) = several_lie numbers_lie range_lies sizes
mapping_lies (mapping.Distribute line n forms onto nodes) = several_lie form_lies form_lies forms
mapping_lies (mapping.Align line n dimensions with template points) = several_lie point_lies point_lies points
mapping_lies (mapping.Shadow line n widths) = list_all (λ d. range_lies d.item) widths

abbrev pub declarator_lies : Declarator → Bool
declarator_lies (declarator.Scalar n value) = there_lies second_lies value
declarator_lies (declarator.Array n extents image) = subscripts_lie extents

abbrev pub declaration_lies : Declaration → Bool
declaration_lies d = list_all declarator_lies (listed d.items)

abbrev pub loop_line_lies : LoopLine → Bool
loop_line_lies l = several_lie point_lies point_lies l.points

abbrev pub task_line_lies : TaskLine → Bool
task_line_lies l = set_lies l.set

abbrev pub simple_lies : Simple → Bool
simple_lies (simple.Assign r op x) = reference_lies r && numbers_lie x
simple_lies (simple.Postfix r op) = reference_lies r
simple_lies (simple.Prefix op r) = reference_lies r
simple_lies (simple.Call c) = arguments_lie c.arguments.item

abbrev pub first_lies : ForFirst → Bool
first_lies (for_first.Assign r at x) = reference_lies r && numbers_lie x
first_lies (for_first.Declare at n equals x) = numbers_lie x

abbrev pub head_lies : ForHead → Bool
head_lies h = there_lies first_lies h.first && (there_lies numbers_lie h.test && there_lies simple_lies h.next)

abbrev pub plain_lies : Plain → Bool
plain_lies (plain.Empty at) = true
plain_lies (plain.Simple x at) = simple_lies x
plain_lies (plain.Return at x end) = numbers_lie x
plain_lies (plain.Print at x end) = rest_lies x.item.1
plain_lies (plain.Scan at x end) = reference_lies x.item.3
plain_lies (plain.Sync at x end) = reference_lies x.item.1
plain_lies (plain.Reflect line names) = true
plain_lies (plain.Barrier line) = true
plain_lies (plain.Bcast line names from_at set) = set_lies set
plain_lies (plain.Gmove line target equals source end) = sections_lie target && sections_lie source

-- One level, with the same of the statements inside.
abbrev pub item_step : BlockItem Bool → Bool
item_step (b.Mapping x) = mapping_lies x
item_step (b.Declaration d) = declaration_lies d
item_step (b.Stmt t) = t

abbrev pub else_lies : Option (Place × Bool) → Bool
else_lies None = true
else_lies (Some x) = x.1

abbrev pub task_step : TaskLine × Bool → Bool
task_step x = task_line_lies x.0 && x.1

abbrev pub lies_step : Stmt-F Bool → Bool
lies_step (Stmt-F.Plain x) = plain_lies x
lies_step (Stmt-F.Block x) = list_all item_step x.item
lies_step (Stmt-F.If at x a c) = numbers_lie x.item && (a && else_lies c)
lies_step (Stmt-F.While at x body) = numbers_lie x.item && body
lies_step (Stmt-F.For h body) = head_lies h && body
lies_step (Stmt-F.Loop line h body) = loop_line_lies line && (head_lies h && body)
lies_step (Stmt-F.Task line body) = task_line_lies line && body
lies_step (Stmt-F.Tasks line xs) = list_all task_step xs.item

abbrev pub stmt_lies : Stmt → Bool
stmt_lies = fold-Stmt Bool lies_step

abbrev pub item_lies : BlockItem Stmt → Bool
item_lies (b.Mapping x) = mapping_lies x
item_lies (b.Declaration d) = declaration_lies d
item_lies (b.Stmt x) = stmt_lies x

abbrev pub items_lie : List (BlockItem Stmt) → Bool
items_lie xs = list_all item_lies xs

abbrev pub task_lies : TaskLine × Stmt → Bool
task_lies x = task_line_lies x.0 && stmt_lies x.1

abbrev pub tasks_lie : List (TaskLine × Stmt) → Bool
tasks_lie xs = list_all task_lies xs

abbrev pub top_lies : TopItem → Bool
top_lies (top.Mapping x) = mapping_lies x
top_lies (top.Declaration d) = declaration_lies d
top_lies (top.Function f) = items_lie f.body.item

abbrev pub tree_lies : Tree → Bool
tree_lies t = list_all top_lies t.parts
