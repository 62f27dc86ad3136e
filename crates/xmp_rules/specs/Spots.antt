-- All that a program has for the rules of names to judge, in the order in which it stands there, each with what is in scope
-- at its place. Source: this project.
use Rattle.std.specs.Prelude.{ℕ, ◌+◌, List, [], ◌∷◌, ◌++◌, map, length, Bool, if◌then◌else◌, Option, Some, None, is_some, max, flat_map}
use Rattle.std.specs.List.{list_any}
use Rattle.xmp_lex.specs.declared.token.Mark.{Mark}
use Rattle.xmp_base.specs.declared.place.Place.{Place}
use Rattle.xmp_num.specs.declared.types.Ty.{Ty}
use Rattle.xmp_num.specs.declared.types.Ty.TheVariants.{Int}
use Rattle.xmp_syntax.specs.declared.parts.Name as named
use Rattle.xmp_syntax.specs.declared.parts.Format.{Format}
use Rattle.xmp_syntax.specs.declared.parts.Placed.{Placed}
use Rattle.xmp_syntax.specs.declared.parts.Inside.{Inside}
use Rattle.xmp_syntax.specs.declared.parts.CommaList.{CommaList}
use Rattle.xmp_syntax.specs.declared.parts.Image.{Image}
use Rattle.xmp_syntax.specs.declared.parts.Reference.{Reference}
use Rattle.xmp_syntax.specs.declared.parts.Call.{Call}
use Rattle.xmp_syntax.specs.declared.parts.TypeWords.{TypeWords}
use Rattle.xmp_syntax.specs.declared.parts.Several.{Several}
use Rattle.xmp_syntax.specs.declared.parts.Several.TheVariants as several
use Rattle.xmp_syntax.specs.declared.expression.Expr.{Expr, fold-Expr}
use Rattle.xmp_syntax.specs.declared.expression.Expr.TheOpen.{Expr-F}
use Rattle.xmp_syntax.specs.declared.declaration.Declarator.{Declarator}
use Rattle.xmp_syntax.specs.declared.declaration.Declarator.TheVariants as declarator
use Rattle.xmp_syntax.specs.declared.declaration.Declaration.{Declaration}
use Rattle.xmp_syntax.specs.declared.directive.DirectiveLine.{DirectiveLine}
use Rattle.xmp_syntax.specs.declared.directive.DistForm.{DistForm}
use Rattle.xmp_syntax.specs.declared.directive.DistForm.TheVariants as dist
use Rattle.xmp_syntax.specs.declared.directive.AlignDimension.{AlignDimension}
use Rattle.xmp_syntax.specs.declared.directive.AlignDimension.TheVariants as dimension
use Rattle.xmp_syntax.specs.declared.directive.Point.{Point}
use Rattle.xmp_syntax.specs.declared.directive.Point.TheVariants as point
use Rattle.xmp_syntax.specs.declared.directive.Section.{Section}
use Rattle.xmp_syntax.specs.declared.directive.Section.TheVariants as section
use Rattle.xmp_syntax.specs.declared.directive.Sections.{Sections}
use Rattle.xmp_syntax.specs.declared.directive.Piece.{Piece}
use Rattle.xmp_syntax.specs.declared.directive.Piece.TheVariants as piece
use Rattle.xmp_syntax.specs.declared.directive.NodesSet.{NodesSet}
use Rattle.xmp_syntax.specs.declared.directive.Mapping.{Mapping}
use Rattle.xmp_syntax.specs.declared.directive.Mapping.TheVariants as mapping
use Rattle.xmp_syntax.specs.declared.directive.LoopLine.{LoopLine}
use Rattle.xmp_syntax.specs.declared.directive.TaskLine.{TaskLine}
use Rattle.xmp_syntax.specs.declared.statement.Simple.{Simple}
use Rattle.xmp_syntax.specs.declared.statement.Simple.TheVariants as simple
use Rattle.xmp_syntax.specs.declared.statement.ForFirst.{ForFirst}
use Rattle.xmp_syntax.specs.declared.statement.ForFirst.TheVariants as for_first
use Rattle.xmp_syntax.specs.declared.statement.ForHead.{ForHead}
use Rattle.xmp_syntax.specs.declared.statement.Plain.{Plain}
use Rattle.xmp_syntax.specs.declared.statement.Plain.TheVariants as plain
use Rattle.xmp_syntax.specs.declared.statement.BlockItem.{BlockItem}
use Rattle.xmp_syntax.specs.declared.statement.BlockItem.TheVariants as item
use Rattle.xmp_syntax.specs.declared.statement.Stmt.{Stmt, fold-Stmt, out-Stmt}
use Rattle.xmp_syntax.specs.declared.statement.Stmt.TheOpen.{Stmt-F}
use Rattle.xmp_syntax.specs.declared.program.Function.{Function}
use Rattle.xmp_syntax.specs.declared.program.TopItem.{TopItem}
use Rattle.xmp_syntax.specs.declared.program.TopItem.TheVariants as top
use Rattle.xmp_syntax.specs.declared.program.Tree.{Tree}
use Rattle.xmp_scopes.specs.Names.{Name, is_same}
use Rattle.xmp_names.specs.declared.mappings.Notation.{Notation}
use Rattle.xmp_names.specs.Lists.{listed, inner, parts, notation, only, only_notation}
use Rattle.xmp_walk.specs.Declarations.{type_of}
use Rattle.xmp_walk.specs.Program.{parameters_in, coarray_top}
use Rattle.xmp_rules.specs.Scopes as scopes
use Rattle.xmp_rules.specs.Scopes.{Declared, Part, File, InFunction, InMain, Context, meaning, declare, opened}

-- ---- what is judged

-- What a name is used as: a variable with so many subscripts, on another image or not; a function with so many arguments; a
-- kind of declaration that a directive asks for; a side of a gmove with so many sections; a name in a point of an align that
-- is no dummy.
pub data Use : Type 0 where
  Variable : ℕ → Bool → Use
  Called : ℕ → Use
  AScalar : Use
  AnIndex : Use
  AnArray : Use
  SomeNodes : Use
  ATemplate : Use
  ASide : ℕ → Use
  NoDummy : Use

-- What has to be right besides, for a name of the right kind: a template's points or forms, and a set's pieces, as they are
-- written and how many there are; the dimensions of an align or a shadow; the target of `xmp_sync_all`.
pub data Form : Type 0 where
  Points : Notation → ℕ → Form
  Pieces : Notation → ℕ → Form
  Dimensions : ℕ → Form
  Status : Form

pub data What : Type 0 where
  Used : named.Name → Use → What
  Formed : named.Name → Form → What
  -- both sides of a gmove
  Sides : Sections → Sections → What
  Declares : named.Name → What
  -- a dummy of an align behind others
  Dummy : List Name → named.Name → What
  -- the word of a directive, and that of a mapping
  Directive : Place → What
  Maps : Place → What
  -- an array by its extents
  Extents : named.Name → List Expr → What
  -- an expression that has to be constant, and what a `return` gives
  Constant : Expr → What
  Returned : Expr → What
  -- `printf`, `scanf` and `xmp_sync_all` by their words, and the last alone
  Word : Place → What
  Sync : Place → What
  Printed : Format → List Expr → What
  Scanned : Format → Reference Expr → What
  -- a `return` that isn't main's last statement, and the head of the last function
  Returns : Place → What
  Head : Function → What

pub record Spot : Type 0 where
  pub «in» : Context
  pub what : What

abbrev pub all_in : Context → List What → List Spot
all_in c xs = map (λ x. record { «in» = c; what = x }) xs

-- ---- expressions

abbrev pub in_image : Option (Image (List What)) → List What
in_image None = []
in_image (Some i) = i.number.item

abbrev pub in_arguments : Option (CommaList (List What)) → List What
in_arguments None = []
in_arguments (Some l) = l.first ++ flat_map (λ n. n.item) l.more

abbrev pub how_many : {A : Type 0} → Option (CommaList A) → ℕ
how_many None = 0
how_many (Some l) = length (l.first ∷ map (λ n. n.item) l.more)

abbrev pub step : Expr-F (List What) → List What
step (Expr-F.Number p v ty) = []
step (Expr-F.Read r) = flat_map (λ d. d.item) r.subscripts ++ (in_image r.image ++ Used r.name (Variable (length r.subscripts) (is_some r.image)) ∷ [])
step (Expr-F.Call c) = in_arguments c.arguments.item ++ Used c.name (Called (how_many c.arguments.item)) ∷ []
step (Expr-F.Parens x) = x.item
step (Expr-F.Unary op x) = x
step (Expr-F.Cast ty x) = x
step (Expr-F.Chain x ls) = x ++ flat_map (λ l. l.right) ls
step (Expr-F.Conditional c p a q b) = c ++ (a ++ b)

-- The names in an expression.
abbrev pub of_expr : Expr → List What
of_expr = fold-Expr (List What) step

abbrev pub of_image : Option (Image Expr) → List What
of_image None = []
of_image (Some i) = of_expr i.number.item

abbrev pub of_reference : Reference Expr → List What
of_reference r = flat_map (λ d. of_expr d.item) r.subscripts ++ (of_image r.image ++ Used r.name (Variable (length r.subscripts) (is_some r.image)) ∷ [])

abbrev pub of_arguments : Option (CommaList Expr) → List What
of_arguments None = []
of_arguments (Some l) = of_expr l.first ++ flat_map (λ n. of_expr n.item) l.more

abbrev pub of_call : Call Expr → List What
of_call c = of_arguments c.arguments.item ++ Used c.name (Called (how_many c.arguments.item)) ∷ []

abbrev pub constant : Expr → List What
constant x = of_expr x ++ Constant x ∷ []

abbrev pub behind : (Expr → List What) → Option (Place × Expr) → List What
behind f None = []
behind f (Some x) = f x.1

-- ---- directives

abbrev pub of_offset : Option (Placed Mark × Expr) → List What
of_offset None = []
of_offset (Some x) = constant x.1

abbrev pub of_point : Point → List What
of_point (point.Star at) = []
of_point (point.Index n offset) = Used n AnIndex ∷ of_offset offset

abbrev pub of_names : Use → CommaList named.Name → List What
of_names u l = map (λ n. Used n u) (listed l)

abbrev pub of_loop_names : Option (Inside (CommaList named.Name)) → List What
of_loop_names None = []
of_loop_names (Some l) = of_names AnIndex l.item

abbrev pub of_points : {A : Type 0} → (A → List What) → named.Name → Several A A → List What
of_points f t points = flat_map f (parts points) ++ Formed t (Points (notation points) (length (parts points))) ∷ []

abbrev pub of_loop : LoopLine → List What
of_loop l =
    Directive l.line.word ∷ (of_loop_names l.names ++ (Used l.template ATemplate ∷ (of_points of_point l.template l.points
    ++ flat_map (λ r. of_names AScalar r.list.item.2) l.reductions)))

abbrev pub of_piece : Piece → List What
of_piece (piece.All at) = []
of_piece (piece.Numbers first second) = constant first ++ behind constant second

abbrev pub of_set : NodesSet → List What
of_set s = Used s.name SomeNodes ∷ (flat_map of_piece (parts s.pieces) ++ Formed s.name (Pieces (notation s.pieces) (length (parts s.pieces))) ∷ [])

abbrev pub of_task : TaskLine → List What
of_task l = Directive l.line.word ∷ of_set l.set

-- The numbers of a section. A side that is no array has none that are looked at.
abbrev pub of_section : Section → List What
of_section (section.All at) = []
of_section (section.Numbers first None step) = of_expr first
of_section (section.Numbers first (Some many) step) = of_expr first ++ (of_expr many.1 ++ behind of_expr step)

abbrev pub sections_of : Option Declared → Sections → List What
sections_of (Some (scopes.Array ty dimensions coarray)) x = flat_map of_section (inner x.sections)
sections_of _ x = []

abbrev pub of_side : Context → Sections → List What
of_side c x = Used x.name (ASide (length x.sections)) ∷ sections_of (meaning c x.name.text) x

-- ---- mappings

abbrev pub of_range : Expr × Option (Place × Expr) → List What
of_range x = constant x.0 ++ behind constant x.1

abbrev pub of_dimensions : Several Expr (Expr × Option (Place × Expr)) → List What
of_dimensions (several.Brackets xs) = flat_map constant (inner xs)
of_dimensions (several.Parens x) = flat_map of_range (listed x.item)

abbrev pub count : {A B : Type 0} → Several A B → ℕ
count (several.Brackets xs) = length xs
count (several.Parens x) = length (listed x.item)

abbrev pub of_width : Option (Inside Expr) → List What
of_width None = []
of_width (Some x) = constant x.item

abbrev pub of_form : DistForm → List What
of_form (dist.Whole at) = []
of_form (dist.Block at) = []
of_form (dist.Cyclic at width) = of_width width
of_form (dist.Gblock at lengths) = flat_map constant (listed lengths.item.item)

-- The dummies of an align, each behind those before it.
abbrev pub dummy : AlignDimension → List Name
dummy (dimension.Star at) = []
dummy (dimension.Dummy n) = n.text ∷ []

abbrev pub of_dummy : List Name → AlignDimension → List What
of_dummy before (dimension.Star at) = []
of_dummy before (dimension.Dummy n) = Dummy before n ∷ []

abbrev pub of_dummies : List Name → List AlignDimension → List What
of_dummies before [] = []
of_dummies before (x ∷ xs) = of_dummy before x ++ of_dummies (dummy x ++ before) xs

-- A name in a point of an align is a dummy, or it stands for something else.
abbrev pub of_align_point : List Name → Point → List What
of_align_point dummies (point.Star at) = []
of_align_point dummies (point.Index n offset) = (if list_any (is_same n.text) dummies then [] else Used n NoDummy ∷ []) ++ of_offset offset

abbrev pub line_of : Mapping → DirectiveLine
line_of (mapping.Nodes line n sizes) = line
line_of (mapping.NodesStar line n star) = line
line_of (mapping.NodesPart line n size at set) = line
line_of (mapping.Template line n sizes) = line
line_of (mapping.Distribute line t forms at onto) = line
line_of (mapping.Align line a dimensions at t points) = line
line_of (mapping.Shadow line a widths) = line

abbrev pub of_line : Mapping → List What
of_line (mapping.Nodes line n sizes) = flat_map constant (parts sizes) ++ Declares n ∷ []
of_line (mapping.NodesStar line n star) = Declares n ∷ []
of_line (mapping.NodesPart line n size at set) = constant (only size) ++ (of_set set ++ Declares n ∷ [])
of_line (mapping.Template line n sizes) = of_dimensions sizes ++ Declares n ∷ []
of_line (mapping.Distribute line t forms at onto) = Used t ATemplate ∷ (of_points of_form t forms ++ Used onto SomeNodes ∷ [])
of_line (mapping.Align line a dimensions at t points) =
    Used a AnArray ∷ (Formed a (Dimensions (length dimensions)) ∷ (of_dummies [] (inner dimensions) ++ (Used t ATemplate
    ∷ of_points (of_align_point (flat_map dummy (inner dimensions))) t points)))
of_line (mapping.Shadow line a widths) = Used a AnArray ∷ (flat_map of_range (inner widths) ++ Formed a (Dimensions (length widths)) ∷ [])

abbrev pub of_mapping : Mapping → List What
of_mapping x = Directive (line_of x).word ∷ (Maps (line_of x).word ∷ of_line x)

-- What is in scope behind a mapping.
abbrev pub behind_mapping : Mapping → Context → Context
behind_mapping (mapping.Nodes line n sizes) c = declare n.text (scopes.Nodes (notation sizes) (length (parts sizes))) c
behind_mapping (mapping.NodesStar line n star) c = declare n.text (scopes.Nodes (only_notation star) 1) c
behind_mapping (mapping.NodesPart line n size at set) c = declare n.text (scopes.Nodes (only_notation size) 1) c
behind_mapping (mapping.Template line n sizes) c = declare n.text (scopes.Template (notation sizes) (count sizes)) c
behind_mapping (mapping.Distribute line t forms at onto) c = c
behind_mapping (mapping.Align line a dimensions at t points) c = c
behind_mapping (mapping.Shadow line a widths) c = c

-- ---- declarations

-- A scalar is known in its own initialiser, an array behind its extents.
abbrev pub behind_declarator : Ty → Declarator → Context → Context
behind_declarator ty (declarator.Scalar n value) c = declare n.text (scopes.Scalar ty) c
behind_declarator ty (declarator.Array n extents image) c = declare n.text (scopes.Array ty (length extents) (is_some image)) c

abbrev pub of_declarator : (Expr → List What) → Ty → Context → Declarator → List Spot
of_declarator first ty c (declarator.Scalar n value) = all_in c (Declares n ∷ []) ++ all_in (declare n.text (scopes.Scalar ty) c) (behind first value)
of_declarator first ty c (declarator.Array n extents image) = all_in c (flat_map constant (inner extents) ++ (Declares n ∷ (Extents n (inner extents) ∷ [])))

abbrev pub of_declarators : (Expr → List What) → Ty → Context → List Declarator → List Spot
of_declarators first ty c [] = []
of_declarators first ty c (x ∷ xs) = of_declarator first ty c x ++ of_declarators first ty (behind_declarator ty x c) xs

abbrev pub behind_declarators : Ty → List Declarator → Context → Context
behind_declarators ty [] c = c
behind_declarators ty (x ∷ xs) c = behind_declarators ty xs (behind_declarator ty x c)

abbrev pub of_declaration : (Expr → List What) → Context → Declaration → List Spot
of_declaration first c d = of_declarators first (type_of d.ty) c (listed d.items)

abbrev pub behind_declaration : Declaration → Context → Context
behind_declaration d c = behind_declarators (type_of d.ty) (listed d.items) c

-- ---- statements

abbrev pub of_simple : Simple → List What
of_simple (simple.Assign r op x) = of_reference r ++ of_expr x
of_simple (simple.Postfix r op) = of_reference r
of_simple (simple.Prefix op r) = of_reference r
of_simple (simple.Call c) = of_call c

abbrev pub of_return : Expr → List What
of_return x = of_expr x ++ Returned x ∷ []

abbrev pub of_plain : Context → Plain → List What
of_plain c (plain.Empty at) = []
of_plain c (plain.Simple x at) = of_simple x
of_plain c (plain.Return at x end) = Returns at ∷ of_return x
of_plain c (plain.Print at x end) =
    Word at ∷ (flat_map (λ n. of_expr n.item) x.item.1 ++ Printed x.item.0 (map (λ n. n.item) x.item.1) ∷ [])
of_plain c (plain.Scan at x end) = Word at ∷ (of_reference x.item.3 ++ Scanned x.item.0 x.item.3 ∷ [])
of_plain c (plain.Sync at x end) = Sync at ∷ (Word at ∷ (of_reference x.item.1 ++ Formed x.item.1.name Status ∷ []))
of_plain c (plain.Reflect line names) = Directive line.word ∷ of_names AnArray names.item
of_plain c (plain.Barrier line) = Directive line.word ∷ []
of_plain c (plain.Bcast line names from_at set) = Directive line.word ∷ (of_names AScalar names.item ++ of_set set)
of_plain c (plain.Gmove line target equals source end) = Directive line.word ∷ (of_side c target ++ (of_side c source ++ Sides target source ∷ []))

-- A `for` opens a scope; an index that its head declares is known in its own initialiser.
abbrev pub of_first : Context → Option ForFirst → List Spot
of_first c None = []
of_first c (Some (for_first.Assign r at x)) = all_in c (of_reference r ++ of_expr x)
of_first c (Some (for_first.Declare at n equals x)) = all_in c (Declares n ∷ []) ++ all_in (declare n.text (scopes.Scalar Int) c) (of_expr x)

abbrev pub behind_first : Option ForFirst → Context → Context
behind_first None c = c
behind_first (Some (for_first.Assign r at x)) c = c
behind_first (Some (for_first.Declare at n equals x)) c = declare n.text (scopes.Scalar Int) c

abbrev pub of_test : Option Expr → List What
of_test None = []
of_test (Some x) = of_expr x

abbrev pub of_next : Option Simple → List What
of_next None = []
of_next (Some x) = of_simple x

abbrev pub of_for : ForHead → (Context → List Spot) → Context → List Spot
of_for h body c =
    of_first (opened c) h.first
    ++ (all_in (behind_first h.first (opened c)) (of_test h.test ++ of_next h.next) ++ body (behind_first h.first (opened c)))

-- What stands in a block, each with what is in scope behind what stands before it.
abbrev pub of_items : Context → List (BlockItem (Context → List Spot)) → List Spot
of_items c [] = []
of_items c (item.Mapping x ∷ xs) = all_in c (of_mapping x) ++ of_items (behind_mapping x c) xs
of_items c (item.Declaration d ∷ xs) = of_declaration of_expr c d ++ of_items (behind_declaration d c) xs
of_items c (item.Stmt body ∷ xs) = body c ++ of_items c xs

abbrev pub of_else : Option (Place × (Context → List Spot)) → Context → List Spot
of_else None c = []
of_else (Some x) c = x.1 c

abbrev pub stmt_step : Stmt-F (Context → List Spot) → Context → List Spot
stmt_step (Stmt-F.Plain x) c = all_in c (of_plain c x)
stmt_step (Stmt-F.Block x) c = of_items (opened c) x.item
stmt_step (Stmt-F.If at x a b) c = all_in c (of_expr x.item) ++ (a c ++ of_else b c)
stmt_step (Stmt-F.While at x body) c = all_in c (of_expr x.item) ++ body c
stmt_step (Stmt-F.For h body) c = of_for h body c
stmt_step (Stmt-F.Loop l h body) c = all_in c (of_loop l) ++ of_for h body c
stmt_step (Stmt-F.Task l body) c = all_in c (of_task l) ++ body c
stmt_step (Stmt-F.Tasks l xs) c = all_in c (Directive l.word ∷ []) ++ flat_map (λ x. all_in c (of_task x.0) ++ x.1 c) xs.item

abbrev pub of_stmt : Stmt → Context → List Spot
of_stmt = fold-Stmt (Context → List Spot) stmt_step

abbrev pub seen : BlockItem Stmt → BlockItem (Context → List Spot)
seen (item.Mapping x) = item.Mapping x
seen (item.Declaration d) = item.Declaration d
seen (item.Stmt x) = item.Stmt (of_stmt x)

-- ---- functions and the program

abbrev pub behind_parameters : List (TypeWords × named.Name) → Context → Context
behind_parameters [] c = c
behind_parameters (x ∷ xs) c = behind_parameters xs (declare x.1.text (scopes.Scalar (type_of x.0)) c)

abbrev pub of_parameters : Context → List (TypeWords × named.Name) → List Spot
of_parameters c [] = []
of_parameters c (x ∷ xs) = all_in c (Declares x.1 ∷ []) ++ of_parameters (declare x.1.text (scopes.Scalar (type_of x.0)) c) xs

-- A function is known from its name on; its parameters and its outermost block are one scope. Up to its end its call depth is 0.
abbrev pub declared : Function → ℕ → Context → Context
declared f depth c =
    record (declare f.name.text (scopes.Function c.functions (length (parameters_in f.parameters.item)) (type_of f.ty) depth) c) { functions = c.functions + 1 }

abbrev pub inside : Part → Function → Context → Context
inside part f c = opened (record (declared f 0 c) { part = part })

-- The greatest call depth of what is called at a spot, and at several.
abbrev pub depth_in : Option Declared → ℕ
depth_in (Some (scopes.Function k parameters ty depth)) = depth
depth_in _ = 0

abbrev pub called_depth : Context → What → ℕ
called_depth c (Used n (Called count)) = depth_in (meaning c n.text)
called_depth c _ = 0

abbrev pub deepest : List Spot → ℕ
deepest [] = 0
deepest (x ∷ xs) = max (called_depth x.in x.what) (deepest xs)

abbrev pub of_body : Context → Function → List Spot
of_body c f =
    of_parameters c (parameters_in f.parameters.item)
    ++ of_items (behind_parameters (parameters_in f.parameters.item) c) (map seen f.body.item)

abbrev pub of_function : Context → Function → List Spot
of_function c f = all_in c (Declares f.name ∷ []) ++ of_body (inside (InFunction c.functions) f c) f

-- A function that calls no earlier one has the call depth 1, another one more than the deepest that it calls.
abbrev pub behind_function : Function → Context → Context
behind_function f c = record (declared f (deepest (of_body (inside (InFunction c.functions) f c) f) + 1) c) { part = File }

-- The last statement of main may be `return`.
abbrev pub last_stmt : Stmt → Stmt-F Stmt → Context → List Spot
last_stmt x (Stmt-F.Plain (plain.Return at value end)) c = all_in c (of_return value)
last_stmt x _ c = of_stmt x c

abbrev pub last_seen : BlockItem Stmt → BlockItem (Context → List Spot)
last_seen (item.Mapping x) = item.Mapping x
last_seen (item.Declaration d) = item.Declaration d
last_seen (item.Stmt x) = item.Stmt (last_stmt x (out-Stmt x))

abbrev pub seen_main : List (BlockItem Stmt) → List (BlockItem (Context → List Spot))
seen_main [] = []
seen_main (x ∷ []) = last_seen x ∷ []
seen_main (x ∷ y ∷ ys) = seen x ∷ seen_main (y ∷ ys)

abbrev pub of_main : Context → Function → List Spot
of_main c f =
    all_in c (Declares f.name ∷ []) ++ (all_in (inside InMain f c) (Head f ∷ [])
    ++ (of_parameters (inside InMain f c) (parameters_in f.parameters.item)
    ++ of_items (behind_parameters (parameters_in f.parameters.item) (inside InMain f c)) (seen_main f.body.item)))

abbrev pub of_top : Context → TopItem → List Spot
of_top c (top.Mapping x) = all_in c (of_mapping x)
of_top c (top.Declaration d) = of_declaration constant c d
of_top c (top.Function f) = of_function c f

abbrev pub behind_top : TopItem → Context → Context
behind_top (top.Mapping x) c = behind_mapping x c
behind_top (top.Declaration d) c = behind_declaration d c
behind_top (top.Function f) c = behind_function f c

abbrev pub of_last : Context → TopItem → List Spot
of_last c (top.Mapping x) = all_in c (of_mapping x)
of_last c (top.Declaration d) = of_declaration constant c d
of_last c (top.Function f) = of_main c f

abbrev pub of_tops : Context → List TopItem → List Spot
of_tops c [] = []
of_tops c (x ∷ []) = of_last c x
of_tops c (x ∷ y ∷ ys) = of_top c x ++ of_tops (behind_top x c) (y ∷ ys)

-- Nothing is declared before a program.
abbrev pub nothing : Bool → Context
nothing coarray = record { coarray = coarray; part = File; inner = []; file = []; functions = 0 }

abbrev pub spots : Tree → List Spot
spots t = of_tops (nothing (list_any coarray_top t.parts)) t.parts
