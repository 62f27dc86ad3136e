-- Directives among statements: what each becomes, and what it breaks (XcalableMP 1.4, sections 4.4 and 4.5).
use Rattle.std.specs.Prelude.{⊤, ◌++◌, ◌∷◌, [], ℕ, zero, suc, ◌+◌, ◌==◌, List, ℤ, pos, neg_ℤ, ◌+ℤ◌, ◌-ℤ◌, int_le, nat_le, nat_lt, Bool, true, false, not, ◌&&◌, ◌||◌, if◌then◌else◌, Option, Some, None, length, map, drop, slice_get}
use Rattle.std.specs.Option.{unwrap_or}
use Rattle.std.specs.List.{list_all, count_by, flat_map}
use Rattle.xmp_base.specs.declared.place.Place.{Place}
use Rattle.xmp_num.specs.declared.types.Ty.{Ty}
use Rattle.xmp_num.specs.declared.types.Ty.TheVariants.{Int}
use Rattle.xmp_num.specs.declared.types.RedOp.{RedOp}
use Rattle.xmp_num.specs.declared.types.RedOp.TheVariants as red
use Rattle.xmp_map.specs.declared.grid.NodeSet.{NodeSet}
use Rattle.xmp_map.specs.Nodes.{filled}
use Rattle.xmp_prog.specs.declared.expressions.Expr.TheVariants as e
use Rattle.xmp_prog.specs.declared.statements.Name as made_name
use Rattle.xmp_prog.specs.declared.statements.LoopHead.{LoopHead}
use Rattle.xmp_prog.specs.declared.statements.Point as made_point
use Rattle.xmp_prog.specs.declared.statements.Point.TheVariants as mp
use Rattle.xmp_prog.specs.declared.statements.Reduction as made_reduction
use Rattle.xmp_prog.specs.declared.statements.Number.{Number}
use Rattle.xmp_prog.specs.declared.statements.Part.{Part}
use Rattle.xmp_prog.specs.declared.statements.Part.TheVariants as part
use Rattle.xmp_prog.specs.declared.statements.MoveSide.{MoveSide}
use Rattle.xmp_prog.specs.declared.statements.MoveSide.TheVariants as side
use Rattle.xmp_prog.specs.declared.statements.Plain.TheVariants as p
use Rattle.xmp_prog.specs.declared.statements.Stmt as made
use Rattle.xmp_prog.specs.declared.statements.Stmt.TheVariants as s
use Rattle.xmp_prog.specs.declared.statements.Stmt.TheOpen as Stmt-M
use Rattle.xmp_prog.specs.declared.statements.Task.{Task, roll-Task}
use Rattle.xmp_prog.specs.Numbers.{is_in}
use Rattle.xmp_prog.specs.Statements.{indices_of}
use Rattle.xmp_prog.specs.Directives.{sections_in}
use Rattle.xmp_lex.specs.declared.token.Mark.{Mark}
use Rattle.xmp_lex.specs.declared.token.Mark.TheVariants as m
use Rattle.xmp_syntax.specs.declared.parts.Name as named
use Rattle.xmp_syntax.specs.declared.parts.Placed.{Placed}
use Rattle.xmp_syntax.specs.declared.parts.Inside.{Inside}
use Rattle.xmp_syntax.specs.declared.parts.CommaList.{CommaList}
use Rattle.xmp_syntax.specs.declared.expression.Expr.{Expr}
use Rattle.xmp_syntax.specs.declared.directive.DirectiveLine.{DirectiveLine}
use Rattle.xmp_syntax.specs.declared.directive.Point.{Point}
use Rattle.xmp_syntax.specs.declared.directive.Point.TheVariants as point
use Rattle.xmp_syntax.specs.declared.directive.Piece.{Piece}
use Rattle.xmp_syntax.specs.declared.directive.Piece.TheVariants as piece
use Rattle.xmp_syntax.specs.declared.directive.NodesSet.{NodesSet}
use Rattle.xmp_syntax.specs.declared.directive.Section.{Section}
use Rattle.xmp_syntax.specs.declared.directive.Section.TheVariants as section
use Rattle.xmp_syntax.specs.declared.directive.Sections.{Sections}
use Rattle.xmp_syntax.specs.declared.directive.ReductionOperator.{ReductionOperator}
use Rattle.xmp_syntax.specs.declared.directive.ReductionOperator.TheVariants as operator
use Rattle.xmp_syntax.specs.declared.directive.Reduction.{Reduction}
use Rattle.xmp_syntax.specs.declared.directive.LoopLine.{LoopLine}
use Rattle.xmp_syntax.specs.declared.directive.TaskLine.{TaskLine}
use Rattle.xmp_names.specs.declared.names.Meaning.{Meaning}
use Rattle.xmp_names.specs.declared.names.Meaning.TheVariants.{Scalar, Array}
use Rattle.xmp_names.specs.declared.mappings.Notation.{Notation}
use Rattle.xmp_names.specs.declared.mappings.Notation.TheVariants.{Brackets, Parens}
use Rattle.xmp_names.specs.declared.mappings.NodesLine.{NodesLine}
use Rattle.xmp_names.specs.declared.mappings.TemplateLine.{TemplateLine}
use Rattle.xmp_directives.specs.declared.loop_lines.LoopParts.{LoopParts}
use Rattle.xmp_names.specs.declared.rules.Rule.TheVariants.{N1, N3, M7, M8, M9}
use Rattle.xmp_names.specs.Expressions.{is_nothing}
use Rattle.xmp_names.specs.Walk.{Gave, Run, ◌>>=◌, pure, each, if_there, judge, typed, constant, first_place, meaning_of, name_of, a_scalar, an_int_scalar, an_array, a_nodes, a_template, directive_at}
use Rattle.xmp_names.specs.Lists.{listed, inner, parts, notation, is_same}
use Rattle.xmp_names.specs.Sizes.{is_small, limited, held, lower_at, natural, given_or_one, line_sizes, extents_in}

-- ---- names and constants

-- A name of a scalar, of an int scalar, of an array; a name of another kind has the number 0.
abbrev pub slot_or_zero : Option (ℕ × Ty) → ℕ
slot_or_zero None = 0
slot_or_zero (Some x) = x.0

abbrev pub scalar_name : named.Name → Run made_name.Name
scalar_name n = do
  scalar ← name_of a_scalar n
  pure (record { number = slot_or_zero scalar; at = n.at })

abbrev pub index_name : named.Name → Run ℕ
index_name n = do
  slot ← name_of an_int_scalar n
  pure (unwrap_or slot 0)

abbrev pub array_name : named.Name → Run made_name.Name
array_name n = do
  number ← name_of an_array n
  pure (record { number = unwrap_or number 0; at = n.at })

-- The constant behind a name in a point, as written: nothing, `+ c` or `- c`.
abbrev pub signed : Mark → ℤ → ℤ
signed m.Minus c = neg_ℤ c
signed _ c = c

abbrev pub offset_of : Option (Placed Mark × Expr) → Run ℤ
offset_of None = pure (pos 0)
offset_of (Some x) = do
  c ← constant x.1
  pure (signed x.0.what (limited c))

-- ---- the loop directive

-- A point: nothing for `*`, else the index by its slot and its constant.
abbrev pub point_of : Point → Run (Option (ℕ × ℤ))
point_of (point.Star at) = pure None
point_of (point.Index n offset) = do
  slot ← index_name n
  c ← offset_of offset
  pure (Some (slot, c))

-- The points in the typed program: a constant is held less the lower bound of its dimension.
abbrev pub made_of_point : ℤ → Option (ℕ × ℤ) → made_point.Point
made_of_point lower None = mp.Any
made_of_point lower (Some x) = mp.Index x.0 (held lower x.1)

abbrev pub made_points : List ℤ → ℕ → List (Option (ℕ × ℤ)) → List made_point.Point
made_points lowers k [] = []
made_points lowers k (x ∷ xs) = made_of_point (lower_at lowers k) x ∷ made_points lowers (k + 1) xs

abbrev pub slot_of_point : Option (ℕ × ℤ) → List ℕ
slot_of_point None = []
slot_of_point (Some x) = x.0 ∷ []

abbrev pub slots_of_points : List (Option (ℕ × ℤ)) → List ℕ
slots_of_points points = flat_map slot_of_point points

abbrev pub is_small_point : Option (ℕ × ℤ) → Bool
is_small_point None = true
is_small_point (Some x) = is_small x.1

-- The names of a loop: those in its list, or those of its points.
abbrev pub names_or : Option (List ℕ) → List ℕ → List ℕ
names_or None slots = slots
names_or (Some names) slots = names

abbrev pub name_list : Inside (CommaList named.Name) → Run (List ℕ)
name_list l = each index_name (listed l.item)

-- The operation of a reduction.
abbrev pub mark_operation : Mark → RedOp
mark_operation m.Star = red.Mul
mark_operation m.And = red.And
mark_operation m.Or = red.Or
mark_operation m.Xor = red.Xor
mark_operation _ = red.Add

abbrev pub operation_of : ReductionOperator → RedOp
operation_of (operator.Mark mark) = mark_operation mark.what
operation_of (operator.Max at) = red.Max
operation_of (operator.Min at) = red.Min

abbrev pub reduction_name : RedOp → named.Name → Run made_reduction.Reduction
reduction_name op n = do
  variable ← scalar_name n
  pure (record { op = op; variable = variable })

abbrev pub reductions_of : List made_reduction.Reduction → List Reduction → Run (List made_reduction.Reduction)
reductions_of done [] = pure done
reductions_of done (r ∷ rs) = do
  more ← each (reduction_name (operation_of r.list.item.0)) (listed r.list.item.2)
  reductions_of (done ++ more) rs

-- A template has as many points or forms as dimensions, and is written as in its own directive.
abbrev pub template_takes : Notation → ℕ → Option TemplateLine → Bool
template_takes written count None = false
template_takes written count (Some t) = (count == length t.sizes) && is_same written t.notation

abbrev pub match_template : Option ℕ → Notation → ℕ → Place → Run ⊤
match_template None written count at = pure tt
match_template (Some k) written count at = λ w. judge (template_takes written count (slice_get w.mappings.templates k)) N3 at w

-- The lower bounds of a template; none are known of one that isn't declared.
abbrev pub lowers_in : Option TemplateLine → List ℤ
lowers_in None = []
lowers_in (Some t) = t.lowers

abbrev pub lowers_of : Option ℕ → Run (List ℤ)
lowers_of None = pure []
lowers_of (Some k) = λ w. Gave (lowers_in (slice_get w.mappings.templates k)) w

-- The nest of a loop: so many counted loops, each the body of the one before, in braces or not; and what is left.
abbrev pub single : made.Stmt → List made.Stmt → made.Stmt
single s (x ∷ []) = x
single s _ = s

abbrev pub unbraced_in : made.Stmt → Stmt-M.Stmt-F made.Stmt Task → made.Stmt
unbraced_in s (Stmt-M.Stmt-F.Block all) = single s all
unbraced_in s _ = s

abbrev pub unbraced : made.Stmt → made.Stmt
unbraced s = unbraced_in s (made.out-Stmt s)

abbrev pub Nest : Type 0
Nest = List LoopHead × made.Stmt

abbrev pub with_head : LoopHead → Nest → Nest
with_head h nest = (h ∷ nest.0, nest.1)

-- The counted loop that a statement is, in braces or not.
abbrev pub counted_in : Stmt-M.Stmt-F made.Stmt Task → Option (LoopHead × made.Stmt)
counted_in (Stmt-M.Stmt-F.Counted h body) = Some (h, body)
counted_in _ = None

abbrev pub head_of : made.Stmt → Option (LoopHead × made.Stmt)
head_of s = counted_in (made.out-Stmt (unbraced s))

abbrev pub nest_in : (made.Stmt → Nest) → made.Stmt → Option (LoopHead × made.Stmt) → Nest
nest_in rest s (Some x) = with_head x.0 (rest x.1)
nest_in rest s None = ([], s)

abbrev pub nest_of : ℕ → made.Stmt → Nest
nest_of zero s = ([], s)
nest_of (suc n) s = nest_in (nest_of n) s (head_of s)

-- Whether two lists of numbers are the same.
abbrev pub same_numbers : List ℕ → List ℕ → Bool
same_numbers [] [] = true
same_numbers [] (m ∷ ms) = false
same_numbers (n ∷ ns) [] = false
same_numbers (n ∷ ns) (m ∷ ms) = (n == m) && same_numbers ns ms

-- Whether the names are the indices of the nest, each name stands in one point, each point's name is one of them, and
-- the constants are small.
abbrev pub loop_right : List ℕ → List (Option (ℕ × ℤ)) → List LoopHead → Bool
loop_right names points nest =
    same_numbers names (indices_of nest)
    && (list_all (λ i. count_by (λ j. j == i) (slots_of_points points) == 1) names
    && (list_all (is_in names) (slots_of_points points) && list_all is_small_point points))

abbrev pub is_indexed : Option (ℕ × ℤ) → Bool
is_indexed None = false
is_indexed (Some x) = true

-- A loop directive is kept, since its template may be distributed later in the text.
abbrev pub use_template : Option ℕ → Place → List Bool → Run ⊤
use_template None at indexed = pure tt
use_template (Some k) at indexed = λ w. Gave tt (record w {
  mappings = record w.mappings {
    loops = w.mappings.loops ++ record { at = at; template = k; indexed = indexed } ∷ [];
  };
})

abbrev pub made_loop : LoopParts → Nest → Place → made.Stmt
made_loop l nest at =
    s.Loop (record { template = unwrap_or l.template 0; points = made_points l.lowers 0 l.points; nest = nest.0; reductions = l.reductions; at = at }) nest.1

-- What a line of a loop directive says: its template with the lower bounds, its points, its names or those of its points
-- in their order, and its reductions.
abbrev pub loop_line : LoopLine → Run LoopParts
loop_line line = do
  _ ← directive_at line.line.word
  names ← if_there name_list line.names
  template ← name_of a_template line.template
  points ← each point_of (parts line.points)
  _ ← match_template template (notation line.points) (length points) line.template.at
  lowers ← lowers_of template
  reductions ← reductions_of [] line.reductions
  pure (record { template = template; lowers = lowers; points = points; names = names_or names (slots_of_points points); reductions = reductions })

abbrev pub judged_loop : Place → LoopParts → Nest → Run made.Stmt
judged_loop word l nest = do
  _ ← judge (loop_right l.names l.points nest.0) M7 word
  _ ← use_template l.template word (map is_indexed l.points)
  pure (made_loop l nest word)

-- ---- sets of nodes

-- The nodes of a piece, counted from 0: the first and how many there are. In brackets `b:n` are the n nodes from b on; in
-- parentheses, where nodes are counted from 1, `b:e` are the nodes b to e.
abbrev pub nodes_from : Notation → ℤ → Option ℤ → ℤ × ℤ
nodes_from Brackets b None = (b, pos 1)
nodes_from Brackets b (Some n) = (b, n)
nodes_from Parens b None = (b -ℤ pos 1, pos 1)
nodes_from Parens b (Some e) = (b -ℤ pos 1, e -ℤ b +ℤ pos 1)

-- A piece of a set: nothing for `:`.
abbrev pub second_of : Option (Place × Expr) → Run (Option ℤ)
second_of x = if_there (λ y. constant y.1) x

abbrev pub piece_of : Notation → Piece → Run (Option (ℤ × ℤ))
piece_of written (piece.All at) = pure None
piece_of written (piece.Numbers first second) = do
  b ← constant first
  x ← second_of second
  pure (Some (nodes_from written b x))

-- The sizes of the nodes array of a set.
abbrev pub sizes_in : ℕ → Option NodesLine → List ℤ
sizes_in given None = []
sizes_in given (Some l) = line_sizes given l

abbrev pub nodes_sizes : Option ℕ → Run (List ℤ)
nodes_sizes None = pure []
nodes_sizes (Some k) = λ w. Gave (sizes_in (given_or_one w) (slice_get w.mappings.nodes k)) w

-- The box of a set: in each dimension the first node and how many there are; a set with no subscript is the whole array.
abbrev pub range_of : ℤ → Option (ℤ × ℤ) → ℤ × ℤ
range_of size None = (pos 0, size)
range_of size (Some r) = r

abbrev pub ranges : List ℤ → List (Option (ℤ × ℤ)) → List (ℤ × ℤ)
ranges [] parts = []
ranges (n ∷ ns) [] = (pos 0, n) ∷ ranges ns []
ranges (n ∷ ns) (x ∷ xs) = range_of n x ∷ ranges ns xs

-- Whether a range has a node and leaves no dimension of this size.
abbrev pub range_right : ℤ → ℤ × ℤ → Bool
range_right size r = int_le (pos 0) r.0 && (int_le (pos 1) r.1 && int_le (r.0 +ℤ r.1) size)

abbrev pub ranges_right : List ℤ → List (ℤ × ℤ) → Bool
ranges_right [] rs = true
ranges_right (n ∷ ns) [] = true
ranges_right (n ∷ ns) (r ∷ rs) = range_right n r && ranges_right ns rs

-- The box that stands in the typed program; the first node's where a rule breaks.
abbrev pub is_box : List ℤ → List (ℤ × ℤ) → Bool
is_box sizes rs = ranges_right sizes rs && (list_all (λ n. int_le n (pos 16)) sizes && nat_le (length sizes) 3)

abbrev pub node_number : ℤ → ℕ
node_number n = if int_le (pos 0) n && int_le n (pos 16) then natural n else 0

abbrev pub box_of : List ℤ → List (ℤ × ℤ) → NodeSet
box_of sizes rs =
    if is_box sizes rs
    then record { first = filled 0 (map (λ r. node_number r.0) rs); many = filled 1 (map (λ r. node_number r.1) rs) }
    else record { first = 0 ∷ 0 ∷ 0 ∷ []; many = 1 ∷ 1 ∷ 1 ∷ [] }

-- A nodes array has a piece for each dimension, and is written as in its own directive; or it has none.
abbrev pub dimensions_of : Option (List ℤ) → ℕ
dimensions_of None = 1
dimensions_of (Some sizes) = length sizes

abbrev pub nodes_take : Notation → ℕ → Option NodesLine → Bool
nodes_take written count None = false
nodes_take written count (Some l) = (count == dimensions_of l.sizes) && is_same written l.notation

abbrev pub match_nodes : Option ℕ → Notation → ℕ → Place → Run ⊤
match_nodes None written count at = pure tt
match_nodes (Some k) written count at = λ w. judge ((count == 0) || nodes_take written count (slice_get w.mappings.nodes k)) N3 at w

-- A set breaks a rule at a directive's word where it leaves the nodes array, or where one node is asked for and it has more.
abbrev pub is_one : List (ℤ × ℤ) → Bool
is_one rs = list_all (λ r. int_le r.1 (pos 1)) rs

abbrev pub judged_set : Bool → Place → Option ℕ → List (Option (ℤ × ℤ)) → Run NodeSet
judged_set one_node word number pieces = do
  sizes ← nodes_sizes number
  let rs : List (ℤ × ℤ) = ranges sizes pieces
  _ ← judge (ranges_right sizes rs && (not one_node || is_one rs)) M8 word
  pure (box_of sizes rs)

abbrev pub set_of : Bool → Place → NodesSet → Run NodeSet
set_of one_node word x = do
  number ← name_of a_nodes x.name
  pieces ← each (piece_of (notation x.pieces)) (parts x.pieces)
  _ ← match_nodes number (notation x.pieces) (length pieces) x.name.at
  judged_set one_node word number pieces

-- ---- tasks

-- Whether two sets share a node: their boxes overlap in each dimension.
abbrev pub overlap : List ℕ → List ℕ → List ℕ → List ℕ → Bool
overlap (a ∷ first) (n ∷ many) (b ∷ other) (k ∷ counts) = (nat_lt a (b + k) && nat_lt b (a + n)) && overlap first many other counts
overlap _ _ _ _ = true

abbrev pub share : NodeSet → NodeSet → Bool
share x y = overlap x.first x.many y.first y.many

abbrev pub made_task : NodeSet → made.Stmt → Place → Task
made_task nodes body at = roll-Task (record { nodes = nodes; body = body; at = at })

-- The line of a task behind others of the same `tasks`, whose sets come first.
abbrev pub task_line : List NodeSet → TaskLine → Run NodeSet
task_line before line = do
  _ ← directive_at line.line.word
  nodes ← set_of false line.line.word line.set
  _ ← judge (list_all (λ other. not (share other nodes)) before) M9 line.line.word
  pure nodes

abbrev pub lone_task : TaskLine → Run made.Stmt → Run made.Stmt
lone_task line body = do
  nodes ← task_line [] line
  b ← body
  pure (s.Tasks (made_task nodes b line.line.word ∷ []) line.line.word)

abbrev pub tasks_in : List NodeSet → List Task → List (TaskLine × Run made.Stmt) → Run (List Task)
tasks_in before done [] = pure done
tasks_in before done (x ∷ xs) = do
  nodes ← task_line before x.0
  b ← x.1
  tasks_in (before ++ nodes ∷ []) (done ++ made_task nodes b x.0.line.word ∷ []) xs

abbrev pub tasks_of : DirectiveLine → List (TaskLine × Run made.Stmt) → Run made.Stmt
tasks_of line xs = do
  _ ← directive_at line.word
  tasks ← tasks_in [] [] xs
  pure (s.Tasks tasks line.word)

-- ---- reflect, barrier, bcast

abbrev pub reflect_of : DirectiveLine → CommaList named.Name → Run made.Stmt
reflect_of line names = do
  _ ← directive_at line.word
  arrays ← each array_name (listed names)
  pure (s.Plain (p.Reflect arrays line.word))

abbrev pub barrier_of : DirectiveLine → Run made.Stmt
barrier_of line = do
  _ ← directive_at line.word
  pure (s.Plain (p.Barrier line.word))

abbrev pub bcast_of : DirectiveLine → CommaList named.Name → NodesSet → Run made.Stmt
bcast_of line names from = do
  _ ← directive_at line.word
  variables ← each scalar_name (listed names)
  nodes ← set_of true line.word from
  pure (s.Plain (p.Cast variables nodes line.word))

-- ---- gmove

-- A number of a section, and one that isn't written, which has the place of the side's name.
abbrev pub number_of : Expr → Run Number
number_of x = do
  t ← typed x
  pure (record { value = t.made; at = first_place x })

abbrev pub unwritten : ℕ → Place → Number
unwritten n at = record { value = e.Const (pos n) Int; at = at }

abbrev pub step_of : Place → Option (Place × Expr) → Run Number
step_of at None = pure (unwritten 1 at)
step_of at (Some x) = number_of x.1

abbrev pub part_with : Place → Number → Option (Place × Expr) → Option (Place × Expr) → Run Part
part_with at base None step = pure (part.One base)
part_with at base (Some x) step = do
  many ← number_of x.1
  by ← step_of at step
  pure (part.Many base many by)

abbrev pub part_of : ℕ → Place → Section → Run Part
part_of extent at (section.All colon) = pure (part.Many (unwritten 0 at) (unwritten extent at) (unwritten 1 at))
part_of extent at (section.Numbers first many step) = do
  base ← number_of first
  part_with at base many step

-- The parts of a side, each with the extent of its dimension.
abbrev pub first_extent : List ℕ → ℕ
first_extent [] = 1
first_extent (n ∷ ns) = n

abbrev pub parts_in : Place → List Part → List ℕ → List Section → Run (List Part)
parts_in at done extents [] = pure done
parts_in at done extents (x ∷ xs) = do
  part ← part_of (first_extent extents) at x
  parts_in at (done ++ part ∷ []) (drop 1 extents) xs

abbrev pub extents_of : ℕ → Run (List ℕ)
extents_of k = λ w. Gave (extents_in (slice_get w.names.arrays k)) w

abbrev pub no_side : named.Name → MoveSide
no_side n = side.Scalar (record { number = 0; at = n.at })

abbrev pub side_as : Sections → Option Meaning → Run MoveSide
side_as x (Some (Scalar slot ty)) = do
  _ ← judge (is_nothing x.sections) N3 x.name.at
  pure (side.Scalar (record { number = slot; at = x.name.at }))
side_as x (Some (Array k)) = do
  extents ← extents_of k
  _ ← judge (length x.sections == length extents) N3 x.name.at
  parts ← parts_in x.name.at [] extents (inner x.sections)
  pure (side.Array (record { number = k; at = x.name.at }) parts)
side_as x (Some _) = do
  _ ← judge false N3 x.name.at
  pure (no_side x.name)
side_as x None = do
  _ ← judge false N1 x.name.at
  pure (no_side x.name)

abbrev pub side_of : Sections → Run MoveSide
side_of x = do
  meaning ← meaning_of x.name
  side_as x meaning

-- A source with a section has as many sections as the target.
abbrev pub sections_match : ℕ → ℕ → Bool
sections_match target source = (source == 0) || (source == target)

abbrev pub gmove_of : DirectiveLine → Sections → Sections → Run made.Stmt
gmove_of line target source = do
  _ ← directive_at line.word
  a ← side_of target
  b ← side_of source
  _ ← judge (sections_match (sections_in a) (sections_in b)) N3 target.name.at
  pure (s.Plain (p.Gmove a b line.word))
