-- Statements and directives with no statement inside respect a relation that the single steps respect.
use Rattle.std.proofs.Common.{◌++◌, ◌∷◌, [], ℕ, List, Bool, true, false, Option, Some, None, length, map}
use Rattle.std.specs.Prelude.{⊤, ℤ, not, ◌&&◌, ◌||◌, ◌==◌, slice_get, drop}
use Rattle.std.specs.Option.{unwrap_or}
use Rattle.std.specs.List.{list_all}
use Rattle.xmp_base.specs.declared.place.Place.{Place}
use Rattle.xmp_num.specs.declared.types.Ty.TheVariants.{Int}
use Rattle.xmp_num.specs.declared.types.RedOp.{RedOp}
use Rattle.xmp_map.specs.declared.grid.NodeSet.{NodeSet}
use Rattle.xmp_prog.specs.declared.statements.Name as made_name
use Rattle.xmp_prog.specs.declared.statements.Reduction as made_reduction
use Rattle.xmp_prog.specs.declared.statements.Number.{Number}
use Rattle.xmp_prog.specs.declared.statements.Part.{Part}
use Rattle.xmp_prog.specs.declared.statements.Part.TheVariants as part
use Rattle.xmp_prog.specs.declared.statements.MoveSide.{MoveSide}
use Rattle.xmp_prog.specs.declared.statements.MoveSide.TheVariants as side
use Rattle.xmp_prog.specs.declared.statements.Plain.TheVariants as p
use Rattle.xmp_prog.specs.declared.statements.Stmt as made
use Rattle.xmp_prog.specs.declared.statements.Stmt.TheVariants as s
use Rattle.xmp_prog.specs.Directives.{sections_in}
use Rattle.xmp_syntax.specs.declared.parts.Name as named
use Rattle.xmp_syntax.specs.declared.parts.Format.{Format}
use Rattle.xmp_syntax.specs.declared.parts.Next.{Next}
use Rattle.xmp_syntax.specs.declared.parts.Reference.{Reference}
use Rattle.xmp_syntax.specs.declared.parts.Inside.{Inside}
use Rattle.xmp_syntax.specs.declared.parts.CommaList.{CommaList}
use Rattle.xmp_syntax.specs.declared.expression.Expr.{Expr}
use Rattle.xmp_syntax.specs.declared.directive.DirectiveLine.{DirectiveLine}
use Rattle.xmp_syntax.specs.declared.directive.Point.{Point}
use Rattle.xmp_syntax.specs.declared.directive.Point.TheVariants as point
use Rattle.xmp_syntax.specs.declared.directive.Section.{Section}
use Rattle.xmp_syntax.specs.declared.directive.Section.TheVariants as section
use Rattle.xmp_syntax.specs.declared.directive.Sections.{Sections}
use Rattle.xmp_syntax.specs.declared.directive.Piece.{Piece}
use Rattle.xmp_syntax.specs.declared.directive.Piece.TheVariants as piece
use Rattle.xmp_syntax.specs.declared.directive.NodesSet.{NodesSet}
use Rattle.xmp_syntax.specs.declared.directive.Reduction.{Reduction}
use Rattle.xmp_syntax.specs.declared.directive.LoopLine.{LoopLine}
use Rattle.xmp_syntax.specs.declared.directive.TaskLine.{TaskLine}
use Rattle.xmp_syntax.specs.declared.statement.Simple.{Simple}
use Rattle.xmp_syntax.specs.declared.statement.Simple.TheVariants as simple
use Rattle.xmp_syntax.specs.declared.statement.ForFirst.{ForFirst}
use Rattle.xmp_syntax.specs.declared.statement.ForFirst.TheVariants as for_first
use Rattle.xmp_syntax.specs.declared.statement.ForHead.{ForHead}
use Rattle.xmp_syntax.specs.declared.statement.Plain.{Plain}
use Rattle.xmp_syntax.specs.declared.statement.Plain.TheVariants as plain
use Rattle.xmp_names.specs.declared.names.Meaning.{Meaning}
use Rattle.xmp_names.specs.declared.names.Meaning.TheVariants as meaning
use Rattle.xmp_walk.specs.declared.loops.First.{First}
use Rattle.xmp_walk.specs.declared.loops.ForParts.{ForParts}
use Rattle.xmp_directives.specs.declared.loop_lines.LoopParts.{LoopParts}
use Rattle.xmp_names.specs.declared.rules.Rule.TheVariants.{N1, N3, N4, N6, N7, M7, M8, M9}
use Rattle.xmp_names.specs.declared.typed.Operand.{Operand}
use Rattle.xmp_names.specs.Walk.{first_place, is_known, is_main, a_scalar, an_int_scalar, an_array, a_nodes, a_template}
use Rattle.xmp_names.specs.Expressions.{is_nothing}
use Rattle.xmp_names.specs.Formats.{fits_format, is_scan_format}
use Rattle.xmp_names.specs.declared.mappings.Notation.{Notation}
use Rattle.xmp_names.specs.Lists.{listed, inner, parts, notation}
use Rattle.xmp_walk.specs.Statements as statements
use Rattle.xmp_walk.specs.Statements.{set, compound_of, one, call_statement, target_of, target_name, is_scalar_target, index_of, first_part}
use Rattle.xmp_directives.specs.Directives as directives
use Rattle.xmp_directives.specs.Directives.{slot_or_zero, signed, names_or, slots_of_points, operation_of, Nest, loop_right, is_indexed, made_loop, nodes_from, sizes_in, ranges, is_one, ranges_right, box_of, share, unwritten, first_extent, no_side, sections_match}
use Rattle.xmp_names.specs.Sizes.{given_or_one, extents_in}
use Rattle.xmp_walk.specs.Program as program
use Rattle.xmp_names.specs.declared.world.World.{World}
use Rattle.xmp_fits.proofs.Laters.{begins_refl, begins_with}
use Rattle.xmp_fits.proofs.Respected.{Keeps, Respected, OfScalars, Going, ◌>>=◌, known, pure, each, if_there}
use Rattle.xmp_fits.proofs.RespectedSteps.{judge, asked, region_of, typed, typed_reference, typed_call, typed_all, constant, declare_scalar, meaning_of, name_of, directive_at, not_in_function}
use Rattle.xmp_fits.proofs.RespectedLines.{offset_of, lowers_of, match_nodes, match_template}

module _ {K : World → World → Type 0} (R : Respected K) where
  -- ---- assignments, calls, `return`, `printf`, `scanf`, `xmp_sync_all`

  pub simple_kept : (x : Simple) → Keeps K (statements.simple_of x)
  simple_kept (simple.Assign r op x) = (do
    t ← typed_reference R r
    v ← typed R x
    pure R (set (compound_of op.what) op.at t v)).kept
  simple_kept (simple.Postfix r op) = (do
    t ← typed_reference R r
    pure R (set (compound_of op.what) op.at t one)).kept
  simple_kept (simple.Prefix op r) = (do
    t ← typed_reference R r
    pure R (set (compound_of op.what) op.at t one)).kept
  simple_kept (simple.Call c) = (do
    t ← typed_call R c
    pure R (call_statement t.made)).kept

  abbrev pub simple_of : Simple → Going R made.Stmt
  simple_of x = record { run = statements.simple_of x; kept = simple_kept x }

  abbrev pub returned : Expr → Going R Operand
  returned x = do
    where_it_is ← region_of R
    t ← typed R x
    _ ← judge R (not (is_main where_it_is) || is_known t.value) N4 (first_place x)
    pure R t

  abbrev pub return_of : Bool → Place → Expr → Going R made.Stmt
  return_of is_last at x = do
    where_it_is ← region_of R
    _ ← judge R (not (is_main where_it_is) || is_last) N7 at
    t ← returned x
    pure R (s.Plain (p.Return t.made))

  pub return_kept : (is_last : Bool) (at : Place) (x : Expr) → Keeps K (statements.return_of is_last at x)
  return_kept is_last at x = (return_of is_last at x).kept

  abbrev pub print_of : Place → Format → List (Next Expr) → Going R made.Stmt
  print_of at format arguments = do
    _ ← not_in_function R at
    ps ← typed_all R arguments
    _ ← judge R (fits_format format.text ps.types) N6 format.at
    pure R (s.Plain (p.Print format.text ps.made at))

  abbrev pub scan_of : Place → Format → Reference Expr → Going R made.Stmt
  scan_of at format r = do
    _ ← not_in_function R at
    t ← typed_reference R r
    _ ← judge R (is_scan_format format.text t.ty) N6 format.at
    pure R (s.Plain (p.Scan (target_of t.made) at))

  abbrev pub sync_of : Place → Reference Expr → Going R made.Stmt
  sync_of at r = do
    known ← asked R (λ w. w.names.coarray)
    _ ← judge R known N1 at
    _ ← not_in_function R at
    t ← typed_reference R r
    _ ← judge R (is_scalar_target (target_of t.made)) N3 r.name.at
    pure R (s.Plain (p.Sync (target_name (target_of t.made)) at))

  -- ---- the head of a `for`

  pub first_kept : OfScalars K → (x : ForFirst) → Keeps K (statements.first_of x)
  first_kept d (for_first.Assign r at x) = (do
    t ← typed_reference R r
    v ← typed R x
    pure R (first_part [] x t v)).kept
  first_kept d (for_first.Declare at n equals x) = (do
    slot ← declare_scalar R d n Int
    t ← typed_reference R (index_of n)
    v ← typed R x
    pure R (first_part (s.Plain (p.Declare slot None n.at) ∷ []) x t v)).kept

  abbrev pub first_of : OfScalars K → ForFirst → Going R First
  first_of d x = record { run = statements.first_of x; kept = first_kept d x }

  -- The parts of a `for`, in the scope that it opens.
  abbrev pub head_parts : OfScalars K → ForHead → Going R ForParts
  head_parts d h = do
    first ← if_there R (first_of d) h.first
    test ← if_there R (typed R) h.test
    next ← if_there R simple_of h.next
    pure R (record { first = first; test = test; next = next })

  -- ---- names and points

  abbrev pub scalar_name : named.Name → Going R made_name.Name
  scalar_name n = do
    scalar ← name_of R a_scalar n
    pure R (record { number = slot_or_zero scalar; at = n.at })

  abbrev pub index_name : named.Name → Going R ℕ
  index_name n = do
    slot ← name_of R an_int_scalar n
    pure R (unwrap_or slot 0)

  abbrev pub array_name : named.Name → Going R made_name.Name
  array_name n = do
    number ← name_of R an_array n
    pure R (record { number = unwrap_or number 0; at = n.at })

  pub point_kept : (x : Point) → Keeps K (directives.point_of x)
  point_kept (point.Star at) = (pure R None).kept
  point_kept (point.Index n offset) = (do
    slot ← index_name n
    c ← offset_of R offset
    pure R (Some (slot, c))).kept

  abbrev pub point_of : Point → Going R (Option (ℕ × ℤ))
  point_of x = record { run = directives.point_of x; kept = point_kept x }

  abbrev pub name_list : Inside (CommaList named.Name) → Going R (List ℕ)
  name_list l = each R index_name (listed l.item)

  abbrev pub reduction_name : RedOp → named.Name → Going R made_reduction.Reduction
  reduction_name op n = do
    variable ← scalar_name n
    pure R (record { op = op; variable = variable })

  pub reductions_kept : (done : List made_reduction.Reduction) (rs : List Reduction) → Keeps K (directives.reductions_of done rs)
  reductions_kept done [] = (pure R done).kept
  reductions_kept done (r ∷ rs) = (do
    more ← each R (reduction_name (operation_of r.list.item.0)) (listed r.list.item.2)
    record { run = directives.reductions_of (done ++ more) rs; kept = reductions_kept (done ++ more) rs }).kept

  abbrev pub reductions_of : List made_reduction.Reduction → List Reduction → Going R (List made_reduction.Reduction)
  reductions_of done rs = record { run = directives.reductions_of done rs; kept = reductions_kept done rs }

  -- ---- the loop directive

  pub use_kept : (t : Option ℕ) (at : Place) (indexed : List Bool) → Keeps K (directives.use_template t at indexed)
  use_kept None at indexed = record { at = R.same }
  use_kept (Some k) at indexed = record {
    at = λ w.
        R.mapped w (record w.mappings { loops = w.mappings.loops ++ record { at = at; template = k; indexed = indexed } ∷ [] }) w.deepest w.broken
        (record { nodes = begins_refl w.mappings.nodes; templates = begins_refl w.mappings.templates; distributions = begins_refl w.mappings.distributions; aligns = begins_refl w.mappings.aligns; shadows = begins_refl w.mappings.shadows; loops = begins_with w.mappings.loops _ }) (begins_refl w.broken);
  }

  abbrev pub use_template : Option ℕ → Place → List Bool → Going R ⊤
  use_template t at indexed = record { run = directives.use_template t at indexed; kept = use_kept t at indexed }

  abbrev pub loop_line : LoopLine → Going R LoopParts
  loop_line line = do
    _ ← directive_at R line.line.word
    names ← if_there R name_list line.names
    template ← name_of R a_template line.template
    points ← each R point_of (parts line.points)
    _ ← match_template R template (notation line.points) (length points) line.template.at
    lowers ← lowers_of R template
    reductions ← reductions_of [] line.reductions
    pure R (record { template = template; lowers = lowers; points = points; names = names_or names (slots_of_points points); reductions = reductions })

  pub line_kept : (line : LoopLine) → Keeps K (directives.loop_line line)
  line_kept line = (loop_line line).kept

  abbrev pub judged_loop : Place → LoopParts → Nest → Going R made.Stmt
  judged_loop word l nest = do
    _ ← judge R (loop_right l.names l.points nest.0) M7 word
    _ ← use_template l.template word (map is_indexed l.points)
    pure R (made_loop l nest word)

  pub loop_kept : (word : Place) (l : LoopParts) (nest : Nest) → Keeps K (directives.judged_loop word l nest)
  loop_kept word l nest = (judged_loop word l nest).kept

  -- ---- sets of nodes

  abbrev pub second_of : Option (Place × Expr) → Going R (Option ℤ)
  second_of x = if_there R (λ y. constant R y.1) x

  pub piece_kept : (written : Notation) (x : Piece) → Keeps K (directives.piece_of written x)
  piece_kept written (piece.All at) = (pure R None).kept
  piece_kept written (piece.Numbers first second) = (do
    b ← constant R first
    x ← second_of second
    pure R (Some (nodes_from written b x))).kept

  pub sizes_kept : (k : Option ℕ) → Keeps K (directives.nodes_sizes k)
  sizes_kept None = (pure R []).kept
  sizes_kept (Some k) = (asked R (λ w. sizes_in (given_or_one w) (slice_get w.mappings.nodes k))).kept

  abbrev pub judged_set : Bool → Place → Option ℕ → List (Option (ℤ × ℤ)) → Going R NodeSet
  judged_set one_node word number pieces = do
    sizes ← record { run = directives.nodes_sizes number; kept = sizes_kept number }
    _ ← judge R (ranges_right sizes (ranges sizes pieces) && (not one_node || is_one (ranges sizes pieces))) M8 word
    pure R (box_of sizes (ranges sizes pieces))

  abbrev pub set_of : Bool → Place → NodesSet → Going R NodeSet
  set_of one_node word x = do
    number ← name_of R a_nodes x.name
    pieces ← each R (λ s. record { run = directives.piece_of (notation x.pieces) s; kept = piece_kept (notation x.pieces) s }) (parts x.pieces)
    _ ← match_nodes R number (notation x.pieces) (length pieces) x.name.at
    judged_set one_node word number pieces

  abbrev pub task_line : List NodeSet → TaskLine → Going R NodeSet
  task_line before line = do
    _ ← directive_at R line.line.word
    nodes ← set_of false line.line.word line.set
    _ ← judge R (list_all (λ other. not (share other nodes)) before) M9 line.line.word
    pure R nodes

  pub task_line_kept : (before : List NodeSet) (line : TaskLine) → Keeps K (directives.task_line before line)
  task_line_kept before line = (task_line before line).kept

  -- ---- reflect, barrier, bcast

  abbrev pub reflect_of : DirectiveLine → CommaList named.Name → Going R made.Stmt
  reflect_of line names = do
    _ ← directive_at R line.word
    arrays ← each R array_name (listed names)
    pure R (s.Plain (p.Reflect arrays line.word))

  abbrev pub barrier_of : DirectiveLine → Going R made.Stmt
  barrier_of line = do
    _ ← directive_at R line.word
    pure R (s.Plain (p.Barrier line.word))

  abbrev pub bcast_of : DirectiveLine → CommaList named.Name → NodesSet → Going R made.Stmt
  bcast_of line names from = do
    _ ← directive_at R line.word
    variables ← each R scalar_name (listed names)
    nodes ← set_of true line.word from
    pure R (s.Plain (p.Cast variables nodes line.word))

  -- ---- gmove

  abbrev pub number_of : Expr → Going R Number
  number_of x = do
    t ← typed R x
    pure R (record { value = t.made; at = first_place x })

  pub step_kept : (at : Place) (x : Option (Place × Expr)) → Keeps K (directives.step_of at x)
  step_kept at None = (pure R (unwritten 1 at)).kept
  step_kept at (Some x) = (number_of x.1).kept

  pub with_kept : (at : Place) (base : Number) (many step : Option (Place × Expr)) → Keeps K (directives.part_with at base many step)
  with_kept at base None step = (pure R (part.One base)).kept
  with_kept at base (Some x) step = (do
    many ← number_of x.1
    by ← record { run = directives.step_of at step; kept = step_kept at step }
    pure R (part.Many base many by)).kept

  pub part_kept : (extent : ℕ) (at : Place) (x : Section) → Keeps K (directives.part_of extent at x)
  part_kept extent at (section.All colon) = (pure R (part.Many (unwritten 0 at) (unwritten extent at) (unwritten 1 at))).kept
  part_kept extent at (section.Numbers first many step) = (do
    base ← number_of first
    record { run = directives.part_with at base many step; kept = with_kept at base many step }).kept

  pub parts_kept : (at : Place) (done : List Part) (extents : List ℕ) (xs : List Section) → Keeps K (directives.parts_in at done extents xs)
  parts_kept at done extents [] = (pure R done).kept
  parts_kept at done extents (x ∷ xs) = (do
    part ← known R (directives.part_of (first_extent extents) at x) (part_kept (first_extent extents) at x)
    record { run = directives.parts_in at (done ++ part ∷ []) (drop 1 extents) xs; kept = parts_kept at (done ++ part ∷ []) (drop 1 extents) xs }).kept

  pub side_as_kept : (x : Sections) (m : Option Meaning) → Keeps K (directives.side_as x m)
  side_as_kept x (Some (meaning.Scalar slot ty)) = (do
    _ ← judge R (is_nothing x.sections) N3 x.name.at
    pure R (side.Scalar (record { number = slot; at = x.name.at }))).kept
  side_as_kept x (Some (meaning.Array k)) = (do
    extents ← asked R (λ w. extents_in (slice_get w.names.arrays k))
    _ ← judge R (length x.sections == length extents) N3 x.name.at
    parts ← record { run = directives.parts_in x.name.at [] extents (inner x.sections); kept = parts_kept x.name.at [] extents (inner x.sections) }
    pure R (side.Array (record { number = k; at = x.name.at }) parts)).kept
  side_as_kept x (Some (meaning.Nodes k)) = (do
    _ ← judge R false N3 x.name.at
    pure R (no_side x.name)).kept
  side_as_kept x (Some (meaning.Template k)) = (do
    _ ← judge R false N3 x.name.at
    pure R (no_side x.name)).kept
  side_as_kept x (Some (meaning.Function k r)) = (do
    _ ← judge R false N3 x.name.at
    pure R (no_side x.name)).kept
  side_as_kept x None = (do
    _ ← judge R false N1 x.name.at
    pure R (no_side x.name)).kept

  abbrev pub side_of : Sections → Going R MoveSide
  side_of x = do
    m ← meaning_of R x.name
    record { run = directives.side_as x m; kept = side_as_kept x m }

  abbrev pub gmove_of : DirectiveLine → Sections → Sections → Going R made.Stmt
  gmove_of line target source = do
    _ ← directive_at R line.word
    a ← side_of target
    b ← side_of source
    _ ← judge R (sections_match (sections_in a) (sections_in b)) N3 target.name.at
    pure R (s.Plain (p.Gmove a b line.word))

  -- ---- all of them

  pub plain_kept : (x : Plain) → Keeps K (program.plain_of x)
  plain_kept (plain.Empty at) = (pure R (s.Block [])).kept
  plain_kept (plain.Simple x at) = simple_kept x
  plain_kept (plain.Return at x end) = return_kept false at x
  plain_kept (plain.Print at x end) = (print_of at x.item.0 x.item.1).kept
  plain_kept (plain.Scan at x end) = (scan_of at x.item.0 x.item.3).kept
  plain_kept (plain.Sync at x end) = (sync_of at x.item.1).kept
  plain_kept (plain.Reflect line names) = (reflect_of line names.item).kept
  plain_kept (plain.Barrier line) = (barrier_of line).kept
  plain_kept (plain.Bcast line names from_at set) = (bcast_of line names.item set).kept
  plain_kept (plain.Gmove line target equals source end) = (gmove_of line target source).kept
