-- The lines of directives note what breaks at their spots.
use Rattle.std.proofs.Common.{◌≡◌, ◌∙◌, refl, sym, ap, subst, ◌++◌, ◌∷◌, [], ℕ, List, Bool, true, false, not, ◌&&◌, ◌||◌, ◌==◌, Option, Some, None, is_some, length, map, flat_map, drop, slice_get, append_assoc, append-nil}
use Rattle.std.proofs.lemmas.List.Concat.{flat_map_single}
use Rattle.std.specs.Prelude.{ℤ, pos}
use Rattle.std.specs.List.{list_all}
use Rattle.std.specs.Option.{unwrap_or}
use Rattle.xmp_base.specs.declared.place.Place.{Place}
use Rattle.xmp_map.specs.declared.grid.NodeSet.{NodeSet}
use Rattle.xmp_prog.specs.declared.statements.Name as made_name
use Rattle.xmp_prog.specs.declared.statements.Reduction as made_reduction
use Rattle.xmp_prog.specs.declared.statements.Number.{Number}
use Rattle.xmp_prog.specs.declared.statements.Part.{Part}
use Rattle.xmp_prog.specs.declared.statements.Part.TheVariants as part
use Rattle.xmp_prog.specs.declared.statements.MoveSide.{MoveSide}
use Rattle.xmp_prog.specs.declared.statements.MoveSide.TheVariants as side
use Rattle.xmp_prog.specs.declared.statements.Plain.TheVariants as p
use Rattle.xmp_prog.specs.declared.statements.Stmt.TheVariants as s
use Rattle.xmp_prog.specs.Directives.{sections_in}
use Rattle.xmp_lex.specs.declared.token.Mark.{Mark}
use Rattle.xmp_syntax.specs.declared.parts.Name as named
use Rattle.xmp_syntax.specs.declared.parts.Placed.{Placed}
use Rattle.xmp_syntax.specs.declared.parts.Inside.{Inside}
use Rattle.xmp_syntax.specs.declared.parts.CommaList.{CommaList}
use Rattle.xmp_syntax.specs.declared.expression.Expr.{Expr}
use Rattle.xmp_syntax.specs.declared.directive.DirectiveLine.{DirectiveLine}
use Rattle.xmp_syntax.specs.declared.directive.Point.{Point}
use Rattle.xmp_syntax.specs.declared.directive.Point.TheVariants as point
use Rattle.xmp_syntax.specs.declared.directive.Section.{Section}
use Rattle.xmp_syntax.specs.declared.directive.Section.TheVariants as section
use Rattle.xmp_syntax.specs.declared.directive.Sections.{Sections}
use Rattle.xmp_syntax.specs.declared.directive.Piece.{Piece}
use Rattle.xmp_syntax.specs.declared.directive.Piece.TheVariants as piece
use Rattle.xmp_syntax.specs.declared.directive.NodesSet.{NodesSet}
use Rattle.xmp_syntax.specs.declared.directive.Reduction.{Reduction}
use Rattle.xmp_syntax.specs.declared.directive.LoopLine.{LoopLine}
use Rattle.xmp_syntax.specs.declared.directive.TaskLine.{TaskLine}
use Rattle.xmp_scopes.specs.Names.{nearest}
use Rattle.xmp_names.specs.declared.names.Meaning.{Meaning}
use Rattle.xmp_names.specs.declared.names.Meaning.TheVariants as m
use Rattle.xmp_names.specs.declared.mappings.Notation.{Notation}
use Rattle.xmp_names.specs.declared.rules.Rule.TheVariants.{N1, N3, N5, M7, M8, M9}
use Rattle.xmp_names.specs.declared.world.World.{World}
use Rattle.xmp_names.specs.Rules.{unless}
use Rattle.xmp_names.specs.Expressions.{is_nothing, may_name}
use Rattle.xmp_names.specs.Lists.{listed, inner, parts, notation}
use Rattle.xmp_names.specs.Sizes.{extents_in, given_or_one, limited}
use Rattle.xmp_names.specs.Walk as walk
use Rattle.xmp_names.specs.Walk.{Gave, Run, first_place, a_scalar, an_int_scalar, an_array, a_nodes, a_template}
use Rattle.xmp_directives.specs.declared.loop_lines.LoopParts.{LoopParts}
use Rattle.xmp_directives.specs.Directives as directives
use Rattle.xmp_directives.specs.Directives.{signed, slot_or_zero, names_or, slots_of_points, operation_of, Nest, loop_right, is_indexed, made_loop, nodes_from, sizes_in, ranges, is_one, ranges_right, box_of, share, unwritten, first_extent, no_side, sections_match, template_takes, nodes_take, lowers_in}
use Rattle.xmp_rules.specs.Scopes as scopes
use Rattle.xmp_rules.specs.Scopes.{Declared, Context, meaning}
use Rattle.xmp_rules.specs.Spots.{Use, AScalar, AnIndex, AnArray, SomeNodes, ATemplate, ASide, Points, Pieces, What, Used, Formed, Sides, Directive, of_expr, constant, behind, of_offset, of_point, of_names, of_loop_names, of_loop, of_piece, of_set, of_task, of_section, sections_of, of_side}
use Rattle.xmp_rules.proofs.Kept.{kept, behind_none, behind_all, three}
use Rattle.xmp_rules.proofs.Standing.{Stands, SameOption, same_meaning, found}
use Rattle.xmp_rules.proofs.Expressions.{name_found}
use Rattle.xmp_rules.proofs.Telling.{Ends, ends_map, Added, added_none, Tells, tells_then, Telling, ◌>>=◌, ended, pure, known, skipped_by, unheard_by, asked, typed, constant_of, each, by_meaning, name_of, directive_at}

-- The same spots in another form.
pub same_tells : {A : Type 0} (xs ys : Context → List What) (run : Run A) → ((c : Context) → xs c ≡ ys c) → Tells xs run → Tells ys run
same_tells xs ys run h k = record { at = λ w c s. subst (λ l. Ends (λ a v. Added w v (found c l)) (run w)) (h c) (k.at w c s) }

-- ---- names and constants

abbrev pub scalar_name : (n : named.Name) → Telling (λ c. Used n AScalar ∷ []) made_name.Name
scalar_name n = ended (name_of AScalar a_scalar n (λ b. refl) (λ c. refl)) (λ scalar. record { number = slot_or_zero scalar; at = n.at })

abbrev pub index_name : (n : named.Name) → Telling (λ c. Used n AnIndex ∷ []) ℕ
index_name n = ended (name_of AnIndex an_int_scalar n (λ b. refl) (λ c. refl)) (λ slot. unwrap_or slot 0)

abbrev pub array_name : (n : named.Name) → Telling (λ c. Used n AnArray ∷ []) made_name.Name
array_name n = ended (name_of AnArray an_array n (λ b. refl) (λ c. refl)) (λ number. record { number = unwrap_or number 0; at = n.at })

-- A list of names, each used as one kind.
abbrev pub names_as : {B : Type 0} (u : Use) (f : (n : named.Name) → Telling (λ c. Used n u ∷ []) B) (l : CommaList named.Name) → Telling (λ c. of_names u l) (List B)
names_as u f l = record {
  run = walk.each (λ n. (f n).run) (listed l);
  tells = same_tells (λ c. flat_map (λ n. Used n u ∷ []) (listed l)) (λ c. of_names u l) (walk.each (λ n. (f n).run) (listed l)) (λ c. flat_map_single (λ n. Used n u) (listed l)) (each (λ n. Used n u ∷ []) f (listed l)).tells;
}

pub offset_tells : (x : Option (Placed Mark × Expr)) → Tells (λ c. of_offset x) (directives.offset_of x)
offset_tells None = (pure (pos 0)).tells
offset_tells (Some x) = (ended (constant_of x.1) (λ c. signed x.0.what (limited c))).tells

pub second_tells : (x : Option (Place × Expr)) → Tells (λ c. behind constant x) (directives.second_of x)
second_tells None = (pure None).tells
second_tells (Some x) = (ended (constant_of x.1) (λ y. Some y)).tells

-- ---- loop

pub point_tells : (x : Point) → Tells (λ c. of_point x) (directives.point_of x)
point_tells (point.Star at) = (pure None).tells
point_tells (point.Index n offset) = (do
  slot ← index_name n
  ended (known {ws = λ c. of_offset offset} (directives.offset_of offset) (offset_tells offset)) (λ c. Some (slot, c))).tells

pub loop_names_tells : (x : Option (Inside (CommaList named.Name))) → Tells (λ c. of_loop_names x) (walk.if_there directives.name_list x)
loop_names_tells None = (pure None).tells
loop_names_tells (Some l) = (ended (names_as AnIndex index_name l.item) (λ y. Some y)).tells

pub reductions_tells : (done : List made_reduction.Reduction) (rs : List Reduction) → Tells (λ c. flat_map (λ r. of_names AScalar r.list.item.2) rs) (directives.reductions_of done rs)
reductions_tells done [] = (pure done).tells
reductions_tells done (r ∷ rs) =
    tells_then (λ c. of_names AScalar r.list.item.2) (λ c. flat_map (λ r. of_names AScalar r.list.item.2) rs) (walk.each (directives.reduction_name (operation_of r.list.item.0)) (listed r.list.item.2)) (λ more. directives.reductions_of (done ++ more) rs)
    (names_as AScalar (λ n. ended (scalar_name n) (λ variable. record { op = operation_of r.list.item.0; variable = variable })) r.list.item.2).tells
    (λ more. reductions_tells (done ++ more) rs)

pub lowers_tells : (k : Option ℕ) → Tells (λ c. []) (directives.lowers_of k)
lowers_tells None = (pure []).tells
lowers_tells (Some k) = (asked (λ w. lowers_in (slice_get w.mappings.templates k))).tells

-- (What is counted in the checker and at the spot is nothing that is looked at.)
pub match_any : (k : Option ℕ) (t : named.Name) (written : Notation) (count many : ℕ) → Tells (λ c. Formed t (Points written many) ∷ []) (directives.match_template k written count t.at)
match_any None t written count many = record { at = λ w c s. added_none w }
match_any (Some k) t written count many = skipped_by (Formed t (Points written many)) (λ w. template_takes written count (slice_get w.mappings.templates k)) N3 t.at refl (λ c. refl)

pub loop_line_tells : (l : LoopLine) → Tells (λ c. of_loop l) (directives.loop_line l)
loop_line_tells l =
    same_tells _ (λ c. of_loop l) (directives.loop_line l)
    (λ c. ap (λ z. Directive l.line.word ∷ (of_loop_names l.names ++ (Used l.template ATemplate ∷ z)))
    (sym (append_assoc (flat_map of_point (parts l.points)) (Formed l.template (Points (notation l.points) (length (parts l.points))) ∷ []) (flat_map (λ r. of_names AScalar r.list.item.2) l.reductions))))
    (do
      _ ← directive_at l.line.word
      names ← known {ws = λ c. of_loop_names l.names} (walk.if_there directives.name_list l.names) (loop_names_tells l.names)
      template ← name_of ATemplate a_template l.template (λ b. refl) (λ c. refl)
      points ← each of_point (λ x. known {ws = λ c. of_point x} (directives.point_of x) (point_tells x)) (parts l.points)
      _ ← known {ws = λ c. Formed l.template (Points (notation l.points) (length (parts l.points))) ∷ []} (directives.match_template template (notation l.points) (length points) l.template.at) (match_any template l.template (notation l.points) (length points) (length (parts l.points)))
      lowers ← known {ws = λ c. []} (directives.lowers_of template) (lowers_tells template)
      ended (known {ws = λ c. flat_map (λ r. of_names AScalar r.list.item.2) l.reductions} (directives.reductions_of [] l.reductions) (reductions_tells [] l.reductions))
          (λ reductions. record { template = template; lowers = lowers; points = points; names = names_or names (slots_of_points points); reductions = reductions })).tells

use_tells : (k : Option ℕ) (at : Place) (indexed : List Bool) → Tells (λ c. []) (directives.use_template k at indexed)
use_tells None at indexed = (pure tt).tells
use_tells (Some k) at indexed = record { at = λ w c s. record { names = refl; broken = sym (append-nil (kept w.broken)) } }

pub judged_loop_tells : (word : Place) (l : LoopParts) (nest : Nest) → Tells (λ c. []) (directives.judged_loop word l nest)
judged_loop_tells word l nest = (do
  _ ← known {ws = λ c. []} (walk.judge (loop_right l.names l.points nest.0) M7 word) (unheard_by (λ w. loop_right l.names l.points nest.0) M7 word refl)
  ended (known {ws = λ c. []} (directives.use_template l.template word (map is_indexed l.points)) (use_tells l.template word (map is_indexed l.points))) (λ _. made_loop l nest word)).tells

-- ---- sets of nodes and tasks

pub piece_tells : (written : Notation) (x : Piece) → Tells (λ c. of_piece x) (directives.piece_of written x)
piece_tells written (piece.All at) = (pure None).tells
piece_tells written (piece.Numbers first second) = (do
  b ← constant_of first
  ended (known {ws = λ c. behind constant second} (directives.second_of second) (second_tells second)) (λ x. Some (nodes_from written b x))).tells

nodes_tells : (k : Option ℕ) (n : named.Name) (written : Notation) (count many : ℕ) → Tells (λ c. Formed n (Pieces written many) ∷ []) (directives.match_nodes k written count n.at)
nodes_tells None n written count many = record { at = λ w c s. added_none w }
nodes_tells (Some k) n written count many = skipped_by (Formed n (Pieces written many)) (λ w. (count == 0) || nodes_take written count (slice_get w.mappings.nodes k)) N3 n.at refl (λ c. refl)

sizes_tells : (k : Option ℕ) → Tells (λ c. []) (directives.nodes_sizes k)
sizes_tells None = (pure []).tells
sizes_tells (Some k) = (asked (λ w. sizes_in (given_or_one w) (slice_get w.mappings.nodes k))).tells

judged_set_tells : (one_node : Bool) (word : Place) (k : Option ℕ) (pieces : List (Option (ℤ × ℤ))) → Tells (λ c. []) (directives.judged_set one_node word k pieces)
judged_set_tells one_node word k pieces = (do
  sizes ← known {ws = λ c. []} (directives.nodes_sizes k) (sizes_tells k)
  ended (known {ws = λ c. []} (walk.judge (ranges_right sizes (ranges sizes pieces) && (not one_node || is_one (ranges sizes pieces))) M8 word) (unheard_by (λ w. ranges_right sizes (ranges sizes pieces) && (not one_node || is_one (ranges sizes pieces))) M8 word refl))
      (λ _. box_of sizes (ranges sizes pieces))).tells

pub set_tells : (one_node : Bool) (word : Place) (x : NodesSet) → Tells (λ c. of_set x) (directives.set_of one_node word x)
set_tells one_node word x = (do
  number ← name_of SomeNodes a_nodes x.name (λ b. refl) (λ c. refl)
  pieces ← each of_piece (λ y. known {ws = λ c. of_piece y} (directives.piece_of (notation x.pieces) y) (piece_tells (notation x.pieces) y)) (parts x.pieces)
  _ ← known {ws = λ c. Formed x.name (Pieces (notation x.pieces) (length (parts x.pieces))) ∷ []} (directives.match_nodes number (notation x.pieces) (length pieces) x.name.at) (nodes_tells number x.name (notation x.pieces) (length pieces) (length (parts x.pieces)))
  known {ws = λ c. []} (directives.judged_set one_node word number pieces) (judged_set_tells one_node word number pieces)).tells

pub task_tells : (before : List NodeSet) (l : TaskLine) → Tells (λ c. of_task l) (directives.task_line before l)
task_tells before l = same_tells _ (λ c. of_task l) (directives.task_line before l) (λ c. ap (λ z. Directive l.line.word ∷ z) (append-nil (of_set l.set))) (do
  _ ← directive_at l.line.word
  nodes ← known {ws = λ c. of_set l.set} (directives.set_of false l.line.word l.set) (set_tells false l.line.word l.set)
  ended (known {ws = λ c. []} (walk.judge (list_all (λ other. not (share other nodes)) before) M9 l.line.word) (unheard_by (λ w. list_all (λ other. not (share other nodes)) before) M9 l.line.word refl)) (λ _. nodes)).tells

-- ---- reflect, barrier, bcast

pub reflect_tells : (line : DirectiveLine) (names : CommaList named.Name) → Tells (λ c. Directive line.word ∷ of_names AnArray names) (directives.reflect_of line names)
reflect_tells line names = (do
  _ ← directive_at line.word
  ended (names_as AnArray array_name names) (λ arrays. s.Plain (p.Reflect arrays line.word))).tells

pub barrier_tells : (line : DirectiveLine) → Tells (λ c. Directive line.word ∷ []) (directives.barrier_of line)
barrier_tells line = (ended (directive_at line.word) (λ _. s.Plain (p.Barrier line.word))).tells

pub bcast_tells : (line : DirectiveLine) (names : CommaList named.Name) (from : NodesSet) → Tells (λ c. Directive line.word ∷ (of_names AScalar names ++ of_set from)) (directives.bcast_of line names from)
bcast_tells line names from = (do
  _ ← directive_at line.word
  variables ← names_as AScalar scalar_name names
  ended (known {ws = λ c. of_set from} (directives.set_of true line.word from) (set_tells true line.word from)) (λ nodes. s.Plain (p.Cast variables nodes line.word))).tells

-- ---- gmove

abbrev number_of : (x : Expr) → Telling (λ c. of_expr x) Number
number_of x = ended (typed x) (λ t. record { value = t.made; at = first_place x })

step_tells : (at : Place) (x : Option (Place × Expr)) → Tells (λ c. behind of_expr x) (directives.step_of at x)
step_tells at None = (pure (unwritten 1 at)).tells
step_tells at (Some x) = (number_of x.1).tells

section_tells : (extent : ℕ) (at : Place) (x : Section) → Tells (λ c. of_section x) (directives.part_of extent at x)
section_tells extent at (section.All colon) = (pure (part.Many (unwritten 0 at) (unwritten extent at) (unwritten 1 at))).tells
section_tells extent at (section.Numbers first None step) = (ended (number_of first) (λ base. part.One base)).tells
section_tells extent at (section.Numbers first (Some x) step) = (do
  base ← number_of first
  many ← number_of x.1
  ended (known {ws = λ c. behind of_expr step} (directives.step_of at step) (step_tells at step)) (λ by. part.Many base many by)).tells

sections_tells : (at : Place) (done : List Part) (extents : List ℕ) (xs : List Section) → Tells (λ c. flat_map of_section xs) (directives.parts_in at done extents xs)
sections_tells at done extents [] = (pure done).tells
sections_tells at done extents (x ∷ xs) =
    tells_then (λ c. of_section x) (λ c. flat_map of_section xs) (directives.part_of (first_extent extents) at x) (λ part. directives.parts_in at (done ++ part ∷ []) (drop 1 extents) xs)
    (section_tells (first_extent extents) at x) (λ part. sections_tells at (done ++ part ∷ []) (drop 1 extents) xs)

array_side : (x : Sections) (k : ℕ) → Tells (λ c. flat_map of_section (inner x.sections)) (directives.side_as x (Some (m.Array k)))
array_side x k = (do
  extents ← asked (λ w. extents_in (slice_get w.names.arrays k))
  _ ← known {ws = λ c. []} (walk.judge (length x.sections == length extents) N3 x.name.at) (unheard_by (λ w. length x.sections == length extents) N3 x.name.at refl)
  ended (known {ws = λ c. flat_map of_section (inner x.sections)} (directives.parts_in x.name.at [] extents (inner x.sections)) (sections_tells x.name.at [] extents (inner x.sections))) (λ parts. side.Array (record { number = k; at = x.name.at }) parts)).tells

no_more : (v : World) (test : Bool) (at : Place) → kept (v.broken ++ unless test N3 at) ≡ kept v.broken ++ []
no_more v test at = behind_none v.broken test N3 at refl ∙ sym (append-nil (kept v.broken))

side_ends : (x : Sections) (c : Context) (k : Option Meaning) (d : Option Declared) → SameOption k d → (v : World) → Stands v.names c →
    Ends (λ b u. Added v u (unless (is_some k) N1 x.name.at ++ found c (sections_of d x))) (directives.side_as x k v)
side_ends x c None None h v s = record { names = refl; broken = behind_all v.broken false N1 x.name.at refl }
side_ends x c None (Some d) h v s = absurd h
side_ends x c (Some k) None h v s = absurd h
side_ends x c (Some (m.Scalar slot ty)) (Some (scopes.Scalar tz)) h v s = record { names = refl; broken = no_more v (is_nothing x.sections) x.name.at }
side_ends x c (Some (m.Array k)) (Some (scopes.Array ty n b)) h v s = (array_side x k).at v c s
side_ends x c (Some (m.Nodes k)) (Some (scopes.Nodes written n)) h v s = record { names = refl; broken = no_more v false x.name.at }
side_ends x c (Some (m.Template k)) (Some (scopes.Template written n)) h v s = record { names = refl; broken = no_more v false x.name.at }
side_ends x c (Some (m.Function k ty)) (Some (scopes.Function j n tz depth)) h v s = record { names = refl; broken = no_more v false x.name.at }
side_ends x c (Some (m.Scalar slot ty)) (Some (scopes.Array _ _ _)) h v s = absurd h
side_ends x c (Some (m.Scalar slot ty)) (Some (scopes.Nodes _ _)) h v s = absurd h
side_ends x c (Some (m.Scalar slot ty)) (Some (scopes.Template _ _)) h v s = absurd h
side_ends x c (Some (m.Scalar slot ty)) (Some (scopes.Function _ _ _ _)) h v s = absurd h
side_ends x c (Some (m.Array k)) (Some (scopes.Scalar _)) h v s = absurd h
side_ends x c (Some (m.Array k)) (Some (scopes.Nodes _ _)) h v s = absurd h
side_ends x c (Some (m.Array k)) (Some (scopes.Template _ _)) h v s = absurd h
side_ends x c (Some (m.Array k)) (Some (scopes.Function _ _ _ _)) h v s = absurd h
side_ends x c (Some (m.Nodes k)) (Some (scopes.Scalar _)) h v s = absurd h
side_ends x c (Some (m.Nodes k)) (Some (scopes.Array _ _ _)) h v s = absurd h
side_ends x c (Some (m.Nodes k)) (Some (scopes.Template _ _)) h v s = absurd h
side_ends x c (Some (m.Nodes k)) (Some (scopes.Function _ _ _ _)) h v s = absurd h
side_ends x c (Some (m.Template k)) (Some (scopes.Scalar _)) h v s = absurd h
side_ends x c (Some (m.Template k)) (Some (scopes.Array _ _ _)) h v s = absurd h
side_ends x c (Some (m.Template k)) (Some (scopes.Nodes _ _)) h v s = absurd h
side_ends x c (Some (m.Template k)) (Some (scopes.Function _ _ _ _)) h v s = absurd h
side_ends x c (Some (m.Function k ty)) (Some (scopes.Scalar _)) h v s = absurd h
side_ends x c (Some (m.Function k ty)) (Some (scopes.Array _ _ _)) h v s = absurd h
side_ends x c (Some (m.Function k ty)) (Some (scopes.Nodes _ _)) h v s = absurd h
side_ends x c (Some (m.Function k ty)) (Some (scopes.Template _ _)) h v s = absurd h

pub side_tells : (x : Sections) → Tells (λ c. of_side c x) (directives.side_of x)
side_tells x = by_meaning x.name (directives.side_as x) (λ c. of_side c x) (λ w v c s same k.
    ends_map (λ (b : MoveSide) u. Added v u (unless (is_some (nearest x.name.text w.names.scopes)) N1 x.name.at ++ found c (sections_of (meaning c x.name.text) x))) (λ (b : MoveSide) u. Added w u (found c (of_side c x)))
    (directives.side_as x (nearest x.name.text w.names.scopes) v)
    (side_ends x c (nearest x.name.text w.names.scopes) (meaning c x.name.text) (same_meaning w.names c s x.name) v (subst (λ e. Stands e c) (sym same) s))
    (λ b u e. record {
      names = e.names ∙ same;
      broken = three (kept w.broken) (kept v.broken) (kept u.broken) _ _ k e.broken ∙ ap (λ l. kept w.broken ++ l)
          (sym (append_assoc (unless (may_name w.names x.name (nearest x.name.text w.names.scopes)) N5 x.name.at) (unless (is_some (nearest x.name.text w.names.scopes)) N1 x.name.at) (found c (sections_of (meaning c x.name.text) x)))
          ∙ ap (λ l. l ++ found c (sections_of (meaning c x.name.text) x)) (name_found w.names c s x.name (ASide (length x.sections)) (λ b. refl) refl));
    }))

pub gmove_tells : (line : DirectiveLine) (target source : Sections) → Tells (λ c. Directive line.word ∷ (of_side c target ++ (of_side c source ++ Sides target source ∷ []))) (directives.gmove_of line target source)
gmove_tells line target source = (do
  _ ← directive_at line.word
  a ← known {ws = λ c. of_side c target} (directives.side_of target) (side_tells target)
  b ← known {ws = λ c. of_side c source} (directives.side_of source) (side_tells source)
  ended (known {ws = λ c. Sides target source ∷ []} (walk.judge (sections_match (sections_in a) (sections_in b)) N3 target.name.at) (skipped_by (Sides target source) (λ w. sections_match (sections_in a) (sections_in b)) N3 target.name.at refl (λ c. refl)))
      (λ _. s.Plain (p.Gmove a b line.word))).tells
