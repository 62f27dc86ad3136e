-- A gmove: what is meant is found at every node, and each target's cell gets its source's value at its owner, or at each
-- node where the target isn't spread (XcalableMP 1.4, gmove construct).
use Rattle.std.specs.Prelude.{ℕ, ℤ, List, [], map}
use Rattle.std.specs.List.{range_with_len, zip}
use Rattle.xmp_num.specs.Arithmetic.{wrap}
use Rattle.xmp_map.specs.RowMajor.{unravel}
use Rattle.xmp_prog.specs.declared.parts.ProgParts.{ProgParts}
use Rattle.xmp_prog.specs.declared.statements.MoveSide.{MoveSide}
use Rattle.xmp_prog.specs.Fits.{node_count}
use Rattle.xmp_meaning.specs.declared.ends.Flow.{Flow}
use Rattle.xmp_meaning.specs.declared.ends.Flow.TheVariants.{Next}
use Rattle.xmp_meaning.specs.Runs.{Gave, RunIn, ◌>>=◌}
use Rattle.xmp_meaning.specs.Blocks.{then_run}
use Rattle.xmp_meaning.specs.Handlers.{Aim, erased}
use Rattle.xmp_meaning.specs.Sections.{aim}
use Rattle.xmp_meaning.specs.Messages.{Message, words_alone}
use Rattle.xmp_meaning.specs.Traffic.{node_context, node_beginning}
use Rattle.xmp_move.specs.Ways.{Pair, Ways, sends}
use Rattle.xmp_move.specs.Sides.{owns_cell, gives_cell, position}
use Rattle.xmp_move.specs.Stores.{packed, unpacked_of}
use Rattle.xmp_nodes.specs.Nodes.{Nodes, store_at, all_do, say}
use Rattle.xmp_nodes.specs.Rows.{home_of_side, extents_of_side, type_of_side, row_of, with_row}

-- how the cells of both sides lie on the nodes, each side in words of its own
abbrev pub move_ways : ProgParts → (target source : MoveSide) → Ways
move_ways p target source = record {
  needs = owns_cell (home_of_side p target);
  gives = gives_cell (home_of_side p source);
  into = position (home_of_side p target) (extents_of_side p target);
  out_of = position (home_of_side p source) (extents_of_side p source);
}

-- the cells that are meant, a source's for each target's
abbrev pub pairs_of_aim : ProgParts → (target source : MoveSide) → Aim → List Pair
pairs_of_aim p target source a =
    zip (map (unravel (extents_of_side p target)) a.targets) (map (unravel (extents_of_side p source)) a.sources)

abbrev pub source_row : ProgParts → MoveSide → Nodes → (node : ℕ) → List ℤ
source_row p source w node = row_of source (store_at (node_beginning p 0 0) w node)

-- what a node says to another, from its own words
abbrev pub move_said : ProgParts → (target source : MoveSide) → Aim → Nodes → (from to : ℕ) → Message
move_said p target source a w from to =
    words_alone (packed (source_row p source w from) (sends (move_ways p target source) (pairs_of_aim p target source a) from to))

-- the words of the target at a node, after it unpacked what all say; values are converted to the target's type
abbrev pub moved_row : ProgParts → (target source : MoveSide) → Aim → Nodes → (node : ℕ) → List ℤ
moved_row p target source a w node =
    unpacked_of (wrap (type_of_side p target)) (move_ways p target source) (pairs_of_aim p target source a) (source_row p source w)
    (row_of target (store_at (node_beginning p 0 0) w node)) node (range_with_len 0 (node_count p))

abbrev pub move_all : ProgParts → (target source : MoveSide) → Aim → RunIn Nodes Flow
move_all p target source a = λ w.
    then_run (say (λ x. move_said p target source a w))
    (all_do Next (λ node s. Gave Next (with_row target (moved_row p target source a w node) s))) w

-- every node finds what is meant, and what node 0 finds counts
abbrev pub gmove_all : ProgParts → (input : List ℕ) → (target source : MoveSide) → RunIn Nodes Flow
gmove_all p input target source =
    all_do (record { targets = []; sources = [] }) (λ node. aim erased (node_context p node input) target source)
    >>= move_all p target source
