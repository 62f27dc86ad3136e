-- A reflect: the owner of each cell of a distributed array gives it to the other nodes that hold it, corners of shadows
-- included (XcalableMP 1.4, reflect construct).
use Rattle.std.specs.Prelude.{ℕ, ℤ, List, [], ◌∷◌, slice_set}
use Rattle.std.specs.List.{range_with_len}
use Rattle.xmp_prog.specs.declared.parts.ProgParts.{ProgParts}
use Rattle.xmp_prog.specs.declared.parts.Home.{Home}
use Rattle.xmp_prog.specs.declared.parts.Home.TheVariants as home
use Rattle.xmp_prog.specs.declared.statements.Name.{Name}
use Rattle.xmp_prog.specs.Fits.{node_count}
use Rattle.xmp_meaning.specs.declared.ends.Flow.{Flow}
use Rattle.xmp_meaning.specs.declared.ends.Flow.TheVariants.{Next}
use Rattle.xmp_meaning.specs.Cells.{row_in}
use Rattle.xmp_meaning.specs.Runs.{Gave, RunIn, pure}
use Rattle.xmp_meaning.specs.Blocks.{then_run}
use Rattle.xmp_meaning.specs.Declarations.{extents, home_of}
use Rattle.xmp_meaning.specs.Messages.{Message, words_alone}
use Rattle.xmp_meaning.specs.Traffic.{node_beginning}
use Rattle.xmp_move.specs.Ways.{Pair, Ways, sends}
use Rattle.xmp_move.specs.Whole.{reflecting, selves}
use Rattle.xmp_move.specs.Cells.{indices}
use Rattle.xmp_move.specs.Sides.{owns_cell, holds_cell, position}
use Rattle.xmp_move.specs.Stores.{packed, unpacked_of}
use Rattle.xmp_nodes.specs.Nodes.{Nodes, store_at, all_do, say}

-- how an array's cells lie on the nodes, in rows of their own, and each cell beside itself
abbrev pub reflect_ways : ProgParts → (array : ℕ) → Ways
reflect_ways p array =
    reflecting (holds_cell (home_of p array)) (owns_cell (home_of p array)) (position (home_of p array) (extents p array))

abbrev pub reflect_pairs : ProgParts → (array : ℕ) → List Pair
reflect_pairs p array = selves (indices (extents p array))

-- the row of the array at a node
abbrev pub row_at : ProgParts → (array : ℕ) → Nodes → (node : ℕ) → List ℤ
row_at p array w node = row_in (store_at (node_beginning p 0 0) w node).arrays array

-- what a node says to another, from its own row
abbrev pub reflect_said : ProgParts → (array : ℕ) → Nodes → (from to : ℕ) → Message
reflect_said p array w from to = words_alone (packed (row_at p array w from) (sends (reflect_ways p array) (reflect_pairs p array) from to))

-- the row of a node after it unpacked what all say
abbrev pub reflected_row : ProgParts → (array : ℕ) → Nodes → (node : ℕ) → List ℤ
reflected_row p array w node = unpacked_of (λ v. v) (reflect_ways p array) (reflect_pairs p array) (row_at p array w) (row_at p array w node) node (range_with_len 0 (node_count p))

-- a reflect of one array
abbrev pub reflect_one : ProgParts → (array : ℕ) → RunIn Nodes Flow
reflect_one p array = λ w.
    then_run (say (λ x. reflect_said p array w))
    (all_do Next (λ node s. Gave Next (record s { arrays = slice_set s.arrays array (reflected_row p array w node) }))) w

-- nothing is said of an array without align
abbrev pub reflect_at : ProgParts → (array : ℕ) → Home → RunIn Nodes Flow
reflect_at p array (home.Spread t m) = reflect_one p array
reflect_at p array home.Copy = pure Next
reflect_at p array home.Image = pure Next

-- one exchange for each array, in order
abbrev pub reflect_all : ProgParts → List Name → RunIn Nodes Flow
reflect_all p [] = pure Next
reflect_all p (a ∷ all) = then_run (reflect_at p a.number (home_of p a.number)) (reflect_all p all)
