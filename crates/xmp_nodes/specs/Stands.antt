-- What it means that a world stands for a program (this project).
use Rattle.std.specs.Prelude.{◌≡◌, ◌<◌, ◌+◌, ◌&&◌, not, ℕ, ℤ, true, List, length, slice_get, Some, None}
use Rattle.xmp_map.specs.declared.array_map.ArrayMap.{ArrayMap}
use Rattle.xmp_map.specs.RowMajor.{row_major}
use Rattle.xmp_map.specs.Boxes.{IsInside}
use Rattle.xmp_prog.specs.declared.parts.ProgParts.{ProgParts}
use Rattle.xmp_prog.specs.declared.parts.Home.TheVariants as home
use Rattle.xmp_prog.specs.Fits.{node_count}
use Rattle.xmp_meaning.specs.Cells.{row_in}
use Rattle.xmp_meaning.specs.Runs.{end_of, state_of}
use Rattle.xmp_meaning.specs.Declarations.{extents, home_of}
use Rattle.xmp_meaning.specs.Programs.{serial_end}
use Rattle.xmp_meaning.specs.Messages.{sent}
use Rattle.xmp_meaning.specs.Stores.{words_on, base_of}
use Rattle.xmp_meaning.specs.Traffic.{traffic, turns_on, copied}
use Rattle.xmp_move.specs.Sides.{owns_cell, holds_cell, position}
use Rattle.xmp_move.specs.Stores.{word_at}
use Rattle.xmp_nodes.specs.Nodes.{bounded}
use Rattle.xmp_nodes.specs.Worlds.{World}

-- The store of a node where a program ends by itself: it has the node's words; each cell stands at its owner's slot, and
-- each other holder has the copied value.
pub record StoreStands (p : ProgParts) (input : List ℕ) (steps node : ℕ) (store : List ℤ) : Type 0 where
  pub length : length store ≡ words_on p node
  pub owned : (array t : ℕ) (m : ArrayMap) (cell : List ℕ) → home_of p array ≡ home.Spread t m → IsInside cell (extents p array)
      → owns_cell (home.Spread t m) node cell ≡ true
      → word_at store (base_of p node array + position (home.Spread t m) (extents p array) node cell)
      ≡ word_at (row_in (state_of (serial_end p input steps)).arrays array) (row_major (extents p array) cell)
  pub copies : (array t : ℕ) (m : ArrayMap) (cell : List ℕ) → home_of p array ≡ home.Spread t m → IsInside cell (extents p array)
      → (holds_cell (home.Spread t m) node cell && not (owns_cell (home.Spread t m) node cell)) ≡ true
      → word_at store (base_of p node array + position (home.Spread t m) (extents p array) node cell)
      ≡ copied (traffic p input steps) array (row_major (extents p array) cell)

-- The stores and the counts of a world where the program ends by itself.
pub record StoresStand (p : ProgParts) (input : List ℕ) (steps : ℕ) (w : World) : Type 0 where
  pub many : length w.stores ≡ node_count p
  pub stores : (node : ℕ) (store : List ℤ) → slice_get w.stores node ≡ Some store → StoreStands p input steps node store
  pub turns : (node : ℕ) → node < node_count p → slice_get w.turns node ≡ Some (bounded (turns_on p input steps node))
  pub rows : length w.sent ≡ node_count p
  pub sent : (from to : ℕ) (row : List ℕ) → to < node_count p → slice_get w.sent from ≡ Some row
      → slice_get row to ≡ Some (bounded (sent p (traffic p input steps) from to))

-- A world stands for a program on an input, with so many steps: it ends as the program with its directives erased does,
-- has printed the same, and where that ends by itself its stores and counts are the program's.
pub record StandsFor (p : ProgParts) (input : List ℕ) (steps : ℕ) (w : World) : Type 0 where
  pub ended : w.ended ≡ end_of (serial_end p input steps)
  pub out : w.out ≡ (state_of (serial_end p input steps)).out
  pub at_end : w.ended ≡ None → StoresStand p input steps w
