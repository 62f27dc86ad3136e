-- The objects of a program whose copies may be out of date, and sets of its nodes.
-- Source: this project, after the shadows, bcast and reflect of XcalableMP 1.4.
use Rattle.std.specs.Prelude.{ℕ, zero, suc, ◌+◌, ◌*◌, ◌^◌, Bool, ◌&&◌, nat_lt, if◌then◌else◌}
use Rattle.xmp_map.specs.RowMajor.{product}
use Rattle.xmp_map.specs.declared.grid.Grid.{Grid}
use Rattle.xmp_map.specs.declared.grid.NodeSet.{NodeSet}
use Rattle.xmp_prog.specs.NodeSets.{has_node}
use Rattle.xmp_prog.specs.declared.parts.ProgParts.{ProgParts}

-- a scalar by its slot
abbrev pub scalar_object : ℕ → ℕ
scalar_object slot = 2 * slot

-- an array by its number: the array itself where it has no align, and its shadow where it is distributed
abbrev pub array_object : ℕ → ℕ
array_object array = 2 * array + 1

-- the numbers below a count that pass a test, as bits
abbrev pub bits_where : (ℕ → Bool) → ℕ → ℕ
bits_where test zero = 0
bits_where test (suc n) = bits_where test n + (if test n then 2 ^ n else 0)

-- the nodes of a node set, of at most 16
abbrev pub is_in_set : Grid → NodeSet → ℕ → Bool
is_in_set grid set node = nat_lt node (product grid.sizes) && has_node grid set node

abbrev pub nodes_in : Grid → NodeSet → ℕ
nodes_in grid set = bits_where (is_in_set grid set) 16

-- all nodes of a grid, and of a program
abbrev pub is_in_grid : Grid → ℕ → Bool
is_in_grid grid node = nat_lt node (product grid.sizes)

abbrev pub nodes_of : Grid → ℕ
nodes_of grid = bits_where (is_in_grid grid) 16

abbrev pub all_nodes : ProgParts → ℕ
all_nodes p = nodes_of p.grid
