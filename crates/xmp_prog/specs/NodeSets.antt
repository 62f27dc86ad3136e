-- Node sets of a program: boxes of its grid.
use Rattle.std.specs.Prelude.{ℕ, Bool, true, false, not, ◌+◌, ◌==◌, ◌&&◌, nat_le, List, [], ◌∷◌}
use Rattle.std.specs.List.{list_all, range_with_len}
use Rattle.xmp_map.specs.declared.grid.Grid.{Grid}
use Rattle.xmp_map.specs.declared.grid.NodeSet.{NodeSet}
use Rattle.xmp_map.specs.RowMajor.{product, unravel}
use Rattle.xmp_map.specs.Nodes.{in_box}

-- Whether in each dimension of the grid the numbers from `first` on, at least one, lie inside.
abbrev pub lies_inside : List ℕ → List ℕ → List ℕ → Bool
lies_inside [] [] [] = true
lies_inside (f ∷ fs) (m ∷ ms) (s ∷ ss) = (nat_le 1 m && nat_le (f + m) s) && lies_inside fs ms ss
lies_inside _ _ _ = false

-- Whether a node set is a box inside the grid with at least one node, and whether it has one node alone.
abbrev pub is_node_set : Grid → NodeSet → Bool
is_node_set grid set = lies_inside set.first set.many grid.sizes

abbrev pub is_one_node : Grid → NodeSet → Bool
is_one_node grid set = is_node_set grid set && (product set.many == 1)

-- Whether a node set has a node.
abbrev pub has_node : Grid → NodeSet → ℕ → Bool
has_node grid set node = in_box set.first set.many (unravel grid.sizes node)

-- Whether two node sets share no node of the grid.
abbrev pub sets_apart : Grid → NodeSet → NodeSet → Bool
sets_apart grid a b = list_all (λ n. not (has_node grid a n && has_node grid b n)) (range_with_len 0 (product grid.sizes))
