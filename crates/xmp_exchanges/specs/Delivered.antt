-- A node unpacks what all nodes have for it, the last first.
use Rattle.std.specs.Prelude.{ℕ, ◌+◌, ℤ, List, [], ◌∷◌, map, Option, Some, None, slice_get}
use Rattle.xmp_move.specs.Plans.{Lists}
use Rattle.xmp_move.specs.Stores.{write_all}
use Rattle.xmp_exchanges.specs.Plans.{list_at}

-- the words of a node behind the messages of the nodes from a number on; each node has a list of messages, one to each node
abbrev pub delivered : (ℤ → ℤ) → (fills : List (List ℕ)) → (node from : ℕ) → (own : List ℤ) → List (List (List ℤ)) → List ℤ
delivered conv fills node from own [] = own
delivered conv fills node from own (table ∷ rest) =
    write_all (delivered conv fills node (from + 1) own rest) (list_at fills from) (map conv (list_at table node))

-- what the plan of a node fills; without such a node nothing
abbrev pub fills_in : Option Lists → List (List ℕ)
fills_in None = []
fills_in (Some p) = p.fills

abbrev pub fills_on : List Lists → (node : ℕ) → List (List ℕ)
fills_on plans node = fills_in (slice_get plans node)
