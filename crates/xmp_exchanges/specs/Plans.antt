-- The plans of all nodes for a transfer.
use Rattle.std.specs.Prelude.{ℕ, ℤ, Bool, List, [], map, length, nat_le, slice_get, unwrap_or}
use Rattle.std.specs.List.{range_with_len, list_all}
use Rattle.xmp_move.specs.declared.kind.MoveKind.{MoveKind}
use Rattle.xmp_move.specs.Plans.{Lists, peers_of, sends_to, fills_from}
use Rattle.xmp_move.specs.Stores.{packed}

-- the plan of a node: the slots that it sends to each node, and those that it fills from each
abbrev pub lists_of : MoveKind → (args : List ℤ) → (node : ℕ) → Lists
lists_of kind args node = record {
  sends = map (sends_to kind args node) (range_with_len 0 (peers_of kind));
  fills = map (fills_from kind args node) (range_with_len 0 (peers_of kind));
}

-- those of so many nodes
abbrev pub plans_of : MoveKind → (args : List ℤ) → (count : ℕ) → List Lists
plans_of kind args count = map (lists_of kind args) (range_with_len 0 count)

-- a list of several by its number; there is none outside
abbrev pub list_at : {A : Type 0} → List (List A) → ℕ → List A
list_at lists k = unwrap_or (slice_get lists k) []

-- what a node with these words has for each of so many nodes
abbrev pub packed_for : (sends : List (List ℕ)) → (store : List ℤ) → (count : ℕ) → List (List ℤ)
packed_for sends store count = map (λ to. packed store (list_at sends to)) (range_with_len 0 count)

-- each plan has lists for so many nodes
abbrev pub all_send : (count : ℕ) → List Lists → Bool
all_send count plans = list_all (λ p. nat_le count (length p.sends)) plans

abbrev pub all_fill : (count : ℕ) → List Lists → Bool
all_fill count plans = list_all (λ p. nat_le count (length p.fills)) plans
