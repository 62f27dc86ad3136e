-- What is due from node to node when cells of a target are given cells of a source (this project).
use Rattle.std.specs.Prelude.{ℕ, Bool, ◌&&◌, List, map, filter}

-- a target's cell, and the source's cell that is moved to it, each by its subscripts
abbrev pub Pair : Type 0
Pair = List ℕ × List ℕ

-- How the cells of one transfer lie on the nodes: which nodes need a target's cell, which node gives a source's cell to
-- another, and the slot of each in a node's store.
pub record Ways : Type 0 where
  pub needs : (node : ℕ) → (cell : List ℕ) → Bool
  pub gives : (from to : ℕ) → (cell : List ℕ) → Bool
  pub into : (node : ℕ) → (cell : List ℕ) → ℕ
  pub out_of : (node : ℕ) → (cell : List ℕ) → ℕ

-- the pairs for which one node needs what the other gives it, in their order
abbrev pub due : Ways → List Pair → (from to : ℕ) → List Pair
due ways pairs from to = filter (λ p. ways.needs to p.0 && ways.gives from to p.1) pairs

-- the slots that a node sends to another
abbrev pub sends : Ways → List Pair → (node to : ℕ) → List ℕ
sends ways pairs node to = map (λ p. ways.out_of node p.1) (due ways pairs node to)

-- and those that it fills from another; both list the same pairs in the same order
abbrev pub fills : Ways → List Pair → (node from : ℕ) → List ℕ
fills ways pairs node from = map (λ p. ways.into node p.0) (due ways pairs from node)
