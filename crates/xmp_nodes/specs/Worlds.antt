-- A world of nodes at its end, as contracts see it (this project).
use Rattle.std.specs.Prelude.{ℕ, List, [], ◌∷◌, map, ℤ, Option}
use Rattle.xmp_meaning.specs.declared.ends.End.{End}
use Rattle.xmp_meaning.specs.declared.ends.Flow.{Flow}
use Rattle.xmp_meaning.specs.Runs.{State, StepIn, end_of, state_of}
use Rattle.xmp_meaning.specs.Stores.{store_of}
use Rattle.xmp_nodes.specs.Nodes.{Nodes}

-- How it ended where it did early, what node 0 printed, each node's store, how many turns of loop directives each made,
-- and how many words each sent to each other; counts are at most the greatest number of 64 bits.
pub record World : Type 0 where
  pub ended : Option End
  pub out : List ℕ
  pub stores : List (List ℤ)
  pub turns : List ℕ
  pub sent : List (List ℕ)

abbrev pub out_of : List (State (Unit {0})) → List ℕ
out_of [] = []
out_of (s ∷ ss) = s.out

abbrev pub world_after : StepIn Nodes Flow → World
world_after step = record {
  ended = end_of step;
  out = out_of (state_of step).stores;
  stores = map store_of (state_of step).stores;
  turns = (state_of step).turns;
  sent = (state_of step).sent;
}
