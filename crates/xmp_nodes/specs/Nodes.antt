-- All nodes in step: each has a state of its own, whose arrays are packed (this project).
use Rattle.std.specs.Prelude.{ℕ, suc, ◌+◌, ◌-◌, ◌^◌, ◌==◌, min, if◌then◌else◌, List, [], ◌∷◌, map, replicate, slice_get, unwrap_or}
use Rattle.std.specs.List.{range_with_len}
use Rattle.xmp_prog.specs.declared.parts.ProgParts.{ProgParts}
use Rattle.xmp_prog.specs.Fits.{node_count}
use Rattle.xmp_meaning.specs.declared.ends.Flow.{Flow}
use Rattle.xmp_meaning.specs.declared.ends.Flow.TheVariants.{Next}
use Rattle.xmp_meaning.specs.Runs.{State, StepIn, Step, Gave, Ended, RunIn, Run, state_of}
use Rattle.xmp_meaning.specs.Messages.{Message, words_sent}
use Rattle.xmp_meaning.specs.Traffic.{node_beginning}

-- The states of the nodes in their order; for each node how many turns of loop directives it made; and for each node
-- and each other how many words it sent.
pub record Nodes : Type 0 where
  pub stores : List (State (Unit {0}))
  pub turns : List ℕ
  pub sent : List (List ℕ)

-- the nodes at first
abbrev pub nodes_beginning : ProgParts → (steps : ℕ) → Nodes
nodes_beginning p steps = record {
  stores = map (λ node. node_beginning p node steps) (range_with_len 0 (node_count p));
  turns = replicate (node_count p) 0;
  sent = replicate (node_count p) (replicate (node_count p) 0);
}

-- the state of a node; without such a node nothing of it is asked, and the state given stands for it
abbrev pub store_at : State (Unit {0}) → Nodes → (node : ℕ) → State (Unit {0})
store_at none w node = unwrap_or (slice_get w.stores node) none

-- ---- every node by itself

-- a step of each node from its own state
abbrev pub each_does : {A : Type 0} → (run : ℕ → Run (Unit {0}) A) → (node : ℕ) → List (State (Unit {0})) → List (Step (Unit {0}) A)
each_does run node [] = []
each_does run node (s ∷ ss) = run node s ∷ each_does run (suc node) ss

-- the step of node 0 counts; a program has a node, so the value given where there is none is never had
abbrev pub led : {A : Type 0} → A → List (Step (Unit {0}) A) → Nodes → StepIn Nodes A
led none [] w = Gave none w
led none (Gave a s ∷ rest) w = Gave a w
led none (Ended e s ∷ rest) w = Ended e w

abbrev pub with_steps : {A : Type 0} → List (Step (Unit {0}) A) → Nodes → Nodes
with_steps steps w = record w { stores = map state_of steps }

-- every node does a step by itself on its own state, and node 0's value counts
abbrev pub all_do : {A : Type 0} → A → (run : ℕ → Run (Unit {0}) A) → RunIn Nodes A
all_do none run w = led none (each_does run 0 w.stores) (with_steps (each_does run 0 w.stores) w)

-- ---- counts

-- a count goes no further than the greatest number of 64 bits
abbrev pub bounded : ℕ → ℕ
bounded n = min n (2 ^ 64 - 1)

-- each of a list with what a function adds to it by its number
abbrev pub raised_by : (ℕ → ℕ) → (at : ℕ) → List ℕ → List ℕ
raised_by more at [] = []
raised_by more at (n ∷ ns) = bounded (n + more at) ∷ raised_by more (suc at) ns

abbrev pub rows_raised : (ℕ → ℕ → ℕ) → (from : ℕ) → List (List ℕ) → List (List ℕ)
rows_raised more from [] = []
rows_raised more from (row ∷ rows) = raised_by (more from) 0 row ∷ rows_raised more (suc from) rows

-- the words of these messages are sent; a node sends nothing to itself
abbrev pub saying : (said : ℕ → ℕ → Message) → Nodes → Nodes
saying said w = record w { sent = rows_raised (λ from to. if from == to then 0 else words_sent (said from to)) 0 w.sent }

abbrev pub say : (said : Nodes → ℕ → ℕ → Message) → RunIn Nodes Flow
say said = λ w. Gave Next (saying (said w) w)
