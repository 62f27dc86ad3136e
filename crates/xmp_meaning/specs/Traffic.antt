-- The traffic of a program, and a node's run by itself (this project).
use Rattle.std.specs.Prelude.{ℕ, ◌==◌, if◌then◌else◌, List, [], ◌∷◌, map, ℤ, pos, length, unwrap_or, slice_get}
use Rattle.std.specs.List.{range_with_len}
use Rattle.xmp_prog.specs.declared.parts.ProgParts.{ProgParts}
use Rattle.xmp_prog.specs.Fits.{node_count}
use Rattle.xmp_meaning.specs.declared.ends.Flow.{Flow}
use Rattle.xmp_meaning.specs.Runs.{State, Step, state_of}
use Rattle.xmp_meaning.specs.Layouts.{Whole, Packed}
use Rattle.xmp_meaning.specs.Context.{Context}
use Rattle.xmp_meaning.specs.Calls.{context_with, call_of, main_context}
use Rattle.xmp_meaning.specs.Programs.{beginning, program}
use Rattle.xmp_meaning.specs.Exchanges.{Notes, no_notes, Exchange, AtBarrier, Broadcast, Reflected, Moved, LoopEnd, TasksEnd, traced}
use Rattle.xmp_meaning.specs.Messages.{sent_in_all}
use Rattle.xmp_meaning.specs.Stores.{words_on}

-- the whole serial run that notes what is said
abbrev pub noted_end : ProgParts → (input : List ℕ) → (steps : ℕ) → Step Notes Flow
noted_end p input steps = program (traced p) (main_context p 0 input) (beginning Whole p steps (no_notes p))

-- what it notes
abbrev pub notes : ProgParts → (input : List ℕ) → (steps : ℕ) → Notes
notes p input steps = (state_of (noted_end p input steps)).extra

-- the exchanges in their order, up to that at which the run ends
abbrev pub traffic : ProgParts → (input : List ℕ) → (steps : ℕ) → List Exchange
traffic p input steps = (notes p input steps).exchanges

-- how many turns of loop directives a node owns
abbrev pub turns_on : ProgParts → (input : List ℕ) → (steps : ℕ) → (node : ℕ) → ℕ
turns_on p input steps node = unwrap_or (slice_get (notes p input steps).turns node) 0

-- ---- counts

-- What is counted of a node: the words that it has, the turns of loop directives that it owns, and the words that it
-- sends.
pub record Counts : Type 0 where
  pub words : ℕ
  pub turns : ℕ
  pub sent : ℕ

abbrev pub counts_on : ProgParts → (input : List ℕ) → (steps : ℕ) → (node : ℕ) → Counts
counts_on p input steps node = record {
  words = words_on p node;
  turns = turns_on p input steps node;
  sent = sent_in_all p (traffic p input steps) node;
}

-- the counts of all nodes
abbrev pub report : ProgParts → (input : List ℕ) → (steps : ℕ) → List Counts
report p input steps = map (counts_on p input steps) (range_with_len 0 (node_count p))

-- ---- copies

-- the cells of an array in its last reflect; none before the first
abbrev pub last_reflected : ℕ → (so_far : List ℤ) → List Exchange → List ℤ
last_reflected array so_far [] = so_far
last_reflected array so_far (Reflected a cells ∷ xs) = last_reflected array (if a == array then cells else so_far) xs
last_reflected array so_far (AtBarrier ∷ xs) = last_reflected array so_far xs
last_reflected array so_far (Broadcast variables set values ∷ xs) = last_reflected array so_far xs
last_reflected array so_far (Moved target source aim values ∷ xs) = last_reflected array so_far xs
last_reflected array so_far (LoopEnd directive ends ∷ xs) = last_reflected array so_far xs
last_reflected array so_far (TasksEnd ends ∷ xs) = last_reflected array so_far xs

-- what a copy of an array's cell has behind these exchanges: its value in the last reflect, or 0
abbrev pub copied : List Exchange → (array n : ℕ) → ℤ
copied xs array n = unwrap_or (slice_get (last_reflected array [] xs) n) (pos 0)

-- ---- a node by itself

-- What a node's run is read against: its arrays are packed. In a program without coarrays no number of a node is
-- asked for, and calls are those of the serial run.
abbrev pub node_context : ProgParts → (node : ℕ) → (input : List ℕ) → Context
node_context p node input = context_with p (Packed node) 0 input (call_of p 0 (length p.functions))

-- what it begins with
abbrev pub node_beginning : ProgParts → (node steps : ℕ) → State (Unit {0})
node_beginning p node steps = beginning (Packed node) p steps tt
