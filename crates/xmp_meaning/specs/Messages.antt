-- What one node sends to another at an exchange (this project).
use Rattle.std.specs.Prelude.{ℕ, suc, ◌+◌, ◌/◌, ◌==◌, ◌&&◌, not, if◌then◌else◌, Bool, true, false, List, [], ◌∷◌, ◌++◌, length, map, ℤ, Option, Some, None, slice_get}
use Rattle.std.specs.List.{range_with_len, sum_by}
use Rattle.xmp_map.specs.declared.array_map.ArrayMap.{ArrayMap}
use Rattle.xmp_map.specs.RowMajor.{unravel}
use Rattle.xmp_map.specs.Held as held
use Rattle.xmp_prog.specs.declared.parts.ProgParts.{ProgParts}
use Rattle.xmp_prog.specs.declared.parts.Home.{Home}
use Rattle.xmp_prog.specs.declared.parts.Home.TheVariants as home
use Rattle.xmp_prog.specs.declared.statements.MoveSide.{MoveSide}
use Rattle.xmp_prog.specs.declared.statements.MoveSide.TheVariants as side
use Rattle.xmp_prog.specs.Fits.{node_count}
use Rattle.xmp_prog.specs.NodeSets.{has_node}
use Rattle.xmp_meaning.specs.Declarations.{home_of}
use Rattle.xmp_meaning.specs.Exchanges.{PartEnd, TaskEnd, Exchange, AtBarrier, Broadcast, Reflected, Moved, LoopEnd, TasksEnd}
use Rattle.xmp_meaning.specs.TaskEnds.{leader}
use Rattle.xmp_meaning.specs.TrapWords.{end_words}

-- A message has words and text.
pub record Message : Type 0 where
  pub words : List ℤ
  pub text : List ℕ

abbrev pub words_alone : List ℤ → Message
words_alone words = record { words = words; text = [] }

-- ---- reflect

-- a cell of an array's map by its row-major number
abbrev pub cell_by : ArrayMap → ℕ → List ℕ
cell_by m n = unravel (held.extents m) n

-- whether a node holds a copy of another node's cell
abbrev pub is_copy : ArrayMap → ℕ → List ℕ → Bool
is_copy m node cell = held.holds m node cell && not (held.owns m node cell)

-- whether a reflect sends a cell: its owner has it, and the other node a copy
abbrev pub is_reflected : ArrayMap → (from to : ℕ) → List ℕ → Bool
is_reflected m from to cell = held.owns m from cell && is_copy m to cell

-- the values whose numbers pass a test; the first has number `at`
abbrev pub passing : (ℕ → Bool) → (at : ℕ) → List ℤ → List ℤ
passing test at [] = []
passing test at (v ∷ vs) = if test at then v ∷ passing test (suc at) vs else passing test (suc at) vs

-- the cells that are sent, in row-major order; a reflect of an array without align sends none
abbrev pub reflected : Home → (from to : ℕ) → List ℤ → List ℤ
reflected (home.Spread t m) from to cells = passing (λ n. is_reflected m from to (cell_by m n)) 0 cells
reflected home.Copy from to cells = []
reflected home.Image from to cells = []

-- ---- gmove

-- whether a node writes what is moved to a cell of the target: its owner, and each node where the target has no align
abbrev pub takes_cell : Home → (node n : ℕ) → Bool
takes_cell (home.Spread t m) node n = held.owns m node (cell_by m n)
takes_cell home.Copy node n = true
takes_cell home.Image node n = true

abbrev pub takes : ProgParts → MoveSide → (node n : ℕ) → Bool
takes p (side.Scalar name) node n = true
takes p (side.Array name parts) node n = takes_cell (home_of p name.number) node n

-- whether it sends a cell of the source: its owner alone; a source without align is each node's own
abbrev pub gives_cell : Home → (node n : ℕ) → Bool
gives_cell (home.Spread t m) node n = held.owns m node (cell_by m n)
gives_cell home.Copy node n = false
gives_cell home.Image node n = false

abbrev pub gives : ProgParts → MoveSide → (node n : ℕ) → Bool
gives p (side.Scalar name) node n = false
gives p (side.Array name parts) node n = gives_cell (home_of p name.number) node n

-- the values that are sent, in the order of the targets
abbrev pub moved : (takes gives : ℕ → Bool) → (targets sources : List ℕ) → List ℤ → List ℤ
moved takes gives (t ∷ ts) (s ∷ ss) (v ∷ vs) =
    (if takes t && gives s then v ∷ [] else []) ++ moved takes gives ts ss vs
moved takes gives [] ss vs = []
moved takes gives (t ∷ ts) [] vs = []
moved takes gives (t ∷ ts) (s ∷ ss) [] = []

-- ---- ends

-- how a part ended, and the values of its reduction variables
abbrev pub part_words : Option PartEnd → List ℤ
part_words None = []
part_words (Some e) = end_words e.ended e.indices ++ e.values

-- whether a node tells another how a task ended: the least node of its set tells each node outside it
abbrev pub tells : ProgParts → (from to : ℕ) → TaskEnd → Bool
tells p from to e = (leader p e.nodes == from) && not (has_node p.grid e.nodes to)

-- what it says of all tasks of an exchange, in their order
abbrev pub task_words : ProgParts → (from to : ℕ) → List TaskEnd → List ℤ
task_words p from to [] = []
task_words p from to (e ∷ es) = (if tells p from to e then end_words e.ended [] else []) ++ task_words p from to es

-- and what these tasks printed
abbrev pub task_text : ProgParts → (from to : ℕ) → List TaskEnd → List ℕ
task_text p from to [] = []
task_text p from to (e ∷ es) = (if tells p from to e then e.text else []) ++ task_text p from to es

-- ---- the message

-- what one node says to another; texts go to node 0 alone
abbrev pub said : ProgParts → Exchange → (from to : ℕ) → Message
said p AtBarrier from to = words_alone []
said p (Broadcast variables set values) from to = words_alone (if has_node p.grid set from then values else [])
said p (Reflected array cells) from to = words_alone (reflected (home_of p array) from to cells)
said p (Moved target source aim values) from to =
    words_alone (moved (takes p target to) (gives p source from) aim.targets aim.sources values)
said p (LoopEnd directive ends) from to = words_alone (part_words (slice_get ends from))
said p (TasksEnd ends) from to = record {
  words = task_words p from to ends;
  text = if to == 0 then task_text p from to ends else [];
}

-- a node sends nothing to itself
abbrev pub message : ProgParts → Exchange → (from to : ℕ) → Message
message p x from to = if from == to then words_alone [] else said p x from to

-- the messages of an exchange that a node sends, and those that it gets, by the other node
abbrev pub sent_by : ProgParts → Exchange → (from : ℕ) → List Message
sent_by p x from = map (λ to. message p x from to) (range_with_len 0 (node_count p))

abbrev pub sent_to : ProgParts → Exchange → (to : ℕ) → List Message
sent_to p x to = map (λ from. message p x from to) (range_with_len 0 (node_count p))

-- ---- counts

-- the words of a message; a text counts one for each eight bytes begun
abbrev pub words_sent : Message → ℕ
words_sent m = length m.words + (length m.text + 7) / 8

-- how many words one node sends to another at these exchanges
abbrev pub sent : ProgParts → List Exchange → (from to : ℕ) → ℕ
sent p xs from to = sum_by (λ x. words_sent (message p x from to)) xs

-- and to all others
abbrev pub sent_in_all : ProgParts → List Exchange → (from : ℕ) → ℕ
sent_in_all p xs from = sum_by (λ to. sent p xs from to) (range_with_len 0 (node_count p))
