-- Laws of traffic.
use Rattle.std.specs.Prelude.{◌≡◌, ◌≢◌, ◌+◌, ◌*◌, ◌<◌, ◌^◌, ◌++◌, ◌&&◌, if◌then◌else◌, ℕ, ℤ, false, List, [], ◌∷◌, map, length, drop, slice_get, Option, Some, None}
use Rattle.std.specs.List.{AllByRecursion, count_by, zip}
use Rattle.xmp_map.specs.Boxes.{count_cells}
use Rattle.xmp_map.specs.Held as held
use Rattle.xmp_prog.specs.declared.parts.Home.{Home}
use Rattle.xmp_prog.specs.declared.parts.Home.TheVariants as home
use Rattle.xmp_prog.specs.NodeSets.{has_node}
use Rattle.xmp_meaning.specs.Declarations.{home_of}
use Rattle.xmp_base.specs.declared.place.Place.{Place}
use Rattle.xmp_num.specs.declared.types.Ty.TheVariants.{Int}
use Rattle.xmp_num.specs.Arithmetic.{FitsType}
use Rattle.xmp_meaning.specs.declared.ends.End.{End}
use Rattle.xmp_meaning.specs.declared.ends.End.TheVariants.{Trapped, OutOfSteps, PhaseEnd}
use Rattle.xmp_prog.specs.declared.parts.ProgParts.{ProgParts}
use Rattle.xmp_prog.specs.declared.statements.Stmt.{Stmt}
use Rattle.xmp_prog.specs.Fits.{node_count}
use Rattle.xmp_meaning.specs.Runs.{State, Step, Gave, Ended}
use Rattle.xmp_prog.specs.Tests.{is_image}
use Rattle.xmp_meaning.specs.Cells.{row_in}
use Rattle.xmp_meaning.specs.Layouts.{Packed, row_length}
use Rattle.xmp_meaning.specs.Context.{Context}
use Rattle.xmp_meaning.specs.Statements.{stmt_of}
use Rattle.xmp_meaning.specs.Exchanges.{PartEnd, Exchange, AtBarrier, Broadcast, Reflected, Moved, LoopEnd, TasksEnd, Notes, no_notes, traced}
use Rattle.xmp_meaning.specs.TrapWords.{index_at, SaidTrap, trap_said}
use Rattle.xmp_meaning.specs.Messages.{is_reflected, takes, gives, tells, part_words, words_alone, message}
use Rattle.xmp_meaning.specs.Stores.{words_on, base_of, store_of}
use Rattle.xmp_meaning.specs.Traffic.{traffic, node_beginning}

-- ---- the words of a trap

-- line and column of a place are numbers of 32 bits
pub record IsPlace (at : Place) : Type 0 where
  pub line : at.line < 2 ^ 32
  pub column : at.column < 2 ^ 32

-- the place of a trap is one
abbrev pub EndsAtPlace : Option End → Type 0
EndsAtPlace (Some (Trapped kind at)) = IsPlace at
EndsAtPlace (Some OutOfSteps) = Unit {0}
EndsAtPlace (Some PhaseEnd) = Unit {0}
EndsAtPlace None = Unit {0}

-- the trap of an end, with the first three indices
abbrev pub trap_of : Option End → List ℤ → Option SaidTrap
trap_of (Some (Trapped kind at)) indices =
    Some (record {
      kind = kind;
      at = at;
      first = index_at indices 0;
      second = index_at indices 1;
      third = index_at indices 2;
    })
trap_of (Some OutOfSteps) indices = None
trap_of (Some PhaseEnd) indices = None
trap_of None indices = None

-- From the words of a part's end its trap can be read back, and the values of its reduction variables, where its
-- indices are values of int.
pub record EndsAreRead (e : PartEnd) : Type 0 where
  pub trap : AllByRecursion (FitsType Int) e.indices → EndsAtPlace e.ended
      → trap_said (part_words (Some e)) ≡ trap_of e.ended e.indices
  pub values : drop 3 (part_words (Some e)) ≡ e.values

-- ---- notes are added

-- number by number
abbrev pub added : List ℕ → List ℕ → List ℕ
added (m ∷ ms) (n ∷ ns) = (m + n) ∷ added ms ns
added [] ns = []
added (m ∷ ms) [] = []

-- notes behind others: the exchanges follow, and the turns of each node are added
abbrev pub notes_behind : Notes → Notes → Notes
notes_behind before n = record { exchanges = before.exchanges ++ n.exchanges; turns = added before.turns n.turns }

-- the same of a state's notes, and of a step's
abbrev pub state_behind : Notes → State Notes → State Notes
state_behind before s = record s { extra = notes_behind before s.extra }

abbrev pub step_behind : {A : Type 0} → Notes → Step Notes A → Step Notes A
step_behind before (Gave a s) = Gave a (state_behind before s)
step_behind before (Ended e s) = Ended e (state_behind before s)

-- A statement adds its notes behind those before, and which they are doesn't depend on those.
abbrev pub NotesAreAdded : ProgParts → Context → Stmt → Type 0
NotesAreAdded p cx s = (before : Notes) (t : State Notes) → length before.turns ≡ node_count p
    → stmt_of (traced p) cx s (record t { extra = before })
    ≡ step_behind before (stmt_of (traced p) cx s (record t { extra = no_notes p }))

-- ---- the words of a message

-- how many cells a reflect sends: those that the one node owns and of which the other holds a copy; none of an array
-- without align
abbrev pub reflect_due : Home → (from to : ℕ) → ℕ
reflect_due (home.Spread t m) from to = count_cells (held.extents m) (is_reflected m from to)
reflect_due home.Copy from to = 0
reflect_due home.Image from to = 0

-- How many words one node owes another at an exchange: for a bcast one for each variable, from its source; for a
-- gmove one for each target that the other takes from a source that the node gives; at the end of a loop directive
-- three, and one for each reduction variable; at the end of tasks three for each whose end it tells.
abbrev pub words_due : ProgParts → Exchange → (from to : ℕ) → ℕ
words_due p AtBarrier from to = 0
words_due p (Broadcast variables set values) from to = if has_node p.grid set from then length variables else 0
words_due p (Reflected array cells) from to = reflect_due (home_of p array) from to
words_due p (Moved target source aim values) from to =
    count_by (λ pair. takes p target to pair.0 && gives p source from pair.1) (zip aim.targets aim.sources)
words_due p (LoopEnd directive ends) from to = 3 + length directive.reductions
words_due p (TasksEnd ends) from to = 3 * count_by (tells p from to) ends

-- An exchange has exactly the words that are due, and text for node 0 alone; a node sends nothing to itself.
pub record IsAsDue (p : ProgParts) (x : Exchange) : Type 0 where
  pub words : (from to : ℕ) → from < node_count p → from ≢ to
      → length (message p x from to).words ≡ words_due p x from to
  pub text : (from to : ℕ) → to ≢ 0 → (message p x from to).text ≡ []
  pub itself : (node : ℕ) → message p x node node ≡ words_alone []

-- and so has each of those that a run of a program notes
abbrev pub TrafficIsAsDue : ProgParts → (input : List ℕ) → (steps : ℕ) → Type 0
TrafficIsAsDue p input steps = AllByRecursion (IsAsDue p) (traffic p input steps)

-- ---- stores

-- The state of a node in a program without coarrays: a scalar for each slot, and rows as long as the node keeps them.
pub record IsNodeState {X : Type 0} (p : ProgParts) (node : ℕ) (s : State X) : Type 0 where
  pub scalars : length s.scalars ≡ length p.scalars
  pub rows : map length s.arrays ≡ map (row_length (Packed node) p) p.arrays
  pub no_coarrays : AllByRecursion (λ a. is_image a.home ≡ false) p.arrays

-- The store has the node's words, and the word of a cell stands behind the base of its array.
pub record StoreIsLaid {X : Type 0} (p : ProgParts) (node : ℕ) (s : State X) : Type 0 where
  pub words : length (store_of s) ≡ words_on p node
  pub cells : (array n : ℕ) → n < length (row_in s.arrays array)
      → slice_get (store_of s) (base_of p node array + n) ≡ slice_get (row_in s.arrays array) n

-- the same of every such state
abbrev pub StoresAreLaid : (X : Type 0) → ProgParts → Type 0
StoresAreLaid X p = (node : ℕ) (s : State X) → IsNodeState p node s → StoreIsLaid p node s

-- a node begins with one
abbrev pub BeginsLaid : ProgParts → Type 0
BeginsLaid p = (node steps : ℕ) → AllByRecursion (λ a. is_image a.home ≡ false) p.arrays
    → IsNodeState p node (node_beginning p node steps)
