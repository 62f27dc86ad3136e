-- A transfer between the stores of all nodes: each packs from its own words what it has for each node, and then each unpacks into its own.
use Rattle.std.specs.Prelude.{ℕ, ℤ, List, Option, Some, None}
use Rattle.std.specs.List.{range_with_len}
use Rattle.xmp_num.specs.declared.types.Ty.{Ty}
use Rattle.xmp_num.specs.Arithmetic.{wrap}
use Rattle.xmp_prog.specs.declared.parts.ProgParts.{ProgParts}
use Rattle.xmp_prog.specs.Fits.{node_count}
use Rattle.xmp_meaning.specs.declared.ends.Flow.{Flow}
use Rattle.xmp_meaning.specs.declared.ends.Flow.TheVariants.{Next}
use Rattle.xmp_meaning.specs.Runs.{Gave, RunIn}
use Rattle.xmp_meaning.specs.Blocks.{then_run}
use Rattle.xmp_meaning.specs.Messages.{Message, words_alone}
use Rattle.xmp_meaning.specs.Traffic.{node_beginning}
use Rattle.xmp_move.specs.Ways.{Pair, Ways, sends}
use Rattle.xmp_move.specs.Kinds.{ways_of, pairs_of}
use Rattle.xmp_move.specs.Stores.{packed, unpacked_of}
use Rattle.xmp_nodes.specs.Nodes.{Nodes, store_at, all_do, say}
use Rattle.xmp_exchanges.specs.declared.words.Place.{Place}
use Rattle.xmp_exchanges.specs.declared.transfer.Transfer.{Transfer}
use Rattle.xmp_exchanges.specs.Places.{words_at, with_words}

-- a value in a type, or as it is
abbrev pub converted : Option Ty → ℤ → ℤ
converted (Some ty) = wrap ty
converted None = λ v. v

-- the words of a node
abbrev pub words_on : ProgParts → Place → Nodes → (node : ℕ) → List ℤ
words_on p place w node = words_at place (store_at (node_beginning p 0 0) w node)

-- what one node says to another
abbrev pub said_in : ProgParts → Ways → List Pair → (source : Place) → Nodes → (from to : ℕ) → Message
said_in p ways pairs source w from to = words_alone (packed (words_on p source w from) (sends ways pairs from to))

-- the words of a node, once it unpacked what all say
abbrev pub left_in : ProgParts → Ways → List Pair → (ℤ → ℤ) → (source target : Place) → Nodes → (node : ℕ) → List ℤ
left_in p ways pairs conv source target w node =
    unpacked_of conv ways pairs (words_on p source w) (words_on p target w node) node (range_with_len 0 (node_count p))

abbrev pub exchanged_by : ProgParts → Ways → List Pair → (ℤ → ℤ) → (source target : Place) → RunIn Nodes Flow
exchanged_by p ways pairs conv source target = λ w.
    then_run (say (λ x. said_in p ways pairs source w))
    (all_do Next (λ node s. Gave Next (with_words target (left_in p ways pairs conv source target w node) s))) w

-- a transfer with these numbers
abbrev pub exchanged : ProgParts → Transfer → (args : List ℤ) → RunIn Nodes Flow
exchanged p t args = exchanged_by p (ways_of t.kind) (pairs_of t.kind args) (converted t.converts) t.source t.target
