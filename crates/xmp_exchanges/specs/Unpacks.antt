-- What a node does with the plans and the tables of all: it unpacks.
use Rattle.std.specs.Prelude.{ℕ, ℤ, List}
use Rattle.xmp_meaning.specs.declared.ends.Flow.{Flow}
use Rattle.xmp_meaning.specs.declared.ends.Flow.TheVariants.{Next}
use Rattle.xmp_meaning.specs.Runs.{Gave, Run}
use Rattle.xmp_move.specs.Plans.{Lists}
use Rattle.xmp_exchanges.specs.declared.transfer.Transfer.{Transfer}
use Rattle.xmp_exchanges.specs.Delivered.{delivered, fills_on}
use Rattle.xmp_exchanges.specs.Places.{words_at, with_words}
use Rattle.xmp_exchanges.specs.Transfers.{converted}

abbrev pub unpacks : Transfer → List Lists → (tables : List (List (List ℤ))) → (node : ℕ) → Run (Unit {0}) Flow
unpacks t plans tables node = λ s. Gave Next (with_words t.target
    (delivered (converted t.converts) (fills_on plans node) node 0 (words_at t.target s) tables) s)
