-- What nodes say by tables of words.
use Rattle.std.specs.Prelude.{◌≡◌, ◌==◌, ℕ, ℤ, Bool, true, List, [], ◌∷◌, length}
use Rattle.std.specs.List.{list_all}
use Rattle.xmp_meaning.specs.Runs.{State}
use Rattle.xmp_meaning.specs.Messages.{Message, words_alone}
use Rattle.xmp_move.specs.Plans.{Lists}
use Rattle.xmp_nodes.specs.Nodes.{Nodes}
use Rattle.xmp_exchanges.specs.declared.words.Place.{Place}
use Rattle.xmp_exchanges.specs.Places.{words_at}
use Rattle.xmp_exchanges.specs.Plans.{list_at, packed_for}

-- the words from one node to another
abbrev pub told : List (List (List ℤ)) → (from to : ℕ) → Message
told tables from to = words_alone (list_at (list_at tables from) to)

-- each row has so many numbers
abbrev pub are_long : (count : ℕ) → List (List ℕ) → Bool
are_long count rows = list_all (λ row. length row == count) rows

-- there are so many nodes, each with a count of words for each
pub record AreMany (w : Nodes) (count : ℕ) : Type 0 where
  pub stores : length w.stores ≡ count
  pub sent : length w.sent ≡ count
  pub rows : are_long count w.sent ≡ true

-- what each node has for each of so many, from its words at a place
abbrev pub tables_of : Place → (count : ℕ) → List Lists → List (State (Unit {0})) → List (List (List ℤ))
tables_of source count [] stores = []
tables_of source count (p ∷ plans) [] = []
tables_of source count (p ∷ plans) (s ∷ stores) = packed_for p.sends (words_at source s) count ∷ tables_of source count plans stores
