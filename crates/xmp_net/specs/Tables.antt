-- Traffics as tables (this project): lists, which code can't have but ghost values can, and one alone for nodes that
-- carry it.
use Rattle.std.specs.Prelude.{◌≡◌, ℕ, ◌<◌, List, [], length, get_or}
use Rattle.xmp_net.specs.Nodes.{Nodes}
use Rattle.xmp_net.specs.Traffic.{Traffic, AllCarry}

-- for each exchange and node its row of messages; `none` stands for one that isn't there
abbrev pub Table : Type 0 → Type 0
Table M = List (List (List M))

-- the traffic of a table
abbrev pub traffic_of : {M : Type 0} → M → Table M → Traffic M
traffic_of none table = record {
  exchanges = length table;
  message = λ t i j. get_or (get_or (get_or table t []) i []) j none;
}

-- Each exchange has a row for each node, and each row a message for each node, where the one to itself is `none`.
pub record IsTable {S M : Type 0} (n : Nodes S M) (none : M) (table : Table M) : Type 0 where
  pub rows : (t : ℕ) → t < length table → length (get_or table t []) ≡ n.count
  pub messages : (t i : ℕ) → t < length table → i < n.count → length (get_or (get_or table t []) i []) ≡ n.count
  pub itself : (t i : ℕ) → t < length table → i < n.count → get_or (get_or (get_or table t []) i []) i none ≡ none

-- the table of a traffic that all nodes carry
abbrev pub Carried : {S M : Type 0} → Nodes S M → M → Type 0
Carried {S} {M} n none = (table : Table M) × (IsTable n none table × AllCarry n (traffic_of none table))
