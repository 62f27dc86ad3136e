-- The rule of a ring: the entries taken, then those on the ring, are those put, and these are a piece of the stream. Source: this project.
use Rattle.std.specs.Prelude.{◌≡◌, ℕ, Bool, true, List, [], ◌∷◌, ◌++◌}
use mathlib.Core.Option.{some}
use lib.ListN.{get_elem?}
use Rattle.xmp_message.specs.declared.Message.{Message}
use Rattle.xmp_ring.specs.declared.received.Received.{Received}
use Rattle.xmp_ring.specs.declared.received.Port.{Port}
use Rattle.xmp_ring.specs.Pieces.{IsPiece}

-- what a pass knows, from its parts
abbrev pub port : Bool → Bool → ℕ → List Received → Port
port sends receives ring entries = record { sends = sends; receives = receives; ring = ring; entries = entries }

-- the same with one entry more
abbrev pub with_entry : Port → Received → Port
with_entry v x = record v { entries = v.entries ++ x ∷ [] }

-- How a ring stands: its number, the passes that may push and pop, and the entries pushed and popped so far.
pub record Course : Type 0 where
  pub ring : ℕ
  pub writer : ℕ
  pub reader : ℕ
  pub sent : List Received
  pub taken : List Received

-- a pass that may push is the writer, and knows what was sent; one that may pop is the reader, and knows what was taken
abbrev pub Fits : Course → ℕ → Port → Type 0
Fits c at v =
    (v.sends ≡ true → (at ≡ c.writer) × (v.ring ≡ c.ring) × (v.entries ≡ c.sent))
    × (v.receives ≡ true → (at ≡ c.reader) × (v.ring ≡ c.ring) × (v.entries ≡ c.taken))

-- A ring with these items, whose passes know what these views say, stands so.
pub record Stands (streams : ℕ → List Message) (items : List Received) (views : List Port) (c : Course) : Type 0 where
  pub whole : c.sent ≡ c.taken ++ items
  pub piece : IsPiece (streams c.ring) c.sent
  pub known : (at : ℕ) (v : Port) → get_elem? views at ≡ some v → Fits c at v

-- the rule of a ring
abbrev pub Ruled : (ℕ → List Message) → List Received → List Port → Type 0
Ruled streams items views = (c : Course) × Stands streams items views c
