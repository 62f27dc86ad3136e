-- Pieces of a stream, and what contracts see of the ends of a ring. Source: this project.
use Rattle.std.specs.Prelude.{◌≡◌, ℕ, List, [], ◌∷◌, ◌++◌, length, map, take, slice_get, Some, ◌⊎◌}
use Rattle.xmp_message.specs.declared.Message.{Message}
use Rattle.xmp_ring.specs.declared.received.Received.{Received}
use Rattle.xmp_ring.specs.declared.received.Received.TheVariants.{Data, Stop}

-- the entries are the first messages of the stream
abbrev pub IsFront : List Message → List Received → Type 0
IsFront stream entries = entries ≡ map Data (take (length entries) stream)

-- the first messages of the stream, and perhaps one stop word behind them
abbrev pub IsPiece : List Message → List Received → Type 0
IsPiece stream entries = (messages : List Received) × IsFront stream messages × ((entries ≡ messages) ⊎ (entries ≡ messages ++ Stop ∷ []))

-- the last entry is the stop word
abbrev pub IsStopped : List Received → Type 0
IsStopped entries = (before : List Received) × (entries ≡ before ++ Stop ∷ [])

-- behind these entries the stream goes on with this message
abbrev pub IsNext : List Message → List Received → Message → Type 0
IsNext stream entries m = slice_get stream (length entries) ≡ Some m

-- the same where the entry is a message; the stop word is no message
abbrev pub IsNextEntry : List Message → List Received → Received → Type 0
IsNextEntry stream entries (Data m) = IsNext stream entries m
IsNextEntry stream entries Stop = ⊥

-- What contracts see of an end of a ring: the number of the ring, and the entries that this end has put or taken.
pub record End : Type 0 where
  pub ring : ℕ
  pub entries : List Received

-- an end that has put or taken nothing
abbrev pub fresh : ℕ → End
fresh ring = record { ring = ring; entries = [] }

-- the same end with one entry more
abbrev pub more : End → Received → End
more end x = record { ring = end.ring; entries = end.entries ++ x ∷ [] }

-- What the receiver of a stream answers. A message is the entry that this call took, and the stream's next. The stop word is
-- the entry that this call took, or what it took last before.
abbrev pub IsReceived : List Message → End → Received → End → Type 0
IsReceived stream old (Data m) new = (new ≡ more old (Data m)) × IsFront stream old.entries × IsNext stream old.entries m
IsReceived stream old Stop new = ((new ≡ more old Stop) × IsFront stream old.entries) ⊎ ((new ≡ old) × IsStopped old.entries)
