-- The table of the copies that may be out of date, at one object, and the trail of its changes.
use Rattle.std.specs.Prelude.{ℕ, ◌≡◌, ◌==◌, Bool, List, [], ◌∷◌, ◌++◌, drop, if◌then◌else◌, slice_index, bit_or}
use Rattle.xmp_paths.specs.NodeSets.{has}
use Rattle.xmp_paths.specs.Plans.{Plan}
use Rattle.xmp_paths.specs.May.{may_leave}
use Rattle.xmp_paths.specs.declared.event.Event.{Event}
use Rattle.xmp_paths.specs.declared.copies.Change.{Change}
use Rattle.xmp_paths.specs.declared.copies.Copies.{Copies}

-- the nodes whose copies of the object may be out of date
abbrev pub set_of : Copies → ℕ → ℕ
set_of copies object = slice_index copies.sets.items object

-- whether the node's copy of the object may be
abbrev pub may_be_stale : Copies → (object node : ℕ) → Bool
may_be_stale copies object node = has (set_of copies object) node

-- the object's set once the entries are undone, the last first: so its first entry decides
abbrev pub undone_at : ℕ → List Change → ℕ → ℕ
undone_at object [] nodes = nodes
undone_at object (c ∷ entries) nodes = if c.object == object then c.nodes else undone_at object entries nodes

-- the object's set where the trail had so many entries
abbrev pub set_before : Copies → ℕ → ℕ → ℕ
set_before copies count object = undone_at object (drop count copies.trail) (set_of copies object)

-- the object's set once the changes are made, the first first
abbrev pub put_at : ℕ → List Change → ℕ → ℕ
put_at object [] nodes = nodes
put_at object (c ∷ changes) nodes = put_at object changes (if c.object == object then c.nodes else nodes)

-- the object's set with those of its changes added
abbrev pub add_at : ℕ → List Change → ℕ → ℕ
add_at object [] nodes = nodes
add_at object (c ∷ changes) nodes = add_at object changes (if c.object == object then bit_or nodes c.nodes else nodes)

-- the object of an entry, with its set now
abbrev pub change_now : Copies → Change → Change
change_now copies c = record { object = c.object; nodes = set_of copies c.object }

-- a change, with the nodes that its object has now
abbrev pub change_joined : Copies → Change → Change
change_joined copies c = record { object = c.object; nodes = bit_or c.nodes (set_of copies c.object) }

-- the copies can be undone to this trail and these sets
pub record ReturnsTo (trail : List Change) (sets : ℕ → ℕ) (new : Copies) : Type 0 where
  pub more : List Change
  pub grown : new.trail ≡ trail ++ more
  pub undone : (object : ℕ) → undone_at object more (set_of new object) ≡ sets object

-- the new copies can be undone to the old
abbrev pub Returns : Copies → Copies → Type 0
Returns old new = ReturnsTo old.trail (set_of old) new

-- the new copies may be out of date as the plan leaves the old
abbrev pub CarriesOver : Plan Event → Copies → Copies → Type 0
CarriesOver plan old new =
    (object node : ℕ) → may_be_stale new object node ≡ may_leave object node plan (may_be_stale old object node)
