-- What a bcast says.
use Rattle.std.specs.Prelude.{ℕ, ℤ, Bool, false, List, [], if◌then◌else◌, slice_get, unwrap_or}
use Rattle.xmp_meaning.specs.Messages.{Message, words_alone}

-- these values by each node that is a member
abbrev pub cast_said : (members : List Bool) → (values : List ℤ) → (from to : ℕ) → Message
cast_said members values from to = words_alone (if unwrap_or (slice_get members from) false then values else [])
