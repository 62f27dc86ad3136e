-- The rules of names and mappings, and what is noted of a part of the tree. Source: this project.
use Rattle.std.specs.Prelude.{ℕ, ◌+◌, Bool, true, false, if◌then◌else◌, nat_lt, List, [], ◌∷◌, ◌++◌}
use Rattle.xmp_base.specs.declared.place.Place.{Place}
use Rattle.xmp_names.specs.declared.rules.Rule.{Rule}
use Rattle.xmp_names.specs.declared.rules.Broken.{Broken}
use Rattle.xmp_names.specs.declared.rules.Notes.{Notes}

-- A rule breaks at a place unless a test holds.
abbrev pub unless : Bool → Rule → Place → List Broken
unless true rule at = []
unless false rule at = record { rule = rule; at = at } ∷ []

-- The greater of two call depths.
abbrev pub greater : ℕ → ℕ → ℕ
greater a b = if nat_lt a b then b else a

-- The call depth of a function whose callees have a depth of at most this; 33 stands for every depth above 32.
abbrev pub deeper : ℕ → ℕ
deeper depth = if nat_lt 32 depth then depth else depth + 1

-- Nothing is noted.
abbrev pub no_notes : Notes
no_notes = record { deepest = 0; broken = [] }

-- First notes and then others.
abbrev pub joined : Notes → Notes → Notes
joined a b = record { deepest = greater a.deepest b.deepest; broken = a.broken ++ b.broken }

-- Notes, and that a rule breaks unless a test holds.
abbrev pub noted : Notes → Bool → Rule → Place → Notes
noted notes test rule at = record { deepest = notes.deepest; broken = notes.broken ++ unless test rule at }
