-- Tables by number.
use Rattle.std.specs.Prelude.{ℕ, Bool, false, List, slice_get, nat_eq}
use Rattle.std.specs.Map.{lookup}
use Rattle.std.specs.Option.{unwrap_or}
use Rattle.xmp_loops.specs.declared.role.Role.{Role}
use Rattle.xmp_loops.specs.declared.role.Role.TheVariants.{Shared}

-- the role that is put at a slot, and shared where none is
abbrev pub role_at : List (ℕ × Role) → ℕ → Role
role_at roles slot = unwrap_or (lookup (nat_eq slot) roles) Shared

-- a flag by number, and false where there is none
abbrev pub flag_at : List Bool → ℕ → Bool
flag_at flags n = unwrap_or (slice_get flags n) false
