use Rattle.std.proofs.Common.{◌≡◌, ◌+◌, ◌-◌, ℕ, length}
use Rattle.std.specs.List.{slice_get}
use Rattle.xmp_mapping_rules.specs.Numbers.{held}
use Rattle.xmp_mapping_rules.proofs.numbers.make_room.Given as goal

abbrev pub invariant-room : goal.invariant-room
invariant-room l = (k : ℕ) → held (slice_get l.places k) ≡ held (slice_get l.fn.places k)

abbrev pub decreases-room : goal.decreases-room
decreases-room l = l.number + 1 - length l.places
