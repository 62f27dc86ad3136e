use Rattle.std.proofs.Common.{◌≡◌, true, take}
use Rattle.std.specs.List.{list_all}
use Rattle.std.specs.Ordering.{int_eq}
use Rattle.xmp_races.proofs.stops.same_value.Given as goal

-- those so far are the first
abbrev pub invariant-values : goal.invariant-values
invariant-values l = list_all (int_eq l.first) (take l.value-index l.values) ≡ true
