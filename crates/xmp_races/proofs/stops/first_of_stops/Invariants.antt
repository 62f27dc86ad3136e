use Rattle.std.proofs.Common.{◌≡◌, take}
use Rattle.xmp_base.specs.First.{IsFirst}
use Rattle.xmp_races.specs.Syncs.{BreaksAtStop, phases_after}
use Rattle.xmp_races.proofs.stops.first_of_stops.Given as goal

-- the first of those so far, and how many phases end up to there
abbrev pub invariant-stops : goal.invariant-stops
invariant-stops l = record {
  before : l.before ≡ phases_after 0 (take l.s-index l.stops);
  found : IsFirst (BreaksAtStop 0 (take l.s-index l.stops)) l.found;
}
