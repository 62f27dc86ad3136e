use Rattle.std.proofs.Common.{◌≡◌, ◌++◌, drop}
use Rattle.xmp_races.specs.Footprints.{those_from}
use Rattle.xmp_races.proofs.guards.chosen.Given as goal

abbrev pub invariant-counts : goal.invariant-counts
invariant-counts l = l.found ++ those_from l.image (drop l.image l.counts) l.values l.holding ≡ those_from 0 l.counts l.values l.holding
