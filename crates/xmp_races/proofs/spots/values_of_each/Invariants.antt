use Rattle.std.proofs.Common.{◌≡◌, ◌++◌, map, drop}
use Rattle.xmp_races.specs.Setting.{values_at}
use Rattle.xmp_races.specs.Views.{setting_of}
use Rattle.xmp_races.proofs.spots.values_of_each.Given as goal

abbrev pub invariant-items : goal.invariant-items
invariant-items l = l.found ++ map (values_at (setting_of l.s)) (drop l.e-index l.es) ≡ map (values_at (setting_of l.s)) l.es
