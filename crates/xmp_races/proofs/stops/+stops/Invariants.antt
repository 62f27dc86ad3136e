use Rattle.std.proofs.Common.{◌≡◌, ◌++◌, map, drop}
use Rattle.xmp_races.specs.Syncs.{all_stops, stops_of}
use Rattle.xmp_races.proofs.stops.+stops.Given as goal

-- those so far, and those of the statements that are left, are all
abbrev pub invariant-stops_of_all-items : goal.invariant-stops_of_all-items
invariant-stops_of_all-items l =
    l.out ++ all_stops (map (stops_of l.count l.values) (drop l.x-index l.all)) l.r
    ≡ l.fn.out ++ all_stops (map (stops_of l.count l.values) l.all) l.r

abbrev pub invariant-stops_of_tasks-items : goal.invariant-stops_of_tasks-items
invariant-stops_of_tasks-items l =
    l.out ++ all_stops (map (λ t. stops_of l.count l.values t.body) (drop l.t-index l.all)) l.r
    ≡ l.fn.out ++ all_stops (map (λ t. stops_of l.count l.values t.body) l.all) l.r
