use Rattle.xmp_races.proofs.StopLaws.{after_more, stops_more}
use Rattle.xmp_races.proofs.stops.first_of_stops.Goals as goal

pub stops-preserved : goal.stops-preserved
stops-preserved c = record {
  before = after_more c.args.stops.now c.stops.s-index _ c.stops.before c.phases_with-before.result c.stops-test.true c.stops.invariant.before
      c.phases_with-before.ensures;
  found = stops_more c.args.stops.now c.stops.s-index _ c.stops.before c.stops.found c.found_at.result c.earlier-found.result c.stops-test.true
      c.stops.invariant.before c.stops.invariant.found c.found_at.ensures c.earlier-found.ensures.first;
}
