use Rattle.xmp_races.proofs.GuardLaws.{chosen_more}
use Rattle.xmp_races.proofs.guards.chosen.Goals as goal

pub counts-preserved : goal.counts-preserved
counts-preserved c =
    chosen_more c.args.counts.now c.args.values.now c.counts.image c.args.holding _ c.goes_on.result c.counts.found c.push.new.self _ c.counts-test.true
    c.in_ok-push.ensures.ok c.goes_on.ensures c.counts.invariant
