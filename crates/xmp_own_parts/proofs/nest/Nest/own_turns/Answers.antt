use Rattle.xmp_own_parts.proofs.OwnTurns.{loop_is_turns, passed_is_empty}
use Rattle.xmp_own_parts.proofs.nest.Nest.own_turns.Goals as goal

pub returns : goal.returns
returns c = record {
  all = λ heads. loop_is_turns c.args.self.now c.args.chosen.now c.args.head.now c.turns-turns.result heads c.requires c.turns-turns.ensures.count c.turns-turns.ensures.values;
  passed = λ k lt passed heads. passed_is_empty c.args.self.now c.args.chosen.now c.turns-turns.result c.axis-axis.result k heads c.axis-axis.ensures passed;
}
