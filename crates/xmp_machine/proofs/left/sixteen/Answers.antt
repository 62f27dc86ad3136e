use Rattle.std.proofs.Common.{rules, get_or}
use Rattle.std.proofs.lemmas.List.FromFn.{fill_by_all}
use Rattle.xmp_machine.proofs.left.sixteen.Goals as goal

pub returns : goal.returns
returns c = fill_by_all (λ k. get_or c.args.counts.now k 0) c.nodes.all 16 0 c.nodes.invariant.long (search rules)
