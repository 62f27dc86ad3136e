use Rattle.std.proofs.Common.{◌≡◌, ◌∙◌, sym, rules, length}
use Rattle.xmp_move.proofs.ReachLaws.{along_lt}
use Rattle.xmp_move.proofs.reach.held_on.Goals as goal

pub held-requires-clause-node : goal.held-requires-clause-node
held-requires-clause-node c =
    let l : length c.args.template.now.grid.sizes ≡ 3 = search rules in
    along_lt c.args.template.now c.args.dim.now.target.dim c.in-Some.spread c.args.node c.along.result l c.requires.node (sym c.under.ensures ∙ c.in-Some.is) c.along.ensures
