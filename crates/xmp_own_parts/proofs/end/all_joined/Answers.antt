use Rattle.std.proofs.Common.{ap, sym, ◌∙◌}
use Rattle.xmp_meaning.specs.LoopEnds.{joined, no_turn}
use Rattle.xmp_own_parts.proofs.Ends.{joined_more}
use Rattle.xmp_own_parts.proofs.end.all_joined.Goals as goal

pub ends-preserved : goal.ends-preserved
ends-preserved c =
    c.in_ok-so_far.ensures {u = tt}
    ∙ ap (λ s. joined c.args.p.now c.args.reductions.now s c.in-Some.end) c.ends.invariant
    ∙ sym (joined_more c.args.p.now c.args.reductions.now (no_turn c.args.p.now c.args.reductions.now) c.ends.yielded c.in-Some.end)
