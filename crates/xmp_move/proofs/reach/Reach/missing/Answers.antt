use Rattle.std.proofs.Common.{◌≡◌, ◌+◌, ◌/◌, ◌%◌, ◌∙◌, ap, arith}
use Rattle.std.specs.Prelude.{◌==◌}
use Rattle.xmp_move.specs.Reaches.{reaches}
use Rattle.xmp_move.proofs.reach.Reach.missing.Goals as goal

pub returns-in-Rounds-clause-none : goal.returns-in-Rounds-clause-none
returns-in-Rounds-clause-none c = λ d l.
    let r = c.in-Rounds in
    let e : c.args.x + d + r.offset ≡ c.args.x + r.offset + d = omega arith in
    ap (λ r. reaches r (c.args.x + d)) r.is ∙ ap (λ g. ((g / r.width) % r.nodes) == r.node) e ∙ c.to_chunk.ensures.none d l
