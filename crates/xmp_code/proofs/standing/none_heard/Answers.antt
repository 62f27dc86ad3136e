use Rattle.std.proofs.Common.{◌≡◌, ◌<◌, ◌∙◌, ap, length, replicate, arith, None}
use Rattle.xmp_code.proofs.Replicated.{replicated}
use Rattle.xmp_code.proofs.standing.none_heard.Goals as goal

pub returns : goal.returns
returns c =
    let l = c.nodes.invariant.long in
    let all = c.nodes-test.false in
    let e = c.len-count.ensures in
    replicated c.nodes.heard.items None (λ n h. c.nodes.invariant.each n (omega (arith, h, l, all, e))) ∙ ap (λ n. replicate n None) l
