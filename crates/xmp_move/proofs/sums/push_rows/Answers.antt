use Rattle.std.proofs.Common.{rules, ◌≡◌, ◌<◌, ◌+◌, ◌^◌, ◌∙◌, ◌++◌, ap, map, length, ℕ, get_or, take, arith}
use Rattle.xmp_move.specs.Sums.{pair_sums}
use Rattle.xmp_move.proofs.SumLaws.{pair_none, pair_more, pair_within}
use Rattle.xmp_move.proofs.sums.push_rows.Goals as goal

pub loop-y-init : goal.loop-y-init
loop-y-init c = pair_none (λ r. c.args.base + (c.args.x + r)) c.args.out.now.items c.args.ys.now c.args.zs.now

pub push_row-requires : goal.push_row-requires
push_row-requires c =
    pair_within (λ r. c.args.base + (c.args.x + r) < 2 ^ 32) c.args.ys.now c.args.zs.now c.loop-y.y-index c.loop-y-test.true c.requires

pub loop-y-preserved : goal.loop-y-preserved
loop-y-preserved c =
    c.in_ok-push_row.ensures
    ∙ ap (λ t. t ++ map (λ z. c.args.base + (c.args.x + (get_or c.args.ys.now c.loop-y.y-index 0 + z))) c.args.zs.now) c.loop-y.invariant
    ∙ pair_more (λ r. c.args.base + (c.args.x + r)) c.args.out.now.items c.args.ys.now c.args.zs.now c.loop-y.y-index c.loop-y-test.true
