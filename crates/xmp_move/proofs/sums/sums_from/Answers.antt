use Rattle.std.proofs.Common.{rules, ◌≡◌, ◌<◌, ◌+◌, ◌^◌, ◌∙◌, ◌++◌, ap, map, length, ℕ, get_or, take, arith}
use Rattle.xmp_move.specs.Sums.{pair_sums, three_sums}
use Rattle.xmp_move.proofs.SumLaws.{three_none, three_more, three_within}
use Rattle.xmp_move.proofs.sums.sums_from.Goals as goal

pub loop-x-init : goal.loop-x-init
loop-x-init c = c.new-out.ensures.items ∙ three_none (λ r. c.args.base + r) c.args.xs.now c.args.ys.now c.args.zs.now

pub push_rows-requires : goal.push_rows-requires
push_rows-requires c =
    three_within (λ r. c.args.base + r < 2 ^ 32) c.args.xs.now c.args.ys.now c.args.zs.now c.loop-x.x-index c.loop-x-test.true c.requires

pub loop-x-preserved : goal.loop-x-preserved
loop-x-preserved c =
    c.in_ok-push_rows.ensures
    ∙ ap (λ t. t ++ map (λ r. c.args.base + (get_or c.args.xs.now c.loop-x.x-index 0 + r)) (pair_sums c.args.ys.now c.args.zs.now)) c.loop-x.invariant
    ∙ three_more (λ r. c.args.base + r) c.args.xs.now c.args.ys.now c.args.zs.now c.loop-x.x-index c.loop-x-test.true
