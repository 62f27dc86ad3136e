use Rattle.std.proofs.Common.{◌≡◌, ◌≤◌, ◌*◌, arith}
use Rattle.xmp_move.proofs.EndLaws.{weighted_is, pair_small}
use Rattle.xmp_move.proofs.side.weighted.Goals as goal

pub overflow_mul-rows : goal.overflow_mul-rows
overflow_mul-rows c =
    let p = pair_small c.args.axes.now _ _ c.count-rows.result c.count-columns.result 4194304 c.told-axes c.count-rows.ensures c.count-columns.ensures c.requires.small in
    omega (arith, p)

pub returns : goal.returns
returns c =
    weighted_is c.args.axes.now _ _ _ c.weigh.result c.weigh-2.result c.weigh-3.result c.count-rows.result c.count-columns.result
    c.told-axes c.count-rows.ensures c.count-columns.ensures c.weigh.ensures c.weigh-2.ensures c.weigh-3.ensures
