use Rattle.std.proofs.Common.{◌≡◌, ◌∙◌, arith, rules, pos, get_or}
use Rattle.std.proofs.lemmas.Int.{ints}
use Rattle.xmp_directives.proofs.NodeRanges.{range_step}
use Rattle.xmp_directives.proofs.directives.ranges.Goals as goal
use mir.Syntax.{w64}
use mir.Val.{SFits, of_z, to_z}

pub sizes-preserved : goal.sizes-preserved
sizes-preserved c =
    let f : SFits w64 (get_or c.args.sizes.now c.sizes.i (pos 0)) = search rules in
    let e : to_z w64 (of_z w64 (get_or c.args.sizes.now c.sizes.i (pos 0))) ≡ get_or c.args.sizes.now c.sizes.i (pos 0) = omega (arith, ints) in
    c.sizes.invariant
    ∙ range_step c.sizes.done c.push.new.self c.args.sizes.now c.args.pieces.now c.sizes.i _ c.piece_at.result c.range_of.result c.sizes-test.true
    e c.piece_at.ensures c.range_of.ensures c.in_ok-push.ensures.ok
