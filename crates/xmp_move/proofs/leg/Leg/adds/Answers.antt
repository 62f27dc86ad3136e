use Rattle.std.proofs.Common.{◌≡◌, ◌≤◌, arith}
use Rattle.xmp_move.specs.Axes.{at}
use Rattle.xmp_move.proofs.LegLaws.{adds_small}
use Rattle.xmp_move.proofs.leg.Leg.adds.Goals as goal

pub overflow_mul-result : goal.overflow_mul-result
overflow_mul-result c =
    let leg = c.args.self.now in
    let f = c.requires.fits in
    let w = f.slots in
    let i = w.inside c.args.k c.requires.inside in
    let s = adds_small leg.side (at leg.slots c.args.k) leg.extents.2 leg.weight 4194304 (omega (arith, i)) f.weight in
    rw (c.position.ensures, c.at.ensures) (omega (arith, s))
