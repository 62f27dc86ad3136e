use Rattle.std.proofs.Common.{◌≡◌, ◌≤◌, ◌∙◌, ap, arith, List, ℕ, length, map}
use Rattle.std.proofs.lemmas.List.{take_all}
use Rattle.xmp_serial.specs.Lines.{keeps_all}
use Rattle.xmp_serial.proofs.Laid.{whole_axes}
use Rattle.xmp_serial.proofs.laying.whole_axes.Goals as goal

pub returns : goal.returns
returns c =
    let over : length c.args.extents.now ≤ c.extents.extent-index = omega arith in
    whole_axes c.extents.axes c.args.extents.now (c.extents.invariant ∙ ap (map keeps_all) (take_all c.extents.extent-index c.args.extents.now over))
