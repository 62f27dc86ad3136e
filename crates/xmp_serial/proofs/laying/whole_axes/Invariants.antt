use Rattle.std.proofs.Common.{◌≡◌, map, take}
use Rattle.xmp_serial.specs.Lines.{keeps_all}
use Rattle.xmp_serial.proofs.laying.whole_axes.Given as goal

abbrev pub invariant-extents : goal.invariant-extents
invariant-extents l = l.axes ≡ map keeps_all (take l.extent-index l.extents)
