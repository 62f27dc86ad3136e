use Rattle.std.proofs.Common.{take}
use Rattle.xmp_meaning.specs.Layouts.{Whole}
use Rattle.xmp_serial.specs.Lines.{AreLines}
use Rattle.xmp_serial.proofs.laying.whole_lines.Given as goal

abbrev pub invariant-arrays : goal.invariant-arrays
invariant-arrays l = AreLines Whole l.p l.lines.items (take l._k l.arrays)
