use Rattle.std.proofs.Common.{take}
use Rattle.xmp_meaning.specs.Layouts.{Packed}
use Rattle.xmp_serial.specs.Lines.{AreLines}
use Rattle.xmp_serial.proofs.packing.packed_lines.Given as goal

abbrev pub invariant-arrays : goal.invariant-arrays
invariant-arrays l = AreLines (Packed l.node) l.p l.lines.items (take l._k l.arrays)
