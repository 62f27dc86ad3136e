use Rattle.std.proofs.Common.{◌≤◌, length, arith}
use Rattle.xmp_meaning.specs.Layouts.{Whole}
use Rattle.xmp_serial.proofs.Laid.{lines_all, lines_more}
use Rattle.xmp_serial.proofs.laying.whole_lines.Goals as goal

pub arrays-preserved : goal.arrays-preserved
arrays-preserved c =
    lines_more Whole c.args.p.now c.as_slice-arrays.result.now c.arrays._k c.index-arrays-k.result c.arrays.lines.items c.push_line.new.lines.items c.in_ok-line.line
    c.arrays-test.true c.index-arrays-k.is c.arrays.invariant (c.in_ok-line.ensures {u = tt}) (c.in_ok-push_line.ensures {u = tt})
