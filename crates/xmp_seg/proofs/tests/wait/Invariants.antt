use Rattle.std.proofs.Common.{true}
use Rattle.xmp_seg.specs.Examples.{IsAt}
use Rattle.xmp_seg.proofs.tests.wait.Given as goal

-- it has arrived, and not passed
abbrev pub invariant-loop : goal.invariant-loop
invariant-loop g l = IsAt l.fn.segment l.fn.k l.fn.q 1 true l.seat
