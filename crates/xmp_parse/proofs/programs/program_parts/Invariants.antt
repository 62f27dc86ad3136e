use Rattle.std.proofs.Common.{length}
use Rattle.xmp_parse.proofs.PartsRead.{PartsSoFar}
use Rattle.xmp_parse.proofs.programs.program_parts.Given as goal

abbrev pub invariant-loop-alloc : goal.invariant-loop-alloc
invariant-loop-alloc l = PartsSoFar l.fn.r l.parts l.function l.rest

abbrev pub decreases-loop-alloc : goal.decreases-loop-alloc
decreases-loop-alloc l = length l.rest.tokens.now
