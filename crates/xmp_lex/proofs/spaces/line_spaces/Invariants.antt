use Rattle.std.proofs.Common.{length}
use Rattle.xmp_lex.proofs.SpaceLemmas.{Along}
use Rattle.xmp_lex.proofs.spaces.line_spaces.Given as goal

abbrev pub invariant-loop-k : goal.invariant-loop-k
invariant-loop-k l = Along l.text l.rest l.n

abbrev pub decreases-loop-k : goal.decreases-loop-k
decreases-loop-k l = length l.rest
