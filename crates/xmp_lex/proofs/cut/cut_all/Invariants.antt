use Rattle.std.proofs.Common.{length}
use Rattle.xmp_lex.specs.Found.{state_of}
use Rattle.xmp_lex.proofs.CutLemmas.{In}
use Rattle.xmp_lex.proofs.cut.cut_all.Given as goal

abbrev pub invariant-loop-rest : goal.invariant-loop-rest
invariant-loop-rest l = In l.text l.tokens.items l.at (state_of l.mode) l.rest

abbrev pub decreases-loop-rest : goal.decreases-loop-rest
decreases-loop-rest l = length l.rest
