use Rattle.std.proofs.Common.{length}
use Rattle.xmp_lex.proofs.ExpandLemmas.{InText}
use Rattle.xmp_lex.proofs.macros.expand_all.Given as goal

abbrev pub invariant-loop-token : goal.invariant-loop-token
invariant-loop-token l = InText l.fn.tokens.items l.definitions l.rest.items l.output

abbrev pub decreases-loop-token : goal.decreases-loop-token
decreases-loop-token l = length l.rest.items
