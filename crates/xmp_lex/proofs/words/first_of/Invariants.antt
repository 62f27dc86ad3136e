use Rattle.xmp_lex.specs.Found.{IsNone}
use Rattle.xmp_lex.proofs.words.first_of.Given as goal

abbrev pub invariant-loop-mark : goal.invariant-loop-mark
invariant-loop-mark l = IsNone l.marks l.text l.mark-index
