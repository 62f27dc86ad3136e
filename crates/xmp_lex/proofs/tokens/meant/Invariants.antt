use Rattle.std.proofs.Common.{◌≡◌, ◌<◌, ℕ}
use Rattle.xmp_lex.specs.Bytes.{escaped, content, IsBadEscape}
use Rattle.xmp_lex.proofs.tokens.meant.Given as goal

abbrev pub invariant-loop-i : goal.invariant-loop-i
invariant-loop-i l = record {
  state : l.escaped ≡ escaped l.text l.i;
  out : l.out ≡ content l.text l.i;
  before : (j : ℕ) → j < l.i → IsBadEscape l.text j → ⊥;
}
