use Rattle.std.proofs.Common.{◌≡◌, ◌<◌, ℕ, true, get_or}
use Rattle.xmp_lex.specs.Bytes.{escaped, is_end}
use Rattle.xmp_lex.proofs.bytes.text_end.Given as goal

abbrev pub invariant-loop-i : goal.invariant-loop-i
invariant-loop-i l = record {
  state : l.escaped ≡ escaped l.text l.i;
  before : (k : ℕ) → k < l.i → is_end (get_or l.text k 0) (escaped l.text k) ≡ true → ⊥;
}
