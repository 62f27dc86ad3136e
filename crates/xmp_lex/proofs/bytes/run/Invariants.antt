use Rattle.std.proofs.Common.{◌≡◌, ◌<◌, ℕ, false, get_or}
use Rattle.xmp_lex.specs.Bytes.{is_word}
use Rattle.xmp_lex.proofs.bytes.run.Given as goal

abbrev pub invariant-loop-i : goal.invariant-loop-i
invariant-loop-i l = (k : ℕ) → k < l.i → is_word (get_or l.text k 0) ≡ false → ⊥
