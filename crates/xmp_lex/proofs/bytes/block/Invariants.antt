use Rattle.std.proofs.Common.{◌<◌, ◌+◌, ℕ}
use Rattle.xmp_lex.specs.Bytes.{IsClose}
use Rattle.xmp_lex.proofs.bytes.block.Given as goal

abbrev pub invariant-loop-i : goal.invariant-loop-i
invariant-loop-i l = (k : ℕ) → k + 1 < l.i → IsClose l.text k → ⊥
