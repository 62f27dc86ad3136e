use Rattle.std.proofs.Common.{◌≡◌, ◌<◌, ℕ, get_or}
use Rattle.xmp_lex.specs.Bytes.{value, digit}
use Rattle.xmp_lex.proofs.bytes.value.Given as goal

abbrev pub invariant-loop-byte : goal.invariant-loop-byte
invariant-loop-byte l = record {
  sum : l.sum ≡ value l.base l.digits l.byte-index;
  fits : l.sum < 9223372036854775808;
  each : (k : ℕ) → k < l.byte-index → digit (get_or l.digits k 0) < l.base;
}
