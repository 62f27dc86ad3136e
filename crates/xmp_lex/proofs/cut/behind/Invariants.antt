use Rattle.std.proofs.Common.{◌≡◌, ◌≤◌, ◌+◌, drop}
use Rattle.xmp_lex.specs.Cut.{behind}
use Rattle.xmp_lex.proofs.cut.behind.Given as goal

abbrev pub invariant-loop-byte : goal.invariant-loop-byte
invariant-loop-byte l = record {
  value : behind l.place (drop l.byte-index l.piece) ≡ behind l.fn.at l.piece;
  line : l.place.line ≤ l.fn.at.line + l.byte-index;
  column : l.place.column ≤ l.fn.at.column + l.byte-index;
}
