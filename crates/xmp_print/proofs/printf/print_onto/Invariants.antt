use Rattle.std.proofs.Common.{◌≡◌, ◌++◌, drop, None}
use Rattle.xmp_print.specs.Printing.{text_from}
use Rattle.xmp_print.proofs.printf.print_onto.Given as goal

-- what is written, and what the rest writes, are what the whole writes
abbrev pub invariant-bytes : goal.invariant-bytes
invariant-bytes l = l.fn.out ++ text_from None l.fn.format l.fn.values ≡ l.out ++ text_from l.width (drop l.b-index l.format) l.left
