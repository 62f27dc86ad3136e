use Rattle.std.proofs.Common.{◌≡◌, ◌++◌, drop}
use Rattle.xmp_instr.specs.Listing.{lines, listing}
use Rattle.xmp_instr.proofs.listing.list.Given as goal

-- what is written, and the lines of the rest, are all
abbrev pub invariant-lines : goal.invariant-lines
invariant-lines l = listing l.code.instrs ≡ l.text ++ lines l.k (drop l.k l.instrs)
