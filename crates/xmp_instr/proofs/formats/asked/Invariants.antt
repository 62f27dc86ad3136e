use Rattle.std.proofs.Common.{◌≡◌, ◌+◌, ◌≤◌, drop, false}
use Rattle.xmp_instr.specs.FormatTests.{asked_from}
use Rattle.xmp_instr.proofs.formats.asked.Given as goal

-- what was counted, and what the rest asks for, are what the whole asks for
abbrev pub invariant-bytes : goal.invariant-bytes
invariant-bytes l = (asked_from false l.fn.format ≡ l.count + asked_from l.inside (drop l.byte-index l.format)) × (l.count ≤ l.byte-index)
