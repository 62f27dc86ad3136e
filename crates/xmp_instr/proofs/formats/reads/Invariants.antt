use Rattle.std.proofs.Common.{◌≡◌, drop}
use Rattle.xmp_instr.specs.declared.formats.Mode.TheVariants.{Outside}
use Rattle.xmp_instr.specs.FormatTests.{read_on}
use Rattle.xmp_instr.proofs.formats.reads.Given as goal

-- what is left to read gives what the whole gives
abbrev pub invariant-bytes : goal.invariant-bytes
invariant-bytes l = read_on Outside l.fn.format ≡ read_on l.mode (drop l.byte-index l.format)
