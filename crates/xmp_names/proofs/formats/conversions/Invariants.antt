use Rattle.std.proofs.Common.{◌≡◌, drop, []}
use Rattle.xmp_names.specs.Formats.{conversions}
use Rattle.xmp_names.specs.declared.formats.Mode.TheVariants.{Outside}
use Rattle.xmp_names.proofs.formats.conversions.Given as goal

abbrev pub invariant-bytes : goal.invariant-bytes
invariant-bytes l = conversions Outside [] l.fn.bytes ≡ conversions l.mode l.done (drop l.byte-index l.bytes)
