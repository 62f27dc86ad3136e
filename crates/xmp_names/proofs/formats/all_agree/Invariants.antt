use Rattle.std.proofs.Common.{◌≡◌, drop}
use Rattle.xmp_names.specs.Formats.{all_agree}
use Rattle.xmp_names.proofs.formats.all_agree.Given as goal

abbrev pub invariant-types : goal.invariant-types
invariant-types l = all_agree l.fn.types l.fn.arguments ≡ all_agree (drop l.ty-index l.types) l.left
