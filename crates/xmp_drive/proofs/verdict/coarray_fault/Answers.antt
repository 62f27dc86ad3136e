use Rattle.std.proofs.Common.{◌∙◌, sym, inl}
use Rattle.xmp_drive.proofs.NoCoarray.{at_coarray}
use Rattle.xmp_drive.proofs.verdict.coarray_fault.Goals as goal

pub returns-in-Ok-Some : goal.returns-in-Ok-Some
returns-in-Ok-Some c = inl (at_coarray c.args.t.now c.args.given c.in-Ok-Some.at c.requires.named (sym c.in-Ok-Some.ensures ∙ c.in-Ok-Some.field-0-is))
