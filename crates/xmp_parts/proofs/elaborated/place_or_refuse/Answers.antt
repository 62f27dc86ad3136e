use Rattle.std.proofs.Common.{◌∙◌, sym}
use Rattle.xmp_parts.proofs.Verdicts.{unbroken}
use Rattle.xmp_parts.proofs.elaborated.place_or_refuse.Goals as goal

pub place_all-requires-clause-unbroken : goal.place_all-requires-clause-unbroken
place_all-requires-clause-unbroken c = unbroken c.args.lines.now (sym c.in-Ok-None.ensures ∙ c.in-Ok-None.field-0-is)
