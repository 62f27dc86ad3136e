use Rattle.xmp_drive_laws.proofs.EveryVerdict as lemmas
use Rattle.xmp_drive_laws.proofs.laws.every_text_is_judged.Goals as goal

pub returns : goal.returns
returns c = lemmas.every_text c.one_verdict.ensures.some
