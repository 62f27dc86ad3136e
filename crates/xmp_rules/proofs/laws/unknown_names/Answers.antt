use Rattle.xmp_rules.proofs.RuleLaws as lemmas
use Rattle.xmp_rules.proofs.laws.unknown_names.Goals as goal

pub returns : goal.returns
returns c = lemmas.unknown_names
