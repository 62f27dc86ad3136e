use Rattle.xmp_rules.proofs.RuleLaws as lemmas
use Rattle.xmp_rules.proofs.laws.main_and_its_return.Goals as goal

pub returns : goal.returns
returns c = lemmas.main_and_its_return
