use Rattle.xmp_rules.proofs.RuleLaws as lemmas
use Rattle.xmp_rules.proofs.laws.names_declared_twice.Goals as goal

pub returns : goal.returns
returns c = lemmas.names_declared_twice
