use Rattle.xmp_rules.proofs.RuleLaws as lemmas
use Rattle.xmp_rules.proofs.laws.constant_expressions.Goals as goal

pub returns : goal.returns
returns c = lemmas.constant_expressions
