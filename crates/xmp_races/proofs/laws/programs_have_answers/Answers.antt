use Rattle.xmp_races.proofs.RuleLaws.{one_verdict, some_verdict}
use Rattle.xmp_races.proofs.laws.programs_have_answers.Goals as goal

pub returns-clause-some : goal.returns-clause-some
returns-clause-some c = some_verdict

pub returns-clause-one : goal.returns-clause-one
returns-clause-one c = one_verdict
