use Rattle.xmp_paths.specs.Rules.{Breaks}
use Rattle.xmp_paths.proofs.VerdictLaws.{one_answer, some_answer}
use Rattle.xmp_paths.proofs.laws.one_verdict.Goals as goal

pub returns-clause-some : goal.returns-clause-some
returns-clause-some c = some_answer

pub returns-clause-one : goal.returns-clause-one
returns-clause-one c = λ phase plan. one_answer phase (Breaks plan)
