use Rattle.xmp_syntax.proofs.Fronts.{front, begins}
use Rattle.xmp_syntax.proofs.laws.begins_a_program.Goals as goal

pub returns-clause-front : goal.returns-clause-front
returns-clause-front c = front

pub returns-clause-begins : goal.returns-clause-begins
returns-clause-begins c = begins
