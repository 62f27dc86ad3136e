use Rattle.xmp_spots.proofs.AnswerLaws.{some_answer}
use Rattle.xmp_spots.proofs.laws.plans_have_answers.Goals as goal

pub returns : goal.returns
returns c = some_answer
