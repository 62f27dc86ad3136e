use Rattle.xmp_top.proofs.CauseLaws.{follows}
use Rattle.xmp_top.proofs.laws.answers_have_causes.Goals as goal

pub returns : goal.returns
returns c = follows (record { apart = c.never_accepted_and_refused.ensures; one_refusal = c.one_refusal.ensures; one_program = c.one_program.ensures })
