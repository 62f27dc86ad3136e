use Rattle.std.proofs.Common.{rules, sym}
use Rattle.xmp_stores.proofs.Steps.{first_does}
use Rattle.xmp_stores.proofs.together.Together.first_and_others.Goals as goal

pub returns-in-Ok : goal.returns-in-Ok
returns-in-Ok g c = λ w same. first_does _ _ w c.run-answer.result _ {rest = c.in-Some.rest.now} {s = c.in-Some.state.now} same (search rules) (rw (sym c.in-Some-at.ensures.context) c.run-answer.ensures) (search rules)
