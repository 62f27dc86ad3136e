use Rattle.xmp_meaning_laws.proofs.Bodies as lemmas
use Rattle.xmp_meaning_laws.proofs.nest_laws.bodies_leave_bounds.Goals as goal

pub returns : goal.returns
returns c start = record { statements = lemmas.statement_leaves _; noted = lemmas.noted_turn_leaves }
