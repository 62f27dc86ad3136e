use Rattle.xmp_parts.proofs.VerdictLaws.{fault_is, none_breaks}
use Rattle.xmp_elab.proofs.typed.elaborate.Goals as goal

pub returns-in-Ok-clause-accepted : goal.returns-in-Ok-clause-accepted
returns-in-Ok-clause-accepted c = none_breaks c.args.t.now c.args.given c.in-Ok.ensures.accepted

pub returns-in-Err-clause-refused : goal.returns-in-Err-clause-refused
returns-in-Err-clause-refused c = fault_is c.args.t.now c.args.given c.in-Err.fault c.in-Err.ensures.refused
