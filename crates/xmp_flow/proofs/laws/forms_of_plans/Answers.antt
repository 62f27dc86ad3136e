use Rattle.xmp_flow.proofs.FormLaws.{events_plain, events_block, events_if, events_while, events_counted, events_loop, events_tasks}
use Rattle.xmp_flow.proofs.laws.forms_of_plans.Goals as goal

pub returns-clause-plain : goal.returns-clause-plain
returns-clause-plain c = events_plain

pub returns-clause-block : goal.returns-clause-block
returns-clause-block c = events_block

pub returns-clause-choice : goal.returns-clause-choice
returns-clause-choice c = events_if

pub returns-clause-uncounted : goal.returns-clause-uncounted
returns-clause-uncounted c = events_while

pub returns-clause-counted : goal.returns-clause-counted
returns-clause-counted c = events_counted

pub returns-clause-directive : goal.returns-clause-directive
returns-clause-directive c = events_loop

pub returns-clause-tasks : goal.returns-clause-tasks
returns-clause-tasks c = events_tasks
