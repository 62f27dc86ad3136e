use Rattle.xmp_drive.proofs.Faults.{err_map, no_program, only_memory, this_refusal}
use Rattle.xmp_drive.proofs.verdict.compile.Goals as goal

pub returns-clause-accepted_alone : goal.returns-clause-accepted_alone
returns-clause-accepted_alone c = λ p a.
    err_map c.judged.result (λ e b. only_memory c.args.text.now c.args.nodes (λ r. c.never_accepted_and_refused.ensures c.args.text.now c.args.nodes p r a) e b) c.judged.ensures.refused

pub returns-clause-refused_alone : goal.returns-clause-refused_alone
returns-clause-refused_alone c = λ r b. (
  no_program c.judged.result c.judged.ensures.accepted (λ p a. c.never_accepted_and_refused.ensures c.args.text.now c.args.nodes p r a b),
  err_map c.judged.result (λ e f. this_refusal c.args.text.now c.args.nodes r (λ s d. c.one_refusal.ensures c.args.text.now c.args.nodes s r d b) e f) c.judged.ensures.refused,
)
