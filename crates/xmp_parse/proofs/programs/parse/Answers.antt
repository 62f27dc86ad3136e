use Rattle.xmp_parse.proofs.FirstBreak.{only_memory}
use Rattle.xmp_parse.proofs.programs.parse.Goals as goal

pub returns-clause-no_other : goal.returns-clause-no_other
returns-clause-no_other c = λ x P.
    only_memory c.args.tokens.now _ (λ left S. c.never_program_and_refused.ensures.stuck c.args.tokens.now x left P S) (λ left S. c.never_program_and_refused.ensures.deep c.args.tokens.now x left P S) c.judged.ensures.fault
