use Rattle.std.proofs.Common.{subst}
use Rattle.xmp_syntax.specs.Reading.{reading}
use Rattle.xmp_syntax.specs.Refused.{start, program_rules}
use Rattle.xmp_reader.specs.declared.reader.Stop.{Stop}
use Rattle.xmp_reader.specs.Going.{Refused}
use Rattle.xmp_parse.proofs.FirstBreak.{finish_there, stuck_fault, deep_fault}
use Rattle.xmp_parse.proofs.programs.judged.Goals as goal

pub whole-requires : goal.whole-requires
whole-requires c = record { finished = finish_there c.args.tokens.now c.requires.finished }

pub returns-in-Err-TooDeep-clause-fault : goal.returns-in-Err-TooDeep-clause-fault
returns-in-Err-TooDeep-clause-fault c =
    deep_fault c.args.tokens.now c.in-Err-TooDeep.left _ (subst (λ (x : Stop). Refused (reading start program_rules c.args.tokens.now) x) c.in-Err-TooDeep.field-0-is c.in-Err-TooDeep.ensures.refused)
    c.refusal-in-Err-TooDeep.ensures

pub returns-in-Err-Unexpected-clause-fault : goal.returns-in-Err-Unexpected-clause-fault
returns-in-Err-Unexpected-clause-fault c =
    stuck_fault c.args.tokens.now c.in-Err-Unexpected.left _ (subst (λ (x : Stop). Refused (reading start program_rules c.args.tokens.now) x) c.in-Err-Unexpected.field-0-is c.in-Err-Unexpected.ensures.refused)
    c.refusal.ensures
