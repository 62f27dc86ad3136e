use Rattle.xmp_parse.proofs.OneBreak.{no_break}
use Rattle.xmp_parse.proofs.laws.never_parsed_and_refused.Goals as goal

pub returns : goal.returns
returns c = no_break c.never_program_and_refused.ensures.stuck c.never_program_and_refused.ensures.deep
