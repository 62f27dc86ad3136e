use Rattle.xmp_parse.proofs.OneBreak.{one_break}
use Rattle.xmp_parse.proofs.laws.one_syntax_refusal.Goals as goal

pub returns : goal.returns
returns c = one_break c.one_stuck_token.ensures c.one_deep_token.ensures c.never_stuck_and_deep.ensures
