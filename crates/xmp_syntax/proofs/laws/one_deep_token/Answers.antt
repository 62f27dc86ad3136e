use Rattle.xmp_syntax.proofs.DeepTokens.{one_deep}
use Rattle.xmp_syntax.proofs.laws.one_deep_token.Goals as goal

pub returns : goal.returns
returns c = one_deep
