use Rattle.xmp_syntax.proofs.OneProgram.{same_tokens}
use Rattle.xmp_syntax.proofs.laws.same_tokens.Goals as goal

pub returns : goal.returns
returns c = same_tokens
