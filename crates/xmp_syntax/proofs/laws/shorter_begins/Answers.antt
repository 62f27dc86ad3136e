use Rattle.xmp_syntax.proofs.Shorter.{shorter}
use Rattle.xmp_syntax.proofs.laws.shorter_begins.Goals as goal

pub returns : goal.returns
returns c = shorter
