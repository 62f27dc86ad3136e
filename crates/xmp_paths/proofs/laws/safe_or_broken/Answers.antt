use Rattle.xmp_paths.proofs.SafeLaws.{safe_is}
use Rattle.xmp_paths.proofs.laws.safe_or_broken.Goals as goal

pub returns : goal.returns
returns c = safe_is
