use Rattle.std.proofs.Common.{length}
use Rattle.xmp_exchanges.proofs.laid.+sections.Given as goal

abbrev pub decreases-sections : goal.decreases-sections
decreases-sections l = length l.parts.now
