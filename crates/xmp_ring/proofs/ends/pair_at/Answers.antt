use Rattle.std.proofs.Common.{rules}
use Rattle.xmp_ring.proofs.Moves.{begins, splits}
use Rattle.xmp_ring.proofs.ends.pair_at.Goals as goal

pub ruled-requires-clause-rule : goal.ruled-requires-clause-rule
ruled-requires-clause-rule g c = begins _

pub another-theirs-requires-clause-rule : goal.another-theirs-requires-clause-rule
another-theirs-requires-clause-rule g c = splits _ _ _ _ (search rules) (search rules) (search rules)
