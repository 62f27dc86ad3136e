use Rattle.std.proofs.Common.{arith}
use Rattle.xmp_move.proofs.Narrowed.{place_before, place_from}
use Rattle.xmp_move.proofs.leg.Walk.below.Goals as goal

pub returns-else-self-eq1-clause-below : goal.returns-else-self-eq1-clause-below
returns-else-self-eq1-clause-below c = λ k h. place_before c.args.self.now.first c.args.self.now.step c.args.bound k c.requires.forward (rw c.saturating_sub-left.ensures at h)

pub returns-else-self-eq1-clause-from : goal.returns-else-self-eq1-clause-from
returns-else-self-eq1-clause-from c = λ k h. place_from c.args.self.now.first c.args.self.now.step c.args.bound k c.requires.forward (rw c.saturating_sub-left.ensures at h)
