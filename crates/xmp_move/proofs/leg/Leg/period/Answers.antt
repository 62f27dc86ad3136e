use Rattle.std.proofs.Common.{inr, refl, ◌≡◌, ◌*◌, arith}
use Rattle.xmp_move.specs.Legs.{Repeats, leg_test}
use Rattle.xmp_move.proofs.RepeatLaws.{both_repeat}
use Rattle.xmp_move.proofs.leg.Leg.period.Goals as goal

pub returns-then-both-most-clause-again : goal.returns-then-both-most-clause-again
returns-then-both-most-clause-again c =
    let e : c.from-a.result * c.from-b.result ≡ c.round.result * c.round-2.result = rw (c.from-a.ensures, c.from-b.ensures) refl in
    inr (rw e (both_repeat c.args.self.now c.round.result c.round-2.result c.round.ensures c.round-2.ensures (λ z. omega (arith, z, e))))
