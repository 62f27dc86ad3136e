use Rattle.std.proofs.Common.{ℕ, ◌≡◌, ◌<◌, ◌-◌, min}
use Rattle.xmp_move.specs.Legs.{leg_test, leg_adds, Repeats}
use Rattle.xmp_move.proofs.LegLaws.{part}
use Rattle.xmp_move.proofs.leg.Leg.share.Given as goal

abbrev pub invariant-loop-further : goal.invariant-loop-further
invariant-loop-further l = record {
  listed : l.out.items ≡ part (leg_test l.self) (leg_adds l.self) l.from (min l.further l.many);
  again : l.further < l.many → Repeats (leg_test l.self) l.further;
}

abbrev pub decreases-loop-further : goal.decreases-loop-further
decreases-loop-further l = l.many - l.further
