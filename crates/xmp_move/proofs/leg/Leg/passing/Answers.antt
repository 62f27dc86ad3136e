use Rattle.std.proofs.Common.{◌≡◌, ◌∙◌, ◌++◌, ◌∷◌, [], ap, sym, true, false, arith}
use Rattle.xmp_move.specs.Legs.{leg_test}
use Rattle.xmp_move.proofs.RepeatLaws.{one_passes, none_pass_to}
use Rattle.xmp_move.proofs.leg.Leg.passing.Goals as goal

pub loop-k-preserved-then-test : goal.loop-k-preserved-then-test
loop-k-preserved-then-test c =
    let i = c.loop-k.invariant in
    let h : leg_test c.args.self.now c.loop-k.k ≡ true = sym c.test.ensures ∙ c.if-test.true in
    record {
      from = omega (arith, i.from);
      to = omega arith;
      places =
          c.in_ok-push.ensures.items ∙ ap (λ l. l ++ c.loop-k.k ∷ []) i.places
          ∙ sym (one_passes (leg_test c.args.self.now) c.args.from c.loop-k.k i.from h);
    }

pub loop-k-preserved : goal.loop-k-preserved
loop-k-preserved c =
    let i = c.loop-k.invariant in
    let n = c.next-k.ensures in
    record {
      from = omega (arith, i.from, n.later);
      to = n.most;
      places = i.places ∙ sym (none_pass_to (leg_test c.args.self.now) c.args.from c.loop-k.k c.next-k.result i.from (omega (arith, n.later)) n.none);
    }
