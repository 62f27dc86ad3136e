use Rattle.std.proofs.Common.{ℕ, ◌≡◌, ◌∙◌, ◌+◌, ◌-◌, ◌++◌, ap, min, refl, arith}
use Rattle.xmp_move.specs.Legs.{leg_test, leg_adds, adds_further}
use Rattle.xmp_move.proofs.LegLaws.{part, part_is}
use Rattle.xmp_move.proofs.RepeatLaws.{passing, stretch_more, repeats_more}
use Rattle.xmp_move.proofs.leg.Leg.share.Goals as goal

pub loop-further-preserved : goal.loop-further-preserved
loop-further-preserved c =
    let leg = c.args.self.now in
    let t = leg_test leg in
    let f = leg_adds leg in
    let from : ℕ = c.overlap-from.result.0 in
    let to : ℕ = c.overlap-from.result.1 in
    let period : ℕ = c.period-period.result in
    let further : ℕ = c.loop-further.further in
    let i = c.loop-further.invariant in
    let again = i.again c.loop-further-test.true in
    let stretch : (from + period) - from ≡ period = omega arith in
    record {
      listed =
          c.in_ok-push_further.ensures
          ∙ ap (λ l. l ++ adds_further f to further c.deref.result.now) i.listed
          ∙ ap (λ ps. part t f from (min further (to - from)) ++ adds_further f to further ps) (c.deref.ensures.value ∙ c.in_ok-places.ensures ∙ ap (passing t from) stretch)
          ∙ stretch_more t f from to (to - from) period further c.overlap-from.ensures.order refl c.loop-further-test.true again;
      again = λ l. repeats_more t further period (to - from) c.period-period.ensures.again again l;
    }

pub returns : goal.returns
returns c =
    let o = c.overlap-from.ensures in
    let t = leg_test c.args.self.now in
    let f = leg_adds c.args.self.now in
    let from : ℕ = c.overlap-from.result.0 in
    let to : ℕ = c.overlap-from.result.1 in
    let all : min c.loop-further.further (to - from) ≡ to - from = omega arith in
    c.loop-further.invariant.listed ∙ ap (part t f from) all ∙ part_is t f from to c.args.self.now.count o.order o.inside o.before o.after
