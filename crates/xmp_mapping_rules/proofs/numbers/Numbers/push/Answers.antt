use Rattle.std.proofs.Common.{◌∙◌, ap, sym}
use Rattle.std.specs.Prelude.{is_some}
use Rattle.xmp_mapping_rules.proofs.Places.{noted_as}
use Rattle.xmp_mapping_rules.proofs.numbers.Numbers.push.Goals as goal

pub invariant_of-self-then-not-known : goal.invariant_of-self-then-not-known
invariant_of-self-then-not-known c =
    noted_as c.make_room.new.places c.set.new.self c.self.inside.all c.push.new.self c.args.number c.len-place.result
    (λ k. c.in_ok-make_room.ensures.same k ∙ c.self.invariant k) c.in_ok-make_room.ensures.room (ap is_some (sym c.first_place.ensures) ∙ sym c.if-not-known.ensures) c.set.ensures c.len-place.ensures c.in_ok-push.ensures.ok
