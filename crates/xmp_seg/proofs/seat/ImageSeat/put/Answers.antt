use Rattle.std.proofs.Common.{refl, ap, ◌∙◌, FitsSigned}
use Rattle.std.proofs.lemmas.Int.{to_z-of_z}
use Rattle.std.specs.Int.{w64}
use Rattle.xmp_seg.specs.Rule.{bits}
use Rattle.xmp_seg.proofs.Calls.{next_of, same_table, word_in}
use Rattle.xmp_seg.proofs.Steps.{puts}
use Rattle.xmp_seg.proofs.seat.ImageSeat.put.Goals as goal

pub swap-requires : goal.swap-requires
swap-requires g c =
    let fits : FitsSigned w64 c.args.v = c.ranges.v in
    let next = next_of g.S.Script.script _ c.self.inside.seat.me.0 _ _ c.self.view_is c.requires.next in (
      same_table _ _ _ c.self.inside.seat.me.0 _ c.self.view_is c.segment.view_is c.requires.table,
      word_in _ _ _ c.self.inside.seat.me.0 _ c.segment.invariant.0 c.self.invariant.1 c.self.invariant.2 next refl,
      puts _ _ _ _ _ _ c.args.v c.self.inside.seat.me refl (c.cast_unsigned.ensures ∙ ap bits (to_z-of_z w64 c.args.v fits)) fits c.self.invariant.1 next,
    )
