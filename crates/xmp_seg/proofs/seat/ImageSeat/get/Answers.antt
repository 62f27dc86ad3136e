use Rattle.std.proofs.Common.{refl}
use Rattle.xmp_seg.proofs.Calls.{next_of, same_table, word_in}
use Rattle.xmp_seg.proofs.Steps.{gets}
use Rattle.xmp_seg.proofs.seat.ImageSeat.get.Goals as goal

pub load-requires : goal.load-requires
load-requires g c =
    let next = next_of g.S.Script.script _ c.self.inside.seat.me.0 _ _ c.self.view_is c.requires.next in (
      same_table _ _ _ c.self.inside.seat.me.0 _ c.self.view_is c.segment.view_is c.requires.table,
      word_in _ _ _ c.self.inside.seat.me.0 _ c.segment.invariant.0 c.self.invariant.1 c.self.invariant.2 next refl,
      gets _ _ _ _ _ c.self.inside.seat.me refl c.self.invariant.1 next,
    )
