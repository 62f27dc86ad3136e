use Rattle.xmp_seg.proofs.Calls.{done_of, same_table}
use Rattle.xmp_seg.proofs.Steps.{arrives}
use Rattle.xmp_seg.proofs.seat.ImageSeat.arrive.Goals as goal

pub fetch_add-requires : goal.fetch_add-requires
fetch_add-requires g c =
    let done = done_of g.S.Script.script _ c.self.inside.seat.me.0 _ c.self.view_is c.requires.done in (
      same_table _ _ _ c.self.inside.seat.me.0 _ c.self.view_is c.segment.view_is c.requires.table,
      c.segment.invariant.1,
      arrives _ _ _ _ c.self.invariant.1 done.0 done.1 done.2,
    )
