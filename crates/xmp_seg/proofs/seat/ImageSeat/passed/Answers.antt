use Rattle.std.proofs.Common.{◌∙◌, ap}
use Rattle.xmp_seg.specs.Seats.{Standing}
use Rattle.xmp_seg.proofs.Calls.{same_table}
use Rattle.xmp_seg.proofs.Steps.{looks}
use Rattle.xmp_seg.proofs.seat.ImageSeat.passed.Goals as goal

pub load-found-requires : goal.load-found-requires
load-found-requires g c = (
  same_table _ _ _ c.self.inside.seat.me.0 _ c.self.view_is c.segment.view_is c.requires.table,
  c.segment.invariant.1,
  looks _ _ _ _ c.self.invariant.1 (ap (λ (x : Standing). x.arrived) c.self.view_is ∙ c.requires.arrived),
)
