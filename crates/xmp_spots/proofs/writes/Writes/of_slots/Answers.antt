use Rattle.xmp_spots.proofs.WriteLaws.{counts_more, counts_all}
use Rattle.xmp_spots.proofs.writes.Writes.of_slots.Goals as goal

pub slots-preserved : goal.slots-preserved
slots-preserved c =
    counts_more c.args.slots.now c.slots.slot-index _ c.slots.writes c.note.new.self c.slots-test.true c.slots.invariant
    c.in_ok-note.ensures.some c.in_ok-note.ensures.more

pub returns : goal.returns
returns c = counts_all c.args.slots.now c.slots.slot-index c.slots.writes c.slots-test.false c.slots.invariant
