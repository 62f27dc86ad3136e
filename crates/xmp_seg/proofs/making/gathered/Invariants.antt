use Rattle.std.proofs.Common.{◌≡◌, [], length}
use Rattle.std.specs.Prelude.{vec_len}
use Rattle.xmp_seg.proofs.Closing.{AreEnding, IsTail}
use Rattle.xmp_seg.proofs.making.gathered.Given as goal

-- the seats that are left, and the joined one behind them
abbrev pub invariant-loop-next : goal.invariant-loop-next
invariant-loop-next g l =
    AreEnding g.S.Script.script l.fn.segment l.seats.items × (l.all.table_id ≡ l.fn.segment) × (l.all.me.1 ≡ [])
    × IsTail g.S.Script.script (length l.seats.items) l.all.me.0

abbrev pub decreases-loop-next : goal.decreases-loop-next
decreases-loop-next g l = vec_len l.seats
