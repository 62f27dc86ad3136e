use Rattle.std.proofs.Common.{◌<◌, arith}
use Rattle.xmp_serial.proofs.Images.{cut_more}
use Rattle.xmp_serial.proofs.outcome.+push_rows.Goals as goal

pub returns : goal.returns
returns t c =
    let some : 0 < c.args.images = omega arith in
    cut_more c.args.images c.args.many c.args.cells.now c.cut_at.result.0.now c.cut_at.result.1.now c.args.all.now c.push_row.new.all c.push_rows.new.all
    some c.cut_at.ensures.front c.cut_at.ensures.behind (c.in_ok-push_row.ensures {u = tt}) (c.in_ok-push_rows.ensures {u = tt})
