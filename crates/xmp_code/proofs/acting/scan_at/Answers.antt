use Rattle.std.proofs.Common.{◌≤◌, length, arith}
use Rattle.xmp_code.proofs.Inputs.{scan_behind}
use Rattle.xmp_code.proofs.acting.scan_at.Goals as goal

pub returns : goal.returns
returns c =
    let over : length c.args.input.now ≤ c.args.at = omega arith in
    scan_behind c.args.ty c.args.input.now c.args.at over
