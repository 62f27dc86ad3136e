use Rattle.std.proofs.Common.{◌≡◌, take}
use Rattle.xmp_serial.proofs.outcome.row_of.Given as goal

abbrev pub invariant-cells : goal.invariant-cells
invariant-cells l = l.row ≡ take l.cell-index l.cells
