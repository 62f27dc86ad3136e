use Rattle.std.proofs.Common.{Some, None}
use Rattle.xmp_serial.specs.Lines.{layout_of}
use Rattle.xmp_serial.proofs.Laid.{cells_found}
use Rattle.xmp_serial.proofs.frame.Frame.image_cells.Goals as goal

pub returns-in-Some : goal.returns-in-Some
returns-in-Some g c =
    cells_found (layout_of c.args.self.now.packed) c.args.self.now.program.now c.args.self.now.lines.now c.args.self.now.program.now.arrays c.args.array c.args.self.now.laid (Some c.in-Some.line.now) c.in-Some.ensures

pub returns-in-None : goal.returns-in-None
returns-in-None g c =
    cells_found (layout_of c.args.self.now.packed) c.args.self.now.program.now c.args.self.now.lines.now c.args.self.now.program.now.arrays c.args.array c.args.self.now.laid None c.in-None.ensures
