use Rattle.std.proofs.Common.{List, Some, None, sym, subst}
use Rattle.xmp_meaning.specs.Declarations.{extents}
use Rattle.xmp_meaning.specs.Layouts.{axes}
use Rattle.xmp_serial.specs.declared.lines.Axis.{Axis}
use Rattle.xmp_serial.specs.Lines.{AreAxes, layout_of}
use Rattle.xmp_serial.proofs.Laid.{axes_found}
use Rattle.xmp_serial.proofs.frame.Frame.axes.Goals as goal

pub returns-in-Some : goal.returns-in-Some
returns-in-Some g c =
    let P : List Axis → Type 0 = λ x. AreAxes x (extents c.args.self.now.program.now c.args.array) (axes (layout_of c.args.self.now.packed) c.args.self.now.program.now c.args.array) in
    subst P (sym c.as_slice.ensures)
    (axes_found (layout_of c.args.self.now.packed) c.args.self.now.program.now c.args.self.now.lines.now c.args.self.now.program.now.arrays c.args.array c.args.self.now.laid (Some c.in-Some.line.now) c.in-Some.ensures)

pub returns-in-None : goal.returns-in-None
returns-in-None g c =
    axes_found (layout_of c.args.self.now.packed) c.args.self.now.program.now c.args.self.now.lines.now c.args.self.now.program.now.arrays c.args.array c.args.self.now.laid None c.in-None.ensures
