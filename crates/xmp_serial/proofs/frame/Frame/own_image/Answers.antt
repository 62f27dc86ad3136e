use Rattle.std.proofs.Common.{◌≡◌, Bool, ℕ, Some, None, ap, ◌∙◌, sym, if◌then◌else◌}
use Rattle.xmp_serial.specs.Lines.{layout_of}
use Rattle.xmp_serial.proofs.Laid.{images_found}
use Rattle.xmp_serial.proofs.frame.Frame.own_image.Goals as goal

pub returns-then-line : goal.returns-then-line
returns-then-line g c =
    c.from.ensures ∙ ap (λ (b : Bool). if b then c.args.self.now.node else 0) (sym c.if-line.true
    ∙ images_found (layout_of c.args.self.now.packed) c.args.self.now.program.now c.args.self.now.lines.now c.args.self.now.program.now.arrays c.args.array c.args.self.now.laid (Some c.in-Some.line.now) c.in-Some.ensures)

pub returns-else-line : goal.returns-else-line
returns-else-line g c =
    ap (λ (b : Bool). if b then c.args.self.now.node else 0) (sym c.if-line.false
    ∙ images_found (layout_of c.args.self.now.packed) c.args.self.now.program.now c.args.self.now.lines.now c.args.self.now.program.now.arrays c.args.array c.args.self.now.laid (Some c.in-Some.line.now) c.in-Some.ensures)

pub returns-in-None : goal.returns-in-None
returns-in-None g c =
    ap (λ (b : Bool). if b then c.args.self.now.node else 0)
    (images_found (layout_of c.args.self.now.packed) c.args.self.now.program.now c.args.self.now.lines.now c.args.self.now.program.now.arrays c.args.array c.args.self.now.laid None c.in-None.ensures)
