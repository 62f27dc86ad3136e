use Rattle.xmp_meaning.specs.Layouts.{Packed, Whole}
use Rattle.xmp_serial.specs.Lines.{IsLine, IsSpreadLine}
use Rattle.xmp_serial.proofs.Packed.{copied_line, each_ok, image_line, spread_line}
use Rattle.xmp_serial.proofs.packing.packed_line.Goals as goal

pub returns-in-Spread : goal.returns-in-Spread
returns-in-Spread c =
    each_ok c.spread_line.result (λ line. IsSpreadLine c.in-Spread.m c.args.node line c.as_slice.result.now) (λ line. IsLine (Packed c.args.node) c.args.p.now line c.args.a.now)
    (λ line h. spread_line c.args.p.now c.args.node line c.args.a.now c.in-Spread.field-0 c.in-Spread.m c.as_slice.result.now c.in-Spread.is c.as_slice.ensures h) c.spread_line.ensures

pub returns-in-Copy : goal.returns-in-Copy
returns-in-Copy c =
    each_ok c.whole_line.result (λ line. IsLine Whole c.args.p.now line c.args.a.now) (λ line. IsLine (Packed c.args.node) c.args.p.now line c.args.a.now)
    (λ line h. copied_line c.args.p.now c.args.node line c.args.a.now c.in-Copy.is h) c.whole_line.ensures

pub returns-in-Image : goal.returns-in-Image
returns-in-Image c =
    each_ok c.whole_line-in-Image.result (λ line. IsLine Whole c.args.p.now line c.args.a.now) (λ line. IsLine (Packed c.args.node) c.args.p.now line c.args.a.now)
    (λ line h. image_line c.args.p.now c.args.node line c.args.a.now c.in-Image.is h) c.whole_line-in-Image.ensures
