use Rattle.std.proofs.Common.{◌≡◌, ◌≤◌, ◌∙◌, ap, arith, List, length, map, replicate, pos}
use Rattle.std.proofs.lemmas.List.{take_all}
use Rattle.xmp_serial.specs.declared.lines.Line.{Line}
use Rattle.xmp_serial.specs.Lines.{layout_of}
use Rattle.xmp_serial.proofs.Laid.{rows_at_first}
use Rattle.xmp_serial.proofs.beginning.no_writes.Goals as goal

pub returns : goal.returns
returns c =
    let over : length c.as_slice-lines.result.now ≤ c.lines.line-index = omega arith in
    c.lines.invariant
    ∙ ap (λ (ls : List Line). map (λ l. replicate l.length (pos 0)) ls) (take_all c.lines.line-index c.as_slice-lines.result.now over ∙ c.as_slice-lines.ensures.value)
    ∙ rows_at_first (layout_of c.args.layout.now.packed) c.args.layout.now.program.now c.args.layout.now.lines.items c.args.layout.now.program.now.arrays c.args.layout.now.lines_are
