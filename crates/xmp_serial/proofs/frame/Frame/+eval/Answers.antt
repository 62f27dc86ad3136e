use Rattle.std.proofs.Common.{◌≡◌, ◌+ℤ◌, ◌*◌, ℕ, ℤ, pos, of_z, to_z, rules, subst, ap, ◌∙◌}
use Rattle.std.specs.Int.{w64}
use Rattle.xmp_map.specs.RowMajor.{product}
use Rattle.xmp_meaning.specs.Declarations.{extents}
use Rattle.xmp_meaning.specs.Expressions.{natural}
use Rattle.xmp_serial.specs.Ends.{OrNoMemory}
use Rattle.xmp_serial.specs.Lines.{context_at}
use Rattle.xmp_serial.proofs.Elements.{cell_halts, cell_own, cell_there, image_halts}
use Rattle.xmp_serial.proofs.frame.Frame.+eval.Goals as goal

pub cell_of-returns-in-Err : goal.cell_of-returns-in-Err
cell_of-returns-in-Err g t c = cell_halts (context_at c.args.self.now.program.now c.args.self.now.packed c.args.self.now.node c.args.self.now.input.now (g.C.Callee.calls c.args.self.now.callee.now)) c.args.access.now c.axes-axes.result.now c.axes-axes.ensures c.as_slice.result.now c.as_slice.ensures c.args.state.now c.cell_number.new.state c.in-Err.halt (c.in-Err.ensures {u = tt})

pub cell_of-returns-in-None : goal.cell_of-returns-in-None
cell_of-returns-in-None g t c =
    let size : ℕ = product (extents c.args.self.now.program.now c.args.access.now.array) in
    let w : to_z w64 (of_z w64 c.in-Ok.at) ≡ c.in-Ok.at = search rules in
    let P : ℤ → Type 0 = λ z. OrNoMemory (pos (c.own_image.result * size) +ℤ z) c.in_image.result in
    cell_own (context_at c.args.self.now.program.now c.args.self.now.packed c.args.self.now.node c.args.self.now.input.now (g.C.Callee.calls c.args.self.now.callee.now)) c.args.access.now c.axes-axes.result.now c.axes-axes.ensures c.as_slice.result.now c.as_slice.ensures c.args.state.now c.cell_number.new.state c.in-Ok.at (c.in-Ok.ensures {u = tt}) c.own_image.result c.in_image.result c.in-None.is c.own_image.ensures (subst P w c.in_image.ensures)

pub cell_of-returns-in-Ok-eval : goal.cell_of-returns-in-Ok-eval
cell_of-returns-in-Ok-eval g t c =
    let size : ℕ = product (extents c.args.self.now.program.now c.args.access.now.array) in
    let w : to_z w64 (of_z w64 c.in-Ok.at) ≡ c.in-Ok.at = search rules in
    let v : to_z w64 (of_z w64 c.in-Ok-eval.image) ≡ c.in-Ok-eval.image = search rules in
    let P : ℤ → Type 0 = λ z. OrNoMemory (pos (c.natural.result * size) +ℤ z) c.in_image-in-Ok-eval.result in
    cell_there (context_at c.args.self.now.program.now c.args.self.now.packed c.args.self.now.node c.args.self.now.input.now (g.C.Callee.calls c.args.self.now.callee.now)) c.args.access.now c.axes-axes.result.now c.axes-axes.ensures c.as_slice.result.now c.as_slice.ensures c.args.state.now c.cell_number.new.state c.in-Ok.at (c.in-Ok.ensures {u = tt}) c.in-Some.e c.get.result.now c.in-Some.is c.get.ensures c.eval.new.state
    c.in-Ok-eval.image c.natural.result c.in_image-in-Ok-eval.result (c.in-Ok-eval.ensures {u = tt}) (c.natural.ensures ∙ ap natural v) (subst P w c.in_image-in-Ok-eval.ensures)

pub cell_of-returns-in-Err-eval : goal.cell_of-returns-in-Err-eval
cell_of-returns-in-Err-eval g t c =
    image_halts (context_at c.args.self.now.program.now c.args.self.now.packed c.args.self.now.node c.args.self.now.input.now (g.C.Callee.calls c.args.self.now.callee.now)) c.args.access.now c.axes-axes.result.now c.axes-axes.ensures c.as_slice.result.now c.as_slice.ensures c.args.state.now c.cell_number.new.state c.in-Ok.at (c.in-Ok.ensures {u = tt}) c.in-Some.e c.get.result.now c.in-Some.is c.get.ensures c.eval.new.state
    c.in-Err-eval.halt (c.in-Err-eval.ensures {u = tt})
