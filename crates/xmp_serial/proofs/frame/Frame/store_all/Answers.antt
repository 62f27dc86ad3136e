use Rattle.std.proofs.Common.{ℤ, List, ap, ◌∙◌, drop}
use Rattle.xmp_meaning.specs.Handlers.{erased}
use Rattle.xmp_meaning.specs.Sections.{store_all}
use Rattle.xmp_serial.specs.Lines.{context_at}
use Rattle.xmp_serial.proofs.Stores.{store_none}
use Rattle.xmp_serial.proofs.frame.Frame.store_all.Goals as goal

pub returns-in-None : goal.returns-in-None
returns-in-None g c =
    c.cells.invariant
    ∙ ap (λ (vs : List ℤ). store_all erased (context_at c.args.self.now.program.now c.args.self.now.packed c.args.self.now.node c.args.self.now.input.now (g.C.Callee.calls c.args.self.now.callee.now)) c.args.target.now (drop c.cells.n-index c.args.cells.now) vs c.cells.state) c.in-None.ensures
    ∙ store_none (context_at c.args.self.now.program.now c.args.self.now.packed c.args.self.now.node c.args.self.now.input.now (g.C.Callee.calls c.args.self.now.callee.now)) c.args.target.now (drop c.cells.n-index c.args.cells.now) c.cells.state
