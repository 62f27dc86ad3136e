use Rattle.std.proofs.Common.{◌≡◌, drop}
use Rattle.xmp_meaning.specs.Handlers.{erased}
use Rattle.xmp_meaning.specs.Sections.{store_all}
use Rattle.xmp_serial.specs.Lines.{context_at}
use Rattle.xmp_serial.proofs.frame.Frame.store_all.Given as goal

-- what is left to store from here gives what the whole gives
abbrev pub invariant-cells : goal.invariant-cells
invariant-cells g l =
    store_all erased (context_at l.self.program.now l.self.packed l.self.node l.self.input.now (g.C.Callee.calls l.self.callee.now)) l.target l.fn.cells l.fn.values l.fn.state
    ≡ store_all erased (context_at l.self.program.now l.self.packed l.self.node l.self.input.now (g.C.Callee.calls l.self.callee.now)) l.target (drop l.n-index l.cells) l.values l.state
