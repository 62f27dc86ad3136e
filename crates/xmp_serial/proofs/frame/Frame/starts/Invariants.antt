use Rattle.std.proofs.Common.{◌≡◌, drop}
use Rattle.xmp_meaning.specs.Handlers.{erased}
use Rattle.xmp_serial.specs.Lines.{context_at}
use Rattle.xmp_meaning.specs.Programs.{starts}
use Rattle.xmp_serial.proofs.frame.Frame.starts.Given as goal

abbrev pub invariant-starts : goal.invariant-starts
invariant-starts g l =
    let cx : _ = context_at l.self.program.now l.self.packed l.self.node l.self.input.now (g.C.Callee.calls l.self.callee.now) in
    starts erased cx l.fn.all l.fn.state ≡ starts erased cx (drop l.start-index l.all) l.state
