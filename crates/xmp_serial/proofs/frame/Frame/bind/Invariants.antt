use Rattle.std.proofs.Common.{◌≡◌, drop}
use Rattle.xmp_meaning.specs.Calls.{bind}
use Rattle.xmp_serial.proofs.frame.Frame.bind.Given as goal

-- what is left to bind from here gives what the whole gives
abbrev pub invariant-slots : goal.invariant-slots
invariant-slots g l = bind l.self.program.now l.fn.slots l.fn.values l.fn.state ≡ bind l.self.program.now (drop l.slot-index l.slots) l.values l.state
