use Rattle.std.proofs.Common.{ℤ, List, ap, ◌∙◌, drop}
use Rattle.xmp_meaning.specs.Calls.{bind}
use Rattle.xmp_serial.proofs.Binds.{bind_none}
use Rattle.xmp_serial.proofs.frame.Frame.bind.Goals as goal

pub returns-in-None : goal.returns-in-None
returns-in-None g c =
    c.slots.invariant
    ∙ ap (λ (vs : List ℤ). bind c.args.self.now.program.now (drop c.slots.slot-index c.args.slots.now) vs c.slots.state) c.in-None.ensures
    ∙ bind_none c.args.self.now.program.now (drop c.slots.slot-index c.args.slots.now) c.slots.state
