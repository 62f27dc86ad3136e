use Rattle.xmp_serial.proofs.calls.ByFunctionCallee.call.Goals as goal

pub returns : goal.returns
returns g c = λ s. c.requires.does _ _ _ _ _ _ _ _ c.call.ensures s
