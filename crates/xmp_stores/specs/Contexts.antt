-- What a run of the interpreter is read against.
use Rattle.xmp_meaning.specs.Context.{Context}
use Rattle.xmp_serial.specs.declared.outside.Interpreter.{Interpreter}
use Rattle.xmp_serial.specs.Lines.{context_of}

abbrev pub context_by : Interpreter → Context
context_by at = context_of at.layout.now.program.now at.layout.now.packed at.node at.input.now
