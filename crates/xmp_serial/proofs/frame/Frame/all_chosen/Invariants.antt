use Rattle.std.proofs.Common.{◌≡◌, [], map, drop}
use Rattle.xmp_prog.specs.declared.statements.Part.{Part}
use Rattle.xmp_meaning.specs.Runs.{Run}
use Rattle.xmp_meaning.specs.Handlers.{erased}
use Rattle.xmp_serial.specs.Lines.{context_at}
use Rattle.xmp_meaning.specs.Expressions.{each}
use Rattle.xmp_meaning.specs.Sections.{Chosen, chosen}
use Rattle.xmp_serial.specs.Moves.{chosen_of}
use Rattle.xmp_serial.proofs.frame.Frame.all_chosen.Given as goal

abbrev pub invariant-parts : goal.invariant-parts
invariant-parts g l =
    let f : Part → Run (Unit {0}) Chosen = chosen erased (context_at l.self.program.now l.self.packed l.self.node l.self.input.now (g.C.Callee.calls l.self.callee.now)) in
    each (map f l.fn.parts) [] l.fn.state ≡ each (map f (drop l.part-index l.parts)) (map chosen_of l.all) l.state
