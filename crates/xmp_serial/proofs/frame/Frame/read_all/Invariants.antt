use Rattle.std.proofs.Common.{◌≡◌, [], ℕ, ℤ, map, drop}
use Rattle.xmp_meaning.specs.Runs.{Run}
use Rattle.xmp_meaning.specs.Handlers.{erased}
use Rattle.xmp_meaning.specs.Assignments.{value_at}
use Rattle.xmp_meaning.specs.Expressions.{each}
use Rattle.xmp_meaning.specs.Sections.{cell_at}
use Rattle.xmp_serial.proofs.frame.Frame.read_all.Given as goal

abbrev pub invariant-cells : goal.invariant-cells
invariant-cells g l =
    let f : ℕ → Run (Unit {0}) ℤ = λ n. value_at erased (cell_at l.source n) in
    each (map f l.cells) [] l.state ≡ each (map f (drop l.n-index l.cells)) l.values l.state
