use Rattle.std.proofs.Common.{◌+◌, ◌*◌, map}
use Rattle.xmp_meaning.specs.Sections.{cells_from}
use Rattle.xmp_serial.specs.Moves.{all_of, chosen_of}
use Rattle.xmp_serial.proofs.CellNumbers.{more_cells}
use Rattle.xmp_serial.proofs.sections.+cells.Goals as goal

pub push_each-cells-preserved : goal.push_each-cells-preserved
push_each-cells-preserved t c =
    more_cells (λ x. cells_from (c.args.so_far * c.args.extent + x) c.args.extents.now (all_of c.args.extents.now (map chosen_of c.args.cs.now)))
    c.args.base c.args.step c.cells.k c.in-Some.x c.args.all.now c.cells.all c.push_at.new.all
    c.cells.invariant c.in-Some.ensures (c.in_ok-push_at-in-Some.ensures {u = tt})
