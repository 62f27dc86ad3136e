use Rattle.std.proofs.Common.{◌≡◌, ◌+◌, ◌*◌, ◌++◌, length, map}
use Rattle.std.specs.List.{flat_map}
use Rattle.xmp_meaning.specs.Sections.{cells_from, progression}
use Rattle.xmp_serial.specs.Moves.{all_of, chosen_of}
use Rattle.xmp_serial.proofs.sections.+cells.Given as goal

abbrev pub decreases-push_cells : goal.decreases-push_cells
decreases-push_cells l = 4 * length l.extents.now

abbrev pub decreases-push_chosen : goal.decreases-push_chosen
decreases-push_chosen l = 4 * length l.extents.now + 3

abbrev pub decreases-push_each : goal.decreases-push_each
decreases-push_each l = 4 * length l.extents.now + 2

abbrev pub decreases-push_at : goal.decreases-push_at
decreases-push_at l = 4 * length l.extents.now + 1

-- the cells at the subscripts so far
abbrev pub invariant-push_each-cells : goal.invariant-push_each-cells
invariant-push_each-cells l =
    l.all ≡ l.fn.all ++ flat_map (λ x. cells_from (l.so_far * l.extent + x) l.extents (all_of l.extents (map chosen_of l.cs))) (progression l.base l.step l.k)
