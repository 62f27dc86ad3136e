use Rattle.std.proofs.Common.{◌≡◌, ◌<◌, ◌≤◌, ◌-◌, ℕ, [], Some, length, slice_get}
use Rattle.std.specs.Prelude.{vec_len}
use Rattle.xmp_seg.specs.Seats.{at_start}
use Rattle.xmp_seg.specs.Rule.{run_at_start}
use Rattle.xmp_seg.proofs.making.seats_of.Given as goal

-- the seats so far are those of the first images, and the rest has the others
abbrev pub invariant-loop-rest : goal.invariant-loop-rest
invariant-loop-rest g l =
    (l.rest.table_id ≡ l.table.shared.table_id) × (l.rest.me ≡ (run_at_start (length l.seats.items) l.images, [])) × (length l.seats.items ≤ l.images)
    × ((k : ℕ) → k < length l.seats.items → slice_get l.seats.items k ≡ Some (at_start l.table.shared.table_id k))

abbrev pub decreases-loop-rest : goal.decreases-loop-rest
decreases-loop-rest g l = l.images - length l.seats.items
