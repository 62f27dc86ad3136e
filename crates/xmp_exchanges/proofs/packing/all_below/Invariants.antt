use Rattle.std.proofs.Common.{ℕ, ◌<◌}
use Rattle.std.specs.Prelude.{slice_index_or}
use Rattle.xmp_exchanges.proofs.packing.all_below.Given as goal

abbrev pub invariant-slots : goal.invariant-slots
invariant-slots l = (k d : ℕ) → k < l.slot-index → slice_index_or l.slots k d < l.length
