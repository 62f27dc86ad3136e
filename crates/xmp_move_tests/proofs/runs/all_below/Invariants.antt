use Rattle.std.proofs.Common.{ℕ, ◌<◌}
use Rattle.std.specs.Prelude.{slice_index_or}
use Rattle.xmp_move_tests.proofs.runs.all_below.Given as goal

-- those so far lie below
abbrev pub invariant-slots : goal.invariant-slots
invariant-slots l = (k d : ℕ) → k < l.s-index → slice_index_or l.slots k d < l.bound
