use Rattle.std.proofs.Common.{◌≡◌, ℕ, drop}
use Rattle.std.specs.Prelude.{◌||◌}
use Rattle.xmp_prog.specs.Numbers.{is_in}
use Rattle.xmp_prog.specs.Statements.{indices_of}
use Rattle.xmp_flow.proofs.directive.put_indices.Given as goal

-- with the heads that are left the set is that of all
abbrev pub invariant-items : goal.invariant-items
invariant-items l = (m : ℕ) → (is_in (indices_of (drop l.h-index l.nest)) m || is_in l.out m) ≡ (is_in (indices_of l.nest) m || is_in l.fn.out m)
