use Rattle.std.proofs.Common.{◌≡◌, ℕ, drop}
use Rattle.std.specs.Prelude.{◌||◌}
use Rattle.xmp_prog.specs.Numbers.{is_in}
use Rattle.xmp_loops.proofs.tables.Numbers.put_all.Given as goal

-- with the numbers that are left the set is that of all
abbrev pub invariant-items : goal.invariant-items
invariant-items l = (m : ℕ) → (is_in (drop l.n-index l.numbers) m || is_in l.self m) ≡ (is_in l.numbers m || is_in l.fn.self m)
