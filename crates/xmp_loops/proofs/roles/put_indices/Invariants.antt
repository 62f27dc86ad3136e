use Rattle.std.proofs.Common.{◌≡◌, ℕ, drop, if◌then◌else◌}
use Rattle.xmp_prog.specs.Numbers.{is_in}
use Rattle.xmp_prog.specs.Statements.{indices_of}
use Rattle.xmp_loops.specs.Tables.{role_at}
use Rattle.xmp_loops.specs.declared.role.Role.TheVariants.{Index}
use Rattle.xmp_loops.proofs.roles.put_indices.Given as goal

-- with the heads that are left the table is that of all
abbrev pub invariant-items : goal.invariant-items
invariant-items l = (n : ℕ) → (if is_in (indices_of (drop l.head-index l.nest)) n then Index else role_at l.roles n)
    ≡ (if is_in (indices_of l.nest) n then Index else role_at l.fn.roles n)
