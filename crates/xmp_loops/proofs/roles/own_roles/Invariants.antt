use Rattle.std.proofs.Common.{◌≡◌, ℕ, drop, if◌then◌else◌}
use Rattle.xmp_prog.specs.Numbers.{is_in}
use Rattle.xmp_loops.specs.Tables.{role_at}
use Rattle.xmp_loops.specs.declared.role.Role.TheVariants.{Own, Shared}
use Rattle.xmp_loops.proofs.roles.own_roles.Given as goal

-- with the scalars that are left the table is that of all
abbrev pub invariant-items : goal.invariant-items
invariant-items l = (n : ℕ)
    → (if is_in (drop l.slot-index l.written) n then Own else role_at l.roles n) ≡ (if is_in l.written n then Own else Shared)
