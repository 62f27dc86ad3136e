use Rattle.std.proofs.Common.{◌≡◌, ◌==◌, ℕ, drop}
use Rattle.std.specs.List.{find}
use Rattle.xmp_loops.specs.Tables.{role_at}
use Rattle.xmp_loops.specs.Roles.{reduced_by}
use Rattle.xmp_loops.proofs.roles.put_reductions.Given as goal

-- with the reductions that are left the table is that of all
abbrev pub invariant-items : goal.invariant-items
invariant-items l = (n : ℕ) → reduced_by (role_at l.roles n) (find (λ r. r.variable.number == n) (drop l.r-index l.reductions))
    ≡ reduced_by (role_at l.fn.roles n) (find (λ r. r.variable.number == n) l.reductions)
