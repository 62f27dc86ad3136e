use Rattle.std.proofs.Common.{◌≡◌, ◌++◌, drop}
use Rattle.std.specs.List.{filter}
use Rattle.xmp_loops.specs.Roles.{is_own}
use Rattle.xmp_loops.specs.Tables.{role_at}
use Rattle.xmp_flow.proofs.directive.own_scalars.Given as goal

-- those so far, and those of the scalars that are left, are all
abbrev pub invariant-items : goal.invariant-items
invariant-items l =
    l.own ++ filter (λ slot. is_own (role_at l.roles slot)) (drop l.slot-index l.written)
    ≡ filter (λ slot. is_own (role_at l.roles slot)) l.written
