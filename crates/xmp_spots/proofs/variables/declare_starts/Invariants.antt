use Rattle.std.proofs.Common.{◌≡◌, map, drop}
use Rattle.std.specs.Prelude.{fold}
use Rattle.xmp_spots.specs.Variables.{file_scope, with_declaration}
use Rattle.xmp_spots.proofs.variables.declare_starts.Given as goal

-- those that are left lead to the same
abbrev pub invariant-starts : goal.invariant-starts
invariant-starts l =
    fold (with_declaration l.p) l.values (map (λ s. record { slot = s.slot; value = s.value }) (drop l.s-index l.p.start))
    ≡ fold (with_declaration l.p) l.fn.values (file_scope l.p)
