use Rattle.std.proofs.Common.{◌≡◌, drop}
use Rattle.std.specs.Prelude.{fold}
use Rattle.std.specs.List.{flat_map}
use Rattle.xmp_spots.specs.Variables.{declared_in, with_declaration}
use Rattle.xmp_spots.proofs.variables.+declare.Given as goal

-- the statements that are left lead to the same
abbrev pub invariant-declare_all-items : goal.invariant-declare_all-items
invariant-declare_all-items l =
    fold (with_declaration l.p) l.values (flat_map declared_in (drop l.x-index l.all))
    ≡ fold (with_declaration l.p) l.fn.values (flat_map declared_in l.all)

abbrev pub invariant-declare_tasks-items : goal.invariant-declare_tasks-items
invariant-declare_tasks-items l =
    fold (with_declaration l.p) l.values (flat_map (λ t. declared_in t.body) (drop l.t-index l.all))
    ≡ fold (with_declaration l.p) l.fn.values (flat_map (λ t. declared_in t.body) l.all)
