-- The role of a scalar as the code puts it.
use Rattle.std.proofs.Common.{◌≡◌, refl, Bool, true, false, Option, Some, None}
use Rattle.std.specs.Prelude.{if◌then◌else◌}
use Rattle.xmp_prog.specs.declared.statements.Reduction.{Reduction}
use Rattle.xmp_loops.specs.Roles.{role_by, reduced_by, before_iterations}
use Rattle.xmp_loops.specs.declared.role.Role.TheVariants.{Shared, Index, Own}

-- a role by the reductions, the indices and what is written, as it is put
pub role_put : (f : Option Reduction) (i w : Bool) →
    reduced_by (if i then Index else (if w then Own else Shared)) f ≡ role_by f i w
role_put None true w = refl
role_put None false true = refl
role_put None false false = refl
role_put (Some r) true w = refl
role_put (Some r) false true = refl
role_put (Some r) false false = refl

-- the roles at the bounds, which what is written doesn't change
pub before_role : (f : Option Reduction) (i w : Bool) → role_by f i false ≡ before_iterations (role_by f i w)
before_role (Some r) i w = refl
before_role None true w = refl
before_role None false true = refl
before_role None false false = refl
