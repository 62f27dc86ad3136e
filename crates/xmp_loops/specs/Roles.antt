-- What each scalar is to a loop directive. Source: this project, after the loop construct of XcalableMP 1.4 and its reduction clause.
use Rattle.std.specs.Prelude.{ℕ, ◌==◌, Bool, true, false, List, ◌++◌, Option, Some, None}
use Rattle.std.specs.List.{filter, find}
use Rattle.xmp_num.specs.declared.types.RedOp.{RedOp}
use Rattle.xmp_prog.specs.Numbers.{is_in}
use Rattle.xmp_prog.specs.Statements.{indices_of}
use Rattle.xmp_prog.specs.declared.statements.LoopDirective.{LoopDirective}
use Rattle.xmp_prog.specs.declared.statements.Reduction.{Reduction}
use Rattle.xmp_prog.specs.declared.statements.Stmt.{Stmt}
use Rattle.xmp_meaning.specs.Writes.{scalars_written, arrays_written}
use Rattle.xmp_loops.specs.declared.role.Role.{Role}
use Rattle.xmp_loops.specs.declared.role.Role.TheVariants.{Shared, Index, Reduced, Own}

abbrev pub role_by : Option Reduction → (index written : Bool) → Role
role_by (Some r) index written = Reduced r.op
role_by None true written = Index
role_by None false true = Own
role_by None false false = Shared

-- a reduction variable, by the first reduction that names it; an index of the nest; or written in the body
abbrev pub role_in : LoopDirective → Stmt → ℕ → Role
role_in d body slot =
    role_by (find (λ r. r.variable.number == slot) d.reductions) (is_in (indices_of d.nest) slot) (is_in (scalars_written body) slot)

-- whether a directive's body writes an array
abbrev pub writes_array : Stmt → ℕ → Bool
writes_array body array = is_in (arrays_written body) array

-- a bound of the nest: it is read before the iterations, so what they assign doesn't count there
abbrev pub before_iterations : Role → Role
before_iterations Own = Shared
before_iterations r = r

-- the scalars that the directive writes, indices included
abbrev pub scalars_of : LoopDirective → Stmt → List ℕ
scalars_of d body = indices_of d.nest ++ scalars_written body

-- those that it writes and that are neither index nor reduction variable
abbrev pub is_own : Role → Bool
is_own Own = true
is_own _ = false

abbrev pub own_scalars : LoopDirective → Stmt → List ℕ
own_scalars d body = filter (λ slot. is_own (role_in d body slot)) (scalars_written body)

-- ---- as the code puts them

-- a reduction variable by the first reduction that names it
abbrev pub or_reduced : Role → RedOp → Role
or_reduced (Reduced op) new = Reduced op
or_reduced _ new = Reduced new

abbrev pub reduced_by : Role → Option Reduction → Role
reduced_by role None = role
reduced_by role (Some r) = or_reduced role r.op
