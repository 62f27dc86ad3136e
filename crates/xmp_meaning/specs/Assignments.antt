-- Assignments, declarations and inputs (ISO C11 6.5.16 and 7.21.6.2; that all variables start at 0 is this project's).
use Rattle.std.specs.Prelude.{ℕ, ℤ, pos, Option, Some, None}
use Rattle.xmp_num.specs.declared.types.Ty.{Ty}
use Rattle.xmp_num.specs.Arithmetic.{binary_of, wrap}
use Rattle.xmp_num.specs.Decimal.{scan_of}
use Rattle.xmp_prog.specs.declared.parts.ProgParts.{ProgParts}
use Rattle.xmp_prog.specs.declared.expressions.Expr.{Expr}
use Rattle.xmp_prog.specs.declared.statements.Compound.{Compound}
use Rattle.xmp_prog.specs.declared.statements.Target.{Target}
use Rattle.xmp_prog.specs.declared.statements.Target.TheVariants as target
use Rattle.xmp_meaning.specs.declared.location.Location.{Location}
use Rattle.xmp_meaning.specs.declared.location.Location.TheVariants as location
use Rattle.xmp_meaning.specs.declared.ends.Flow.{Flow}
use Rattle.xmp_meaning.specs.declared.ends.Flow.TheVariants.{Next}
use Rattle.xmp_meaning.specs.Runs.{Run, ◌>>=◌, pure, or_trap, scalar, set_scalar, taken, set_taken}
use Rattle.xmp_meaning.specs.Declarations.{scalar_type, array_type}
use Rattle.xmp_meaning.specs.Context.{Context}
use Rattle.xmp_meaning.specs.Handlers.{Handlers}
use Rattle.xmp_meaning.specs.Expressions.{expr_of, cell_of}

-- the type of what is written at a location
abbrev pub location_type : ProgParts → Location → Ty
location_type p (location.Scalar slot) = scalar_type p slot
location_type p (location.Cell array at) = array_type p array

-- the value at a location
abbrev pub value_at : {X : Type 0} → Handlers X → Location → Run X ℤ
value_at h (location.Scalar slot) = scalar slot
value_at h (location.Cell array at) = h.get array at

-- the value, converted to the location's type
abbrev pub store : {X : Type 0} → Handlers X → Context → Location → ℤ → Run X (Unit {0})
store h cx (location.Scalar slot) v = set_scalar slot (wrap (scalar_type cx.program slot) v)
store h cx (location.Cell array at) v = h.put array at (wrap (array_type cx.program array) v)

-- what is done with the location that a target names; the subscripts of an element are evaluated and checked first
abbrev pub at_target : {X A : Type 0} → Handlers X → Context → Target → (Location → Run X A) → Run X A
at_target h cx (target.Scalar slot at) f = f (location.Scalar slot)
at_target h cx (target.Cell a) f = do
  n ← cell_of h cx a
  f (location.Cell a.array n)

-- the right side; for a compound form the old value, then the right side, joined
abbrev pub new_value : {X : Type 0} → Handlers X → Context → Location → Option Compound → Expr → Run X ℤ
new_value h cx l None e = expr_of h cx e
new_value h cx l (Some c) e = do
  old ← value_at h l
  v ← expr_of h cx e
  or_trap (binary_of c.op c.ty old v) c.at

-- the new value, converted to the location's type
abbrev pub assign : {X : Type 0} → Handlers X → Context → Option Compound → Expr → Location → Run X Flow
assign h cx compound e l = do
  v ← new_value h cx l compound e
  _ ← store h cx l v
  pure Next

-- the initialiser where there is one, converted to its variable's type
abbrev pub initialise : {X : Type 0} → Handlers X → Context → ℕ → Option Expr → Run X Flow
initialise h cx slot None = pure Next
initialise h cx slot (Some e) = do
  v ← expr_of h cx e
  _ ← store h cx (location.Scalar slot) v
  pure Next

-- a declaration sets its variable to 0 each time, and then to its initialiser
abbrev pub declare : {X : Type 0} → Handlers X → Context → ℕ → Option Expr → Run X Flow
declare h cx slot value = do
  _ ← set_scalar slot (pos 0)
  initialise h cx slot value

-- what was read, where a number was
abbrev pub store_read : {X : Type 0} → Handlers X → Context → Location → Option ℤ → Run X Flow
store_read h cx l None = pure Next
store_read h cx l (Some v) = do
  _ ← store h cx l v
  pure Next

-- one number of the input
abbrev pub scan : {X : Type 0} → Handlers X → Context → Location → Run X Flow
scan h cx l = do
  at ← taken
  _ ← set_taken (scan_of (location_type cx.program l) cx.input at).1
  store_read h cx l (scan_of (location_type cx.program l) cx.input at).0
