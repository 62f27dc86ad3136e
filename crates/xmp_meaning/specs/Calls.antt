-- Calls of functions (ISO C11 6.5.2.2; that a function's scalars begin at 0 and that one which reaches its end returns 0 is this project's).
use Rattle.std.specs.Prelude.{ℕ, zero, suc, ◌==◌, if◌then◌else◌, List, [], ◌∷◌, length, replicate, ℤ, pos, Option, Some, None, slice_get}
use Rattle.xmp_num.specs.Arithmetic.{wrap}
use Rattle.xmp_prog.specs.declared.parts.ProgParts.{ProgParts}
use Rattle.xmp_prog.specs.declared.parts.Function.{Function}
use Rattle.xmp_meaning.specs.declared.ends.Flow.{Flow}
use Rattle.xmp_meaning.specs.declared.ends.Flow.TheVariants.{Next, Returned}
use Rattle.xmp_meaning.specs.Runs.{State, Step, Gave, Run, ◌>>=◌, pure, set_scalar}
use Rattle.xmp_meaning.specs.Declarations.{scalar_type}
use Rattle.xmp_meaning.specs.Layouts.{Layout, Whole}
use Rattle.xmp_meaning.specs.Context.{Context}
use Rattle.xmp_meaning.specs.Handlers.{erased}
use Rattle.xmp_meaning.specs.Statements.{stmt_of}

-- what a call begins with: every scalar is 0, there is no array and no output, and the caller's steps are left
abbrev pub frame : ProgParts → ℕ → State (Unit {0})
frame p steps = record { scalars = replicate (length p.scalars) (pos 0); arrays = []; out = []; taken = 0; steps = steps; extra = tt }

-- the arguments into the parameters, in order, each converted to its parameter's type
abbrev pub bind : {X : Type 0} → ProgParts → List ℕ → List ℤ → Run X (Unit {0})
bind p (slot ∷ slots) (v ∷ vs) = do
  _ ← set_scalar slot (wrap (scalar_type p slot) v)
  bind p slots vs
bind p [] vs = pure tt
bind p (slot ∷ slots) [] = pure tt

-- a function that reaches its end returns 0
abbrev pub returned : Flow → ℤ
returned Next = pos 0
returned (Returned v) = v

-- a function's statement, and its value converted to the function's type
abbrev pub invoke : Context → Function → List ℤ → Run (Unit {0}) ℤ
invoke cx f vs = do
  _ ← bind cx.program f.parameters vs
  flow ← stmt_of erased cx f.body
  pure (wrap f.result (returned flow))

-- the same of a function by its number; a number that names none gives 0
abbrev pub invoke_some : Context → Option Function → List ℤ → Run (Unit {0}) ℤ
invoke_some cx None vs = pure (pos 0)
invoke_some cx (Some f) vs = invoke cx f vs

-- a context whose calls are these
abbrev pub context_with : ProgParts → Layout → ℕ → List ℕ → (ℕ → List ℤ → ℕ → Step (Unit {0}) ℤ) → Context
context_with p layout node input call = record { program = p; layout = layout; node = node; input = input; call = call }

-- a call of function `k`, one of the first `n`, at a node; a function calls those before it alone
unfoldable pub call_of : ProgParts → ℕ → ℕ → ℕ → List ℤ → ℕ → Step (Unit {0}) ℤ
call_of p node zero k vs steps = Gave (pos 0) (frame p steps)
call_of p node (suc n) k vs steps =
    if k == n then invoke_some (context_with p Whole node [] (call_of p node n)) (slice_get p.functions n) vs (frame p steps) else call_of p node n k vs steps

-- what statements are run against that may call the first `n` functions, over whole rows
abbrev pub context : ProgParts → ℕ → List ℕ → ℕ → Context
context p node input n = context_with p Whole node input (call_of p node n)

-- what main is run against: it may call all functions
abbrev pub main_context : ProgParts → ℕ → List ℕ → Context
main_context p node input = context p node input (length p.functions)
