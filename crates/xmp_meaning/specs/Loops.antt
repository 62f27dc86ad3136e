-- Loops (ISO C11 6.8.5; counted loops and the budget of steps are this project's).
use Rattle.std.specs.Prelude.{ℕ, ◌+◌, ◌-◌, ◌/◌, suc, Bool, true, false, if◌then◌else◌, List, [], ◌∷◌, ℤ, pos, ◌-ℤ◌, ◌+ℤ◌, int_lt, int_le}
use Rattle.xmp_num.specs.declared.types.Ty.TheVariants.{Int}
use Rattle.xmp_num.specs.Arithmetic.{wrap}
use Rattle.xmp_prog.specs.declared.statements.LoopHead.{LoopHead}
use Rattle.xmp_meaning.specs.declared.ends.Flow.{Flow}
use Rattle.xmp_meaning.specs.declared.ends.Flow.TheVariants.{Next}
use Rattle.xmp_meaning.specs.Runs.{Run, ◌>>=◌, pure, scalar, set_scalar, take_step}
use Rattle.xmp_meaning.specs.Blocks.{then_run, turns}
use Rattle.xmp_meaning.specs.Context.{Context}
use Rattle.xmp_meaning.specs.Handlers.{Handlers}
use Rattle.xmp_meaning.specs.Expressions.{expr_of, natural}

-- ---- uncounted loops

-- a turn takes a step first
abbrev pub turn : {X : Type 0} → Run X Flow → Run X Flow
turn body = do
  _ ← take_step
  body

-- Each turn takes a step, so the turn after those that there are steps for can't begin: the bound is never met.
abbrev pub while_loop : {X : Type 0} → Run X Bool → Run X Flow → Run X Flow
while_loop test body = λ s. turns (suc s.steps) test (turn body) s

-- ---- counted loops

-- whether the index is inside the bound, which is evaluated anew
abbrev pub is_inside : Bool → ℤ → ℤ → Bool
is_inside true i to = int_le i to
is_inside false i to = int_lt i to

-- the test of a counted loop, from the state as it is
abbrev pub inside : {X : Type 0} → Handlers X → Context → LoopHead → Run X Bool
inside h cx head = do
  i ← scalar head.index.number
  to ← expr_of h cx head.to
  pure (is_inside head.inclusive i (wrap Int to))

-- the index goes up
abbrev pub step_up : {X : Type 0} → LoopHead → Run X Flow
step_up head = do
  i ← scalar head.index.number
  _ ← set_scalar head.index.number (wrap Int (i +ℤ pos head.step))
  pure Next

-- how many turns there are from an index to a bound
abbrev pub turn_count : ℤ → ℤ → Bool → ℕ → ℕ
turn_count from to inclusive step = (natural ((to -ℤ from) +ℤ pos (if inclusive then 1 else 0)) + (step - 1)) / step

-- The entry of a counted loop: the index gets its first value, and then the bound is evaluated; it gives how many turns there are at most.
abbrev pub entering : {X : Type 0} → Handlers X → Context → LoopHead → Run X ℕ
entering h cx head = do
  from ← expr_of h cx head.from
  _ ← set_scalar head.index.number (wrap Int from)
  to ← expr_of h cx head.to
  pure (turn_count (wrap Int from) (wrap Int to) head.inclusive head.step)

-- The entry, and then the turns. The index ends at the first value outside.
abbrev pub counted : {X : Type 0} → Handlers X → Context → LoopHead → Run X Flow → Run X Flow
counted h cx head body = do
  n ← entering h cx head
  turns n (inside h cx head) (then_run body (step_up head))

-- loops one in the other, the outermost first, round a body
abbrev pub nest : {X : Type 0} → Handlers X → Context → List LoopHead → Run X Flow → Run X Flow
nest h cx [] body = body
nest h cx (head ∷ heads) body = counted h cx head (nest h cx heads body)
