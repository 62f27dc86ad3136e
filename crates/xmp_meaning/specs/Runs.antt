-- Parts of a run (this project): each goes from a state to a value and a state, or to an end. What follows what is
-- said of states of any kind.
use Rattle.std.specs.Prelude.{◌≡◌, ◌++◌, Option, Some, None, ℕ, zero, suc, List, ℤ, pos, Result, Ok, Err, unwrap_or, slice_get, slice_set}
use Rattle.xmp_base.specs.declared.place.Place.{Place}
use Rattle.xmp_num.specs.declared.types.TrapKind.{TrapKind}
use Rattle.xmp_meaning.specs.declared.ends.End.{End}
use Rattle.xmp_meaning.specs.declared.ends.End.TheVariants.{Trapped, OutOfSteps}
use Rattle.xmp_meaning.specs.declared.ends.Halt.{Halt}
use Rattle.xmp_meaning.specs.declared.ends.Halt.TheVariants as halt
use Rattle.xmp_meaning.specs.Cells.{read_in, write_in}

-- A value and the state then, or an end and the state then.
pub data StepIn (S : Type 0) (A : Type 0) : Type 0 where
  Gave : A → S → StepIn S A
  Ended : End → S → StepIn S A

-- A part of a run that gives a value, or ends the run.
abbrev pub RunIn : Type 0 → Type 0 → Type 0
RunIn S A = S → StepIn S A

-- why a step ended the run, where it did, and the state then
abbrev pub end_of : {S A : Type 0} → StepIn S A → Option End
end_of (Gave a s) = None
end_of (Ended e s) = Some e

abbrev pub state_of : {S A : Type 0} → StepIn S A → S
state_of (Gave a s) = s
state_of (Ended e s) = s

-- ---- one after the other

-- what follows a value; nothing follows an end
abbrev pub and_then : {S A B : Type 0} → StepIn S A → (A → RunIn S B) → StepIn S B
and_then (Gave a s) f = f a s
and_then (Ended e s) f = Ended e s

-- a part, and then what follows its value
infixl 10 ◌>>=◌
abbrev pub ◌>>=◌ : {S A B : Type 0} → RunIn S A → (A → RunIn S B) → RunIn S B
p >>= f = λ s. and_then (p s) f

-- a value, and nothing is done
abbrev pub pure : {S A : Type 0} → A → RunIn S A
pure a = λ s. Gave a s

-- the end of the run
abbrev pub stop : {S A : Type 0} → End → RunIn S A
stop e = λ s. Ended e s

-- the end of the run by a trap
abbrev pub trap : {S A : Type 0} → TrapKind → Place → RunIn S A
trap kind at = stop (Trapped kind at)

-- a value, or the trap at a place
abbrev pub or_trap : {S A : Type 0} → Result A TrapKind → Place → RunIn S A
or_trap (Ok a) at = pure a
or_trap (Err kind) at = trap kind at

-- ---- the state of a program

-- What a run has: the scalars by slot, the arrays by number, each a row of its cells, the output so far, how many
-- bytes of the input are read, how many steps of uncounted loops are left, and a part that handlers alone read and
-- write.
pub record State (X : Type 0) : Type 0 where
  pub scalars : List ℤ
  pub arrays : List (List ℤ)
  pub out : List ℕ
  pub taken : ℕ
  pub steps : ℕ
  pub extra : X

-- steps and parts of runs over these states
abbrev pub Step : Type 0 → Type 0 → Type 0
Step X A = StepIn (State X) A

abbrev pub Run : Type 0 → Type 0 → Type 0
Run X A = RunIn (State X) A

-- ---- what a run reads and writes

-- a scalar; 0 where there is none
abbrev pub scalar : {X : Type 0} → ℕ → Run X ℤ
scalar slot = λ s. Gave (unwrap_or (slice_get s.scalars slot) (pos 0)) s

-- another value in a scalar, where there is one
abbrev pub set_scalar : {X : Type 0} → ℕ → ℤ → Run X (Unit {0})
set_scalar slot v = λ s. Gave tt (record s { scalars = slice_set s.scalars slot v })

-- a cell of an array by its number; 0 where there is none
abbrev pub cell : {X : Type 0} → ℕ → ℤ → Run X ℤ
cell row at = λ s. Gave (read_in s.arrays row at) s

-- another value in a cell, where there is one
abbrev pub set_cell : {X : Type 0} → ℕ → ℤ → ℤ → Run X (Unit {0})
set_cell row at v = λ s. Gave tt (record s { arrays = write_in s.arrays row at v })

-- bytes more of output
abbrev pub write : {X : Type 0} → List ℕ → Run X (Unit {0})
write text = λ s. Gave tt (record s { out = s.out ++ text })

-- how far the input is read
abbrev pub taken : {X : Type 0} → Run X ℕ
taken = λ s. Gave s.taken s

-- the input is read so far
abbrev pub set_taken : {X : Type 0} → ℕ → Run X (Unit {0})
set_taken n = λ s. Gave tt (record s { taken = n })

-- one step of an uncounted loop less, of so many that are left
abbrev pub step_of : {X : Type 0} → ℕ → Run X (Unit {0})
step_of zero = stop OutOfSteps
step_of (suc n) = λ s. Gave tt (record s { steps = n })

-- one step, where one is left
abbrev pub take_step : {X : Type 0} → Run X (Unit {0})
take_step = λ s. step_of s.steps s

-- ---- what a function of an interpreter ensures

-- It does the step: its result is the step's, and so is the state then. Want of memory is the one free answer.
abbrev pub Does : {S A : Type 0} → StepIn S A → Result A Halt → S → Type 0
Does step (Ok a) new = step ≡ Gave a new
Does step (Err (halt.End e)) new = step ≡ Ended e new
Does step (Err halt.NoMemory) new = Unit {0}
