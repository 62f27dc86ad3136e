-- What functions of the interpreter ensure beside `Does`.
use Rattle.std.specs.Prelude.{◌≡◌, [], ◌∷◌, ◌++◌, ℕ, ℤ, List, Result, Ok, Err}
use Rattle.xmp_meaning.specs.declared.ends.Halt.{Halt}
use Rattle.xmp_meaning.specs.declared.ends.Halt.TheVariants as halt
use Rattle.xmp_meaning.specs.Runs.{State, StepIn, Step, Gave, Ended, Does}
use Rattle.xmp_meaning.specs.Expressions.{after_call}

-- the value, or want of memory
abbrev pub OrNoMemory : {A : Type 0} → A → Result A Halt → Type 0
OrNoMemory a (Ok b) = b ≡ a
OrNoMemory a (Err (halt.End e)) = ⊥
OrNoMemory a (Err halt.NoMemory) = Unit {0}

-- as `Does`, where the result stands for the step's value
abbrev pub DoesAs : {S A B : Type 0} → (B → A) → StepIn S A → Result B Halt → S → Type 0
DoesAs f step (Ok b) new = step ≡ Gave (f b) new
DoesAs f step (Err (halt.End e)) new = step ≡ Ended e new
DoesAs f step (Err halt.NoMemory) new = Unit {0}

-- a call in a state of its own came to this result, and left so many steps
abbrev pub Tells : Step (Unit {0}) ℤ → Result ℤ Halt → ℕ → Type 0
Tells step result steps = (s : State (Unit {0})) → Does (after_call s step) result (record s { steps = steps })

-- an item is added at the end, or memory runs out
abbrev pub Pushes : {A : Type 0} → List A → A → Result (Unit {0}) Halt → List A → Type 0
Pushes old a (Ok u) new = new ≡ old ++ a ∷ []
Pushes old a (Err (halt.End e)) new = ⊥
Pushes old a (Err halt.NoMemory) new = Unit {0}
