-- A function value that does the calls of the first functions.
use Rattle.std.specs.Prelude.{ℕ, List, ℤ, Result}
use Rattle.std.specs.declared.alloc.Global.{Global}
use denote.Ref.{Bor, MutBor}
use Rattle.xmp_meaning.specs.declared.ends.Halt.{Halt}
use Rattle.xmp_meaning.specs.Calls.{call_of}
use Rattle.xmp_serial.specs.declared.layout.Layout.{Layout}
use Rattle.xmp_serial.specs.Ends.{Tells}

-- it may be called with any arguments, and does a call of a function as the meaning has it
pub record Nests (depth : ℕ) (pre : Global → ℕ → Bor Layout → ℕ → ℕ → Bor (List ℤ) → MutBor ℕ → Type 0)
    (post : Global → ℕ → Bor Layout → ℕ → ℕ → Bor (List ℤ) → MutBor ℕ → Result ℤ Halt → MutBor ℕ → Type 0) : Type 0 where
  pub callable : (alloc : Global) (l : Bor Layout) (node k : ℕ) (vs : Bor (List ℤ)) (old : MutBor ℕ) → pre alloc depth l node k vs old
  pub does : (alloc : Global) (l : Bor Layout) (node k : ℕ) (vs : Bor (List ℤ)) (old new : MutBor ℕ) (r : Result ℤ Halt)
      → post alloc depth l node k vs old r new → Tells (call_of l.now.program.now node depth k vs.now old.now) r new.now
