-- The table of names: each name that was ever declared, with its innermost declaration, or none.
use Rattle.std.specs.Prelude.{◌≡◌, ℕ, zero, suc, List, [], ◌∷◌, ◌++◌, map, Option, None, false, if◌then◌else◌}
use Rattle.xmp_scopes.specs.declared.current.Held.{Held}
use Rattle.xmp_scopes.specs.Names.{Name, is_same}

-- a name and what the table says of it
abbrev pub Row : Type 0 → Type 0
Row M = Name × Option (Held M)

module _ {M : Type 0} where
  -- what the table says of a name
  abbrev pub visible : Name → List (Row M) → Option (Held M)
  visible n [] = None
  visible n (e ∷ es) = if is_same n e.0 then e.1 else visible n es

  -- the name at a place
  abbrev pub name_at : List (Row M) → ℕ → Name
  name_at [] at = []
  name_at (e ∷ es) zero = e.0
  name_at (e ∷ es) (suc at) = name_at es at

  -- the first row of the name stands at this place
  abbrev pub IsPlace : Name → List (Row M) → ℕ → Type 0
  IsPlace n [] at = ⊥
  IsPlace n (e ∷ es) zero = e.0 ≡ n
  IsPlace n (e ∷ es) (suc at) = (is_same n e.0 ≡ false) × IsPlace n es at

  -- the table that says something else of the name at a place
  abbrev pub put : List (Row M) → ℕ → Option (Held M) → List (Row M)
  put [] at held = []
  put (e ∷ es) zero held = (e.0, held) ∷ es
  put (e ∷ es) (suc at) held = e ∷ put es at held

  -- names of which it says nothing
  abbrev pub silent : List Name → List (Row M)
  silent names = map (λ n. (n, None)) names

-- names were added of which the table says nothing
pub record Grows {M : Type 0} (old new : List (Row M)) : Type 0 where
  pub names : List Name
  pub is : new ≡ old ++ silent names
