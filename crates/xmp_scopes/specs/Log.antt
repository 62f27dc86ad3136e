-- What the code keeps: the log of the steps that made the scopes, the latest first, and the table that agrees with it.
use Rattle.std.specs.Prelude.{◌≡◌, ℕ, List, [], ◌∷◌, length, Option, None, Some, if◌then◌else◌}
use Rattle.xmp_scopes.specs.declared.current.Held.{Held}
use Rattle.xmp_scopes.specs.declared.scopes.Entry.{Entry}
use Rattle.xmp_scopes.specs.declared.scopes.Entry.TheVariants as entry
use Rattle.xmp_scopes.specs.Names.{Name, declare, is_same}
use Rattle.xmp_scopes.specs.Table.{Row, visible, name_at, IsPlace}

-- A scope was opened; or a name was declared, which until then had the declaration that is now hidden.
pub data Step (M : Type 0) : Type 0 where
  Opened : Step M
  Declared : Name → M → Option (Held M) → Step M

module _ {M : Type 0} where
  -- what an entry of the log says, by the names of the table
  abbrev pub step_of : List (Row M) → Entry M → Step M
  step_of table entry.Opened = Opened
  step_of table (entry.Declared at m hidden) = Declared (name_at table at) m hidden

  abbrev pub steps_of : List (Row M) → List (Entry M) → List (Step M)
  steps_of table [] = []
  steps_of table (e ∷ es) = step_of table e ∷ steps_of table es

  -- the scopes that the steps made
  abbrev pub scopes_of : List (Step M) → List (List (Name × M))
  scopes_of [] = []
  scopes_of (Opened ∷ steps) = [] ∷ scopes_of steps
  scopes_of (Declared n m hidden ∷ steps) = declare n m (scopes_of steps)

  -- the innermost declaration of a name, with its depth
  abbrev pub held : Name → List (Step M) → Option (Held M)
  held n [] = None
  held n (Opened ∷ steps) = held n steps
  held n (Declared k m hidden ∷ steps) =
      if is_same n k then Some (record { depth = length (declare k m (scopes_of steps)); meaning = m }) else held n steps

  -- each declaration knows the one that it hides
  abbrev pub Hides : List (Step M) → Type 0
  Hides [] = Unit {0}
  Hides (Opened ∷ steps) = Hides steps
  Hides (Declared n m hidden ∷ steps) = (hidden ≡ held n steps) × Hides steps

  -- each declaration knows the place of its name
  abbrev pub HasPlace : List (Row M) → Entry M → Type 0
  HasPlace table entry.Opened = Unit {0}
  HasPlace table (entry.Declared at m hidden) = IsPlace (name_at table at) table at

  abbrev pub HavePlaces : List (Row M) → List (Entry M) → Type 0
  HavePlaces table [] = Unit {0}
  HavePlaces table (e ∷ es) = HasPlace table e × HavePlaces table es

-- the table and the depth are those of the log
pub record Agrees {M : Type 0} (table : List (Row M)) (depth : ℕ) (entries : List (Entry M)) : Type 0 where
  pub names : (n : Name) → visible n table ≡ held n (steps_of table entries)
  pub depths : depth ≡ length (scopes_of (steps_of table entries))
  pub hides : Hides (steps_of table entries)
  pub places : HavePlaces table entries
