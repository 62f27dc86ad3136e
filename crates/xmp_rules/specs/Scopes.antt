-- What is in scope at a place of a program: the declarations that stand before it in the blocks round it, each with what it
-- declares (ISO C11 6.2.1; one name space).
use Rattle.std.specs.Prelude.{◌≢◌, ℕ, List, [], ◌∷◌, ◌++◌, Bool, Option}
use Rattle.std.specs.List.{AllByRecursion}
use Rattle.xmp_num.specs.declared.types.Ty.{Ty}
use Rattle.xmp_scopes.specs.Names as names
use Rattle.xmp_scopes.specs.Names.{Name}
use Rattle.xmp_names.specs.declared.mappings.Notation.{Notation}

-- What a name was declared as.
pub data Declared : Type 0 where
  Scalar : Ty → Declared
  -- the type of its elements, how many dimensions it has, and whether it is a coarray
  Array : Ty → ℕ → Bool → Declared
  -- how it is written, and how many dimensions it has
  Nodes : Notation → ℕ → Declared
  Template : Notation → ℕ → Declared
  -- how many functions stand before it, how many parameters it has, its result's type, and its call depth
  Function : ℕ → ℕ → Ty → ℕ → Declared

-- Where a part of the program stands: at file scope, in a function by how many stand before it, or in main.
pub data Part : Type 0 where
  File : Part
  InFunction : ℕ → Part
  InMain : Part

-- A scope has its declarations, the latest first.
abbrev pub Scope : Type 0
Scope = List (Name × Declared)

-- What is known at a place: whether the program declares a coarray, which part this is, the scopes that are open inside the
-- file's, the innermost first, the file's scope, and how many functions were declared.
pub record Context : Type 0 where
  pub coarray : Bool
  pub part : Part
  pub inner : List Scope
  pub file : Scope
  pub functions : ℕ

-- All scopes that are open, the innermost first.
abbrev pub scopes : Context → List Scope
scopes c = c.inner ++ c.file ∷ []

abbrev pub innermost : List Scope → Scope → Scope
innermost [] file = file
innermost (s ∷ ss) file = s

-- What a name means: its nearest declaration.
abbrev pub meaning : Context → Name → Option Declared
meaning c n = names.nearest n (scopes c)

-- No scope declares a name.
abbrev pub IsUndeclared : Name → List Scope → Type 0
IsUndeclared n ss = AllByRecursion (AllByRecursion (λ d. d.0 ≢ n)) ss

-- A name is declared in the innermost scope.
abbrev pub inner_with : Name → Declared → List Scope → List Scope
inner_with n d [] = []
inner_with n d (s ∷ ss) = ((n, d) ∷ s) ∷ ss

abbrev pub file_with : Name → Declared → List Scope → Scope → Scope
file_with n d [] file = (n, d) ∷ file
file_with n d (s ∷ ss) file = file

abbrev pub declare : Name → Declared → Context → Context
declare n d c = record c { inner = inner_with n d c.inner; file = file_with n d c.inner c.file }

-- A block opens a scope.
abbrev pub opened : Context → Context
opened c = record c { inner = [] ∷ c.inner }
