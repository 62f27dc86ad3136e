-- Names by scope: the open scopes, the innermost first, and in a scope its declarations, the latest first.
-- M is what a name means. Source: the scopes of identifiers in ISO C, 6.2.1, with one name space.
use Rattle.std.specs.Prelude.{◌≢◌, Bool, false, if◌then◌else◌, ℕ, List, [], ◌∷◌, length, All, Option, None, Some, is_some, nat_eq}
use Rattle.std.specs.Cmp.Lexicographic.{pointwise}
use Rattle.std.specs.Map.{lookup}
use Rattle.std.specs.Option.{option_or}
pub use Rattle.xmp_scopes.specs.Words.{Name}

-- two names are the same: byte by byte
abbrev pub is_same : Name → Name → Bool
is_same n m = pointwise nat_eq n m

module _ {M : Type 0} where
  -- what a scope's latest declaration of a name says
  abbrev pub in_scope : Name → List (Name × M) → Option M
  in_scope n scope = lookup (is_same n) scope

  -- what a name means: its innermost declaration
  abbrev pub nearest : Name → List (List (Name × M)) → Option M
  nearest n [] = None
  nearest n (scope ∷ outer) = option_or (in_scope n scope) (nearest n outer)

  -- how many scopes are open where the innermost declaration of a name stands
  abbrev pub depth_of : Name → List (List (Name × M)) → Option ℕ
  depth_of n [] = None
  depth_of n (scope ∷ outer) = if is_some (in_scope n scope) then Some (length (scope ∷ outer)) else depth_of n outer

  -- no scope declares the name
  abbrev pub IsUndeclared : Name → List (List (Name × M)) → Type 0
  IsUndeclared n scopes = All (All (λ d. d.0 ≢ n)) scopes

  -- whether the innermost scope declares the name
  abbrev pub is_declared_here : Name → List (List (Name × M)) → Bool
  is_declared_here n [] = false
  is_declared_here n (scope ∷ outer) = is_some (in_scope n scope)

  -- one more declaration in the innermost scope, or in a first one
  abbrev pub declare : Name → M → List (List (Name × M)) → List (List (Name × M))
  declare n m [] = ((n, m) ∷ []) ∷ []
  declare n m (scope ∷ outer) = ((n, m) ∷ scope) ∷ outer
