-- Some element of a list, and each one. Source: this project.
use Rattle.std.specs.Prelude.{◌⊎◌, List, [], ◌∷◌}

-- P holds of some element.
abbrev pub AnyOf : {X : Type 0} → (X → Type 0) → List X → Type 0
AnyOf P [] = ⊥
AnyOf P (x ∷ xs) = P x ⊎ AnyOf P xs
