-- The lists of the grammar, without what separates and surrounds their items, and how they are written. Source: this project.
use Rattle.std.specs.Prelude.{List, ◌∷◌, map, Bool, true, false}
use Rattle.xmp_syntax.specs.declared.parts.Inside.{Inside}
use Rattle.xmp_syntax.specs.declared.parts.CommaList.{CommaList}
use Rattle.xmp_syntax.specs.declared.parts.Several.{Several}
use Rattle.xmp_syntax.specs.declared.parts.Several.TheVariants as several
use Rattle.xmp_syntax.specs.declared.parts.Single.{Single}
use Rattle.xmp_syntax.specs.declared.parts.Single.TheVariants as single
use Rattle.xmp_names.specs.declared.mappings.Notation.{Notation}
use Rattle.xmp_names.specs.declared.mappings.Notation.TheVariants.{Brackets, Parens}

-- The items of a list with commas, and the items between brackets.
abbrev pub listed : {A : Type 0} → CommaList A → List A
listed l = l.first ∷ map (λ n. n.item) l.more

abbrev pub inner : {A : Type 0} → List (Inside A) → List A
inner xs = map (λ x. x.item) xs

-- The parts of a nodes array or a template, in either notation.
abbrev pub parts : {A : Type 0} → Several A A → List A
parts (several.Brackets xs) = inner xs
parts (several.Parens x) = listed x.item

abbrev pub notation : {A B : Type 0} → Several A B → Notation
notation (several.Brackets xs) = Brackets
notation (several.Parens x) = Parens

-- The same of a single part.
abbrev pub only : {A : Type 0} → Single A → A
only (single.Bracket x) = x.item
only (single.Paren x) = x.item

abbrev pub only_notation : {A : Type 0} → Single A → Notation
only_notation (single.Bracket x) = Brackets
only_notation (single.Paren x) = Parens

-- Whether two notations are the same.
abbrev pub is_same : Notation → Notation → Bool
is_same Brackets Brackets = true
is_same Brackets Parens = false
is_same Parens Brackets = false
is_same Parens Parens = true
