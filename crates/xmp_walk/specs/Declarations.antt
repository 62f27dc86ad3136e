-- Declarations of scalars and arrays (ISO C11 6.7; coarrays are this project's).
use Rattle.std.specs.Prelude.{⊤, ◌++◌, ◌∷◌, [], ℕ, List, ℤ, pos, negsuc, Bool, true, false, ◌&&◌, nat_le, if◌then◌else◌, Option, Some, None, is_some, length, map}
use Rattle.std.specs.List.{list_all}
use Rattle.xmp_base.specs.declared.place.Place.{Place}
use Rattle.xmp_num.specs.declared.types.Ty.{Ty}
use Rattle.xmp_num.specs.declared.types.Ty.TheVariants.{Int, Long}
use Rattle.xmp_prog.specs.declared.expressions.Expr as prog
use Rattle.xmp_prog.specs.declared.statements.Stmt as made
use Rattle.xmp_prog.specs.declared.statements.Stmt.TheVariants as s
use Rattle.xmp_prog.specs.declared.statements.Plain.TheVariants as p
use Rattle.xmp_syntax.specs.declared.parts.Name as named
use Rattle.xmp_syntax.specs.declared.parts.TypeWords.{TypeWords}
use Rattle.xmp_syntax.specs.declared.parts.TypeWords.TheVariants as words
use Rattle.xmp_syntax.specs.declared.expression.Expr.{Expr}
use Rattle.xmp_syntax.specs.declared.declaration.Declarator.{Declarator}
use Rattle.xmp_syntax.specs.declared.declaration.Declarator.TheVariants as declarator
use Rattle.xmp_syntax.specs.declared.declaration.Declaration.{Declaration}
use Rattle.xmp_names.specs.declared.names.Meaning.TheVariants.{Array}
use Rattle.xmp_names.specs.declared.rules.Rule.TheVariants.{N8}
use Rattle.xmp_names.specs.declared.typed.Value.{Value}
use Rattle.xmp_names.specs.declared.typed.Value.TheVariants.{Named, Trapping, Known}
use Rattle.xmp_names.specs.Lists.{listed, inner}
use Rattle.xmp_names.specs.Sizes.{is_extent}
use Rattle.xmp_names.specs.Walk.{Gave, Run, ◌>>=◌, pure, each, all, judge, typed, typed_constant, declare, declare_scalar, stands_outermost, not_in_function}

-- ---- types

-- The type that its words name.
abbrev pub type_of : TypeWords → Ty
type_of (words.Int p) = Int
type_of (words.Long p) = Long
type_of (words.LongInt p q) = Long

-- ---- arrays

-- An extent as the typed program has it, 1 where it isn't one.
abbrev pub extent_or_one : ℤ → ℕ
extent_or_one (pos n) = if is_extent (pos n) then n else 1
extent_or_one (negsuc n) = 1

-- Whether what is known of an extent is right; one of which nothing is known breaks another rule.
abbrev pub extent_right : Value → Bool
extent_right Named = true
extent_right Trapping = true
extent_right (Known v) = is_extent v

abbrev pub extent_of : Value → ℕ
extent_of Named = 1
extent_of Trapping = 1
extent_of (Known v) = extent_or_one v

-- An array takes the next number, and is known from the end of its declarator on (6.2.1).
abbrev pub new_array : Ty → List ℕ → Bool → Place → Run ℕ
new_array ty extents coarray at = λ w. Gave (length w.names.arrays) (record w {
  names = record w.names {
    arrays = w.names.arrays ++ record { ty = ty; extents = extents; coarray = coarray; at = at } ∷ [];
  };
})

abbrev pub declare_array : Ty → named.Name → List Expr → Bool → Run ⊤
declare_array ty n extents coarray = do
  values ← each typed_constant extents
  number ← new_array ty (map (λ t. extent_of t.value) values) coarray n.at
  _ ← declare n (Array number)
  _ ← judge (list_all (λ t. extent_right t.value) values && nat_le (length extents) 3) N8 n.at
  _ ← stands_outermost n.at
  not_in_function n.at

-- ---- declarations

-- A scalar with its initialiser, which knows it already.
abbrev pub initialiser : Option (Place × Expr) → Run (Option prog.Expr)
initialiser None = pure None
initialiser (Some x) = do
  t ← typed x.1
  pure (Some t.made)

-- In a list of statements: what a declarator becomes there.
abbrev pub local_declarator : Ty → Declarator → Run (List made.Stmt)
local_declarator ty (declarator.Scalar n value) = do
  slot ← declare_scalar n ty
  first ← initialiser value
  pure (s.Plain (p.Declare slot first n.at) ∷ [])
local_declarator ty (declarator.Array n extents image) = do
  _ ← declare_array ty n (inner extents) (is_some image)
  pure []

abbrev pub local_declarators : Ty → List made.Stmt → List Declarator → Run (List made.Stmt)
local_declarators ty done [] = pure done
local_declarators ty done (x ∷ xs) = do
  more ← local_declarator ty x
  local_declarators ty (done ++ more) xs

-- What a declaration becomes after the statements before it.
abbrev pub local_declaration : List made.Stmt → Declaration → Run (List made.Stmt)
local_declaration done d = local_declarators (type_of d.ty) done (listed d.items)

-- At file scope: an initialiser is constant, and is the scalar's value at the start.
abbrev pub start_of : ℕ → Option (Place × Expr) → Run ⊤
start_of slot None = pure tt
start_of slot (Some x) = do
  t ← typed_constant x.1
  λ w. Gave tt (record w { start = w.start ++ record { slot = slot; value = t.made } ∷ [] })

abbrev pub file_declarator : Ty → Declarator → Run ⊤
file_declarator ty (declarator.Scalar n value) = do
  slot ← declare_scalar n ty
  start_of slot value
file_declarator ty (declarator.Array n extents image) = declare_array ty n (inner extents) (is_some image)

abbrev pub file_declaration : Declaration → Run ⊤
file_declaration d = all (file_declarator (type_of d.ty)) (listed d.items)
