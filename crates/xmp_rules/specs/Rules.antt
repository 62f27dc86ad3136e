-- The rules of names, each by its sentence: it breaks at a place where something of the program that is judged there is wrong.
-- Source: this project; docs/LANGUAGE.md has the rules with examples.
use Rattle.std.specs.Prelude.{◌≡◌, ◌⊎◌, ⊤, ℕ, ◌<◌, ◌≤◌, ℤ, pos, List, length, [], ◌∷◌, true, false, Option, Some, None, codes}
use Rattle.xmp_base.specs.declared.place.Place.{Place}
use Rattle.xmp_base.specs.declared.refusal.Phase.TheVariants as phase
use Rattle.xmp_syntax.specs.declared.expression.Expr.{Expr}
use Rattle.xmp_syntax.specs.declared.parts.TypeWords.{TypeWords}
use Rattle.xmp_syntax.specs.declared.parts.TypeWords.TheVariants as words
use Rattle.xmp_syntax.specs.declared.program.Function.{Function}
use Rattle.xmp_syntax.specs.declared.program.Tree.{Tree}
use Rattle.xmp_scopes.specs.Names.{Name}
use Rattle.xmp_parts.specs.Verdict.{BreaksNames}
use Rattle.xmp_rules.specs.Lists.{AnyOf}
use Rattle.xmp_rules.specs.Scopes as scopes_of
use Rattle.xmp_rules.specs.Scopes.{Declared, Part, File, InFunction, InMain, Context, Scope, scopes, innermost, meaning, IsUndeclared}
use Rattle.xmp_names.specs.Walk.{first_place}
use Rattle.xmp_walk.specs.Program.{parameters_in}
use Rattle.xmp_rules.specs.Spots.{Use, Called, What, Used, Declares, Dummy, Directive, Maps, Extents, Constant, Returned, Word, Sync, Returns, Head, spots}
use Rattle.xmp_rules.specs.Constants.{HasValue, IsConstant}

-- A rule breaks at a place of a program where it does so at one of its spots.
abbrev pub BreaksAt : (Context → What → Place → Type 0) → Tree → Place → Type 0
BreaksAt P t at = AnyOf (λ s. P s.in s.what at) (spots t)

-- The checker counts a rule of names, by its number, as broken at a place of a program.
abbrev pub Counts : Tree → Option ℕ → ℕ → Place → Type 0
Counts t given rule at = BreaksNames t given (record { phase = phase.Names; rule = rule; at = at })

-- ---- N1: a name is unknown

-- The names of two functions that a program with a coarray may call without a declaration.
abbrev pub IsIntrinsic : Name → Type 0
IsIntrinsic n = (n ≡ codes "xmp_node_num") ⊎ (n ≡ codes "xmp_num_nodes")

-- A call without a declaration is that of an intrinsic function.
abbrev pub IsGiven : Context → Name → Use → Type 0
IsGiven c n (Called count) = (c.coarray ≡ true) × IsIntrinsic n
IsGiven c n _ = ⊥

abbrev pub IsUnknown : Context → What → Place → Type 0
IsUnknown c (Used n u) at = (n.at ≡ at) × (IsUndeclared n.text (scopes c) × (IsGiven c n.text u → ⊥))
IsUnknown c (Sync word) at = (word ≡ at) × (c.coarray ≡ false)
IsUnknown c _ at = ⊥

-- ---- N2: a scope has a name twice

abbrev pub IsNamed : Name → Scope → Type 0
IsNamed n s = AnyOf (λ d. d.0 ≡ n) s

abbrev pub IsTwice : Context → What → Place → Type 0
IsTwice c (Declares n) at = (n.at ≡ at) × (IsNamed n.text (innermost c.inner c.file) ⊎ IsIntrinsic n.text)
IsTwice c (Dummy before n) at = (n.at ≡ at) × AnyOf (λ m. m ≡ n.text) before
IsTwice c _ at = ⊥

-- ---- N4: an expression isn't constant where it has to be

abbrev pub IsInconstant : Context → What → Place → Type 0
IsInconstant c (Constant x) at = (first_place x ≡ at) × (IsConstant x → ⊥)
IsInconstant c (Returned x) at = (first_place x ≡ at) × ((c.part ≡ InMain) × (IsConstant x → ⊥))
IsInconstant c _ at = ⊥

-- ---- N5: a function other than main reaches outside itself, or has what only main has

abbrev pub IsInFunction : Part → Type 0
IsInFunction File = ⊥
IsInFunction (InFunction k) = ⊤
IsInFunction InMain = ⊥

-- A function by its number is earlier than the part that is being read.
abbrev pub IsEarlier : ℕ → Part → Type 0
IsEarlier j File = ⊤
IsEarlier j (InFunction k) = j < k
IsEarlier j InMain = ⊤

-- What a name means lies outside: a function that isn't an earlier one, or something else that no inner scope declares.
abbrev pub LiesOutside : Context → Name → Option Declared → Type 0
LiesOutside c n None = ⊥
LiesOutside c n (Some (scopes_of.Function j parameters ty depth)) = IsEarlier j c.part → ⊥
LiesOutside c n (Some d) = IsUndeclared n c.inner

-- Main is called.
abbrev pub CallsMain : Name → Use → Option Declared → Type 0
CallsMain n (Called count) (Some d) = n ≡ codes "main"
CallsMain n _ _ = ⊥

abbrev pub ReachesOut : Context → What → Place → Type 0
ReachesOut c (Used n u) at = (n.at ≡ at) × ((IsInFunction c.part × LiesOutside c n.text (meaning c n.text)) ⊎ CallsMain n.text u (meaning c n.text))
ReachesOut c (Directive word) at = (word ≡ at) × IsInFunction c.part
ReachesOut c (Word word) at = (word ≡ at) × IsInFunction c.part
ReachesOut c (Extents n extents) at = (n.at ≡ at) × IsInFunction c.part
ReachesOut c _ at = ⊥

-- ---- N7: the text doesn't end with `int main`, or main returns before its end

abbrev pub IsInt : TypeWords → Type 0
IsInt (words.Int at) = ⊤
IsInt (words.Long at) = ⊥
IsInt (words.LongInt at int_at) = ⊥

-- `int main` without parameters.
abbrev pub IsMain : Function → Type 0
IsMain f = IsInt f.ty × ((f.name.text ≡ codes "main") × (parameters_in f.parameters.item ≡ []))

abbrev pub IsMisplaced : Context → What → Place → Type 0
IsMisplaced c (Returns word) at = (word ≡ at) × (c.part ≡ InMain)
IsMisplaced c (Head f) at = (f.name.at ≡ at) × (IsMain f → ⊥)
IsMisplaced c _ at = ⊥

-- ---- N8: an array or a mapping stands where none may, or an array is too large

-- At file scope, or directly in main's body.
abbrev pub IsOutermost : Part → List Scope → Type 0
IsOutermost part [] = ⊤
IsOutermost part (s ∷ []) = part ≡ InMain
IsOutermost part (s ∷ t ∷ ss) = ⊥

-- An extent is 1 to 4,194,304.
abbrev pub IsExtent : ℤ → Type 0
IsExtent v = (n : ℕ) × ((v ≡ pos n) × ((1 ≤ n) × (n ≤ 4194304)))

-- A constant that is no extent.
abbrev pub IsNoExtent : Expr → Type 0
IsNoExtent x = (v : ℤ) × (HasValue x v × (IsExtent v → ⊥))

abbrev pub StandsIll : Context → What → Place → Type 0
StandsIll c (Extents n extents) at = (n.at ≡ at) × (AnyOf IsNoExtent extents ⊎ ((3 < length extents) ⊎ (IsOutermost c.part c.inner → ⊥)))
StandsIll c (Maps word) at = (word ≡ at) × (IsOutermost c.part c.inner → ⊥)
StandsIll c _ at = ⊥
