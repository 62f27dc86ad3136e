-- The walk over a program: each part of it is a step from what was known before it to what is known after it. No rule ends the walk.
use Rattle.std.specs.Prelude.{◌≡◌, ⊤, ◌++◌, ◌∷◌, [], ℕ, ◌==◌, List, ℤ, pos, Bool, true, false, not, ◌&&◌, ◌||◌, if◌then◌else◌, Option, Some, None, is_some, length, map, codes, nat_lt, Result, Ok, Err, drop}
use Rattle.xmp_base.specs.declared.place.Place.{Place}
use Rattle.xmp_num.specs.declared.types.Ty.{Ty}
use Rattle.xmp_num.specs.declared.types.Ty.TheVariants.{Int}
use Rattle.xmp_syntax.specs.declared.parts.Name as named
use Rattle.xmp_syntax.specs.declared.parts.Call.{Call}
use Rattle.xmp_syntax.specs.declared.parts.Next.{Next}
use Rattle.xmp_syntax.specs.declared.parts.Reference.{Reference}
use Rattle.xmp_syntax.specs.declared.expression.Expr.{Expr, fold-Expr}
use Rattle.xmp_syntax.specs.declared.expression.Expr.TheOpen.{Expr-F}
use Rattle.xmp_scopes.specs.Names as scope
use Rattle.xmp_names.specs.declared.names.Region.{Region}
use Rattle.xmp_names.specs.declared.names.Region.TheVariants as region
use Rattle.xmp_names.specs.declared.names.Meaning.{Meaning}
use Rattle.xmp_names.specs.declared.names.Meaning.TheVariants.{Scalar, Array, Nodes, Template}
use Rattle.xmp_names.specs.declared.rules.Rule.{Rule}
use Rattle.xmp_names.specs.declared.rules.Rule.TheVariants.{N1, N2, N3, N4, N5, N8}
use Rattle.xmp_names.specs.declared.rules.Notes.{Notes}
use Rattle.xmp_names.specs.declared.typed.Value.{Value}
use Rattle.xmp_names.specs.declared.typed.Value.TheVariants.{Named, Trapping, Known}
use Rattle.xmp_names.specs.declared.typed.Typed.{Typed}
use Rattle.xmp_names.specs.declared.typed.Operand.{Operand}
use Rattle.xmp_names.specs.declared.typed.Parts.{Parts}
use Rattle.xmp_names.specs.declared.world.World.{World}
use Rattle.xmp_names.specs.Rules.{unless, greater, no_notes}
use Rattle.xmp_names.specs.Expressions.{expr_of, reference_of, call, arguments_of, each_next, next_of, no_parts, is_function, may_name}

-- ---- steps

pub data Step (A : Type 0) : Type 0 where
  Gave : A → World → Step A

abbrev pub Run : Type 0 → Type 0
Run A = World → Step A

abbrev pub and_then : {A B : Type 0} → Step A → (A → Run B) → Step B
and_then (Gave a w) f = f a w

infixl 10 ◌>>=◌
abbrev pub ◌>>=◌ : {A B : Type 0} → Run A → (A → Run B) → Run B
p >>= f = λ w. and_then (p w) f

abbrev pub pure : {A : Type 0} → A → Run A
pure a = λ w. Gave a w

-- What a function of the code ensures, unless memory runs out.
abbrev pub Does : {A E : Type 0} → Step A → Result A E → World → Type 0
Does step (Ok a) new = step ≡ Gave a new
Does step (Err e) new = ⊤

-- A list of parts, one after the other, after what was made so far.
abbrev pub each_after : {A B : Type 0} → (A → Run B) → List B → List A → Run (List B)
each_after f done [] = pure done
each_after f done (x ∷ xs) = do
  y ← f x
  each_after f (done ++ y ∷ []) xs

abbrev pub each : {A B : Type 0} → (A → Run B) → List A → Run (List B)
each f xs = each_after f [] xs

-- The same of steps that make nothing.
abbrev pub all : {A : Type 0} → (A → Run ⊤) → List A → Run ⊤
all f [] = pure tt
all f (x ∷ xs) = do
  _ ← f x
  all f xs

abbrev pub if_there : {A B : Type 0} → (A → Run B) → Option A → Run (Option B)
if_there f None = pure None
if_there f (Some x) = do
  y ← f x
  pure (Some y)

-- ---- rules

-- A rule breaks at a place unless a test holds.
abbrev pub judge : Bool → Rule → Place → Run ⊤
judge test rule at = λ w. Gave tt (record w { broken = w.broken ++ unless test rule at })

-- What is noted of an expression is noted of the program.
abbrev pub note : Notes → Run ⊤
note notes = λ w. Gave tt (record w { deepest = greater w.deepest notes.deepest; broken = w.broken ++ notes.broken })

-- Where in the program a step stands.
abbrev pub region_of : Run Region
region_of = λ w. Gave w.names.region w

abbrev pub is_main : Region → Bool
is_main region.File = false
is_main region.Function = false
is_main region.Main = true

-- Whether this is file scope, or main's own list of statements: one or two scopes are open there.
abbrev pub is_outermost : World → Bool
is_outermost w = nat_lt (length w.names.scopes) 2 || (is_main w.names.region && (length w.names.scopes == 2))

-- ---- expressions

abbrev pub finished : Typed → Run Operand
finished t = do
  _ ← note t.notes
  pure t.operand

-- An expression where it stands, a variable or an element, a call, and arguments behind commas.
abbrev pub typed : Expr → Run Operand
typed x = λ w. finished (expr_of w.names x) w

abbrev pub typed_reference : Reference Expr → Run Operand
typed_reference r = λ w. finished (reference_of w.names r) w

abbrev pub typed_call : Call Expr → Run Operand
typed_call c = λ w. finished (call w.names c.name (arguments_of w.names c.arguments.item)) w

abbrev pub finished_all : Parts → Run Parts
finished_all ps = do
  _ ← note ps.notes
  pure (record ps { notes = no_notes })

abbrev pub typed_all : List (Next Expr) → Run Parts
typed_all es = λ w. finished_all (each_next no_parts (map (next_of w.names) es)) w

-- The place of an expression's first token.
abbrev pub first_step : Expr-F Place → Place
first_step (Expr-F.Number p v ty) = p
first_step (Expr-F.Read r) = r.name.at
first_step (Expr-F.Call c) = c.name.at
first_step (Expr-F.Parens x) = x.open
first_step (Expr-F.Unary op x) = op.at
first_step (Expr-F.Cast ty x) = ty.open
first_step (Expr-F.Chain x ls) = x
first_step (Expr-F.Conditional c p a q b) = c

abbrev pub first_place : Expr → Place
first_place = fold-Expr Place first_step

-- A value that is known, and 0 where none is.
abbrev pub is_known : Value → Bool
is_known Named = false
is_known Trapping = false
is_known (Known v) = true

abbrev pub value_of : Value → ℤ
value_of Named = pos 0
value_of Trapping = pos 0
value_of (Known v) = v

-- An expression where it has to be constant.
abbrev pub typed_constant : Expr → Run Operand
typed_constant x = do
  t ← typed x
  _ ← judge (is_known t.value) N4 (first_place x)
  pure t

abbrev pub constant : Expr → Run ℤ
constant x = do
  t ← typed_constant x
  pure (value_of t.value)

-- ---- names

abbrev pub open_scope : Run ⊤
open_scope = λ w. Gave tt (record w { names = record w.names { scopes = [] ∷ w.names.scopes } })

abbrev pub close_scope : Run ⊤
close_scope = λ w. Gave tt (record w { names = record w.names { scopes = drop 1 w.names.scopes } })

abbrev pub is_reserved : scope.Name → Bool
is_reserved n = scope.is_same n (codes "xmp_node_num") || scope.is_same n (codes "xmp_num_nodes")

-- A name is declared in the innermost scope, also where that has it already.
abbrev pub declare : named.Name → Meaning → Run ⊤
declare n meaning = λ w. Gave tt (record w {
  names = record w.names { scopes = scope.declare n.text meaning w.names.scopes };
  broken = w.broken ++ unless (not (scope.is_declared_here n.text w.names.scopes || is_reserved n.text)) N2 n.at;
})

-- A scalar takes the next slot, and is known from here on.
abbrev pub new_slot : Ty → Run ℕ
new_slot ty = λ w. Gave (length w.scalars) (record w { scalars = w.scalars ++ ty ∷ [] })

abbrev pub declare_scalar : named.Name → Ty → Run ℕ
declare_scalar n ty = do
  slot ← new_slot ty
  _ ← declare n (Scalar slot ty)
  pure slot

-- What a name means where it stands.
abbrev pub meaning_of : named.Name → Run (Option Meaning)
meaning_of n = λ w. Gave (scope.nearest n.text w.names.scopes) (record w {
  broken = w.broken ++ unless (may_name w.names n (scope.nearest n.text w.names.scopes)) N5 n.at;
})

-- A name has to be of one kind: what is asked of its meaning, or nothing, and the name breaks a rule.
abbrev pub of_kind : {A : Type 0} → (Meaning → Option A) → named.Name → Option Meaning → Run (Option A)
of_kind kind n None = do
  _ ← judge false N1 n.at
  pure None
of_kind kind n (Some meaning) = do
  _ ← judge (is_some (kind meaning)) N3 n.at
  pure (kind meaning)

abbrev pub name_of : {A : Type 0} → (Meaning → Option A) → named.Name → Run (Option A)
name_of kind n = do
  meaning ← meaning_of n
  of_kind kind n meaning

abbrev pub a_scalar : Meaning → Option (ℕ × Ty)
a_scalar (Scalar slot ty) = Some (slot, ty)
a_scalar _ = None

abbrev pub an_int_scalar : Meaning → Option ℕ
an_int_scalar (Scalar slot Int) = Some slot
an_int_scalar _ = None

abbrev pub an_array : Meaning → Option ℕ
an_array (Array k) = Some k
an_array _ = None

abbrev pub a_nodes : Meaning → Option ℕ
a_nodes (Nodes k) = Some k
a_nodes _ = None

abbrev pub a_template : Meaning → Option ℕ
a_template (Template k) = Some k
a_template _ = None

-- ---- directives

-- Whether a place stands before another.
abbrev pub comes_before : Place → Place → Bool
comes_before a b = nat_lt a.line b.line || ((a.line == b.line) && nat_lt a.column b.column)

-- The word of a directive: no function but main has one, and the word whose place is least is kept.
abbrev pub first_of_two : Option Place → Place → Option Place
first_of_two None at = Some at
first_of_two (Some first) at = Some (if comes_before at first then at else first)

abbrev pub directive_at : Place → Run ⊤
directive_at at = λ w. Gave tt (record w {
  mappings = record w.mappings { first_directive = first_of_two w.mappings.first_directive at };
  broken = w.broken ++ unless (not (is_function w.names.region)) N5 at;
})

-- What stands only at file scope or directly in main's body: an array and a mapping directive.
abbrev pub stands_outermost : Place → Run ⊤
stands_outermost at = λ w. judge (is_outermost w) N8 at w

-- What no function but main has.
abbrev pub not_in_function : Place → Run ⊤
not_in_function at = λ w. judge (not (is_function w.names.region)) N5 at w
