-- What is to be shown of the terms of an expression, and of an expression by those of its operands.
use Rattle.std.proofs.Common.{◌≡◌, ◌∙◌, sym, ap, refl, ◌++◌, ◌∷◌, [], ◌-◌, ◌||◌, ℕ, Bool, true, false, List, Option, Some, length, map}
use Rattle.std.specs.Prelude.{⊤}
use Rattle.std.specs.List.{flat_map, AllByRecursion}
use Rattle.xmp_num.specs.declared.types.Ty.{Ty}
use Rattle.xmp_scopes.specs.Names.{nearest, depth_of}
use Rattle.xmp_prog.specs.declared.expressions.Expr.{Expr}
use Rattle.xmp_prog.specs.declared.parts.ProgParts.{ProgParts}
use Rattle.xmp_prog.specs.Terms.{Term, Typed, typed, type_of, terms_of, slots_of_term}
use Rattle.xmp_prog.specs.Tests.{constant_fits, operands_fit, choice_fits, element_fits, image_fits, is_no_element, asks_no_node, calls_below, arguments_fit}
use Rattle.xmp_prog.specs.Fits.{has_coarrays}
use Rattle.xmp_syntax.specs.declared.parts.Name as named
use Rattle.xmp_names.specs.declared.names.Meaning.TheVariants.{Scalar, Array}
use Rattle.xmp_names.specs.declared.names.Environment.{Environment}
use Rattle.xmp_names.specs.Expressions.{is_function, is_first, may_name}

-- ---- lists

pub all_append : {A : Type 0} (P : A → Type 0) (xs ys : List A) → AllByRecursion P xs → AllByRecursion P ys → AllByRecursion P (xs ++ ys)
all_append P [] ys h k = k
all_append P (x ∷ xs) ys h k = (h.0, all_append P xs ys h.1 k)

-- ---- one term

-- A scalar that a name means, and that may be named here.
pub record Seen (env : Environment) (slot : ℕ) : Type 0 where
  pub name : named.Name
  pub ty : Ty
  pub means : nearest name.text env.scopes ≡ Some (Scalar slot ty)
  pub may : may_name env name (Some (Scalar slot ty)) ≡ true

-- No array is declared but at file scope.
abbrev pub NoneInside : Environment → Type 0
NoneInside env = (n : named.Name) (k : ℕ) → nearest n.text env.scopes ≡ Some (Array k) → is_first (depth_of n.text env.scopes) ≡ true

-- A term passes all tests of the program, and those of the function that is read.
pub record TermFits (env : Environment) (p : ProgParts) (t : Term) : Type 0 where
  pub constant : constant_fits t ≡ true
  pub operands : operands_fit t ≡ true
  pub choice : choice_fits t ≡ true
  pub element : element_fits p t ≡ true
  pub calls : calls_below (length p.functions) t ≡ true
  pub arguments : arguments_fit p t ≡ true
  pub image : image_fits p t ≡ true
  pub nodes : (has_coarrays p.kind || asks_no_node t) ≡ true
  pub slots : AllByRecursion (Seen env) (slots_of_term t)
  pub own_calls : is_function env.region ≡ true → calls_below (length env.functions - 1) t ≡ true
  pub own_elements : NoneInside env → is_function env.region ≡ true → is_no_element t ≡ true

pub or_true : (b : Bool) → (b || true) ≡ true
or_true true = refl
or_true false = refl

-- ---- an expression

-- All terms of an expression pass, and it has a type.
pub record TypedFits (env : Environment) (p : ProgParts) (ty : Ty) (t : Typed) : Type 0 where
  pub is : t.ty ≡ ty
  pub terms : AllByRecursion (TermFits env p) t.terms

abbrev pub ExprFits : Environment → ProgParts → Ty → Expr → Type 0
ExprFits env p ty x = TypedFits env p ty (typed p x)

-- The same of expressions in a row, with their types.
abbrev pub EachFits : Environment → ProgParts → List (Option Ty) → List Expr → Type 0
EachFits env p [] [] = ⊤
EachFits env p [] (x ∷ xs) = ⊥
EachFits env p (t ∷ ts) [] = ⊥
EachFits env p (t ∷ ts) (x ∷ xs) = ((ty : Ty) × (t ≡ Some ty) × ExprFits env p ty x) × EachFits env p ts xs

pub each_append : (env : Environment) (p : ProgParts) (ts us : List (Option Ty)) (xs ys : List Expr) → EachFits env p ts xs → EachFits env p us ys → EachFits env p (ts ++ us) (xs ++ ys)
each_append env p [] us [] ys h k = k
each_append env p [] us (x ∷ xs) ys h k = absurd h
each_append env p (t ∷ ts) us [] ys h k = absurd h
each_append env p (t ∷ ts) us (x ∷ xs) ys h k = (h.0, each_append env p ts us xs ys h.1 k)

pub each_types : (env : Environment) (p : ProgParts) (ts : List (Option Ty)) (xs : List Expr) → EachFits env p ts xs → ts ≡ map Some (map (type_of p) xs)
each_types env p [] [] h = refl
each_types env p [] (x ∷ xs) h = absurd h
each_types env p (t ∷ ts) [] h = absurd h
each_types env p (t ∷ ts) (x ∷ xs) h =
    ap (λ u. u ∷ ts) (h.0.1 ∙ ap Some (sym h.0.2.is)) ∙ ap (λ us. Some (type_of p x) ∷ us) (each_types env p ts xs h.1)

pub each_terms : (env : Environment) (p : ProgParts) (ts : List (Option Ty)) (xs : List Expr) → EachFits env p ts xs → AllByRecursion (TermFits env p) (flat_map (terms_of p) xs)
each_terms env p [] [] h = tt
each_terms env p [] (x ∷ xs) h = absurd h
each_terms env p (t ∷ ts) [] h = absurd h
each_terms env p (t ∷ ts) (x ∷ xs) h = all_append (TermFits env p) (terms_of p x) (flat_map (terms_of p) xs) h.0.2.terms (each_terms env p ts xs h.1)
