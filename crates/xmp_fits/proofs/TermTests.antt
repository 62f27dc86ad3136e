-- The tests of terms and statements that don't speak of scopes, and what they give for the clauses of a program.
use Rattle.std.proofs.Common.{◌≡◌, ◌∙◌, ap, refl, ◌∷◌, [], ◌-◌, ◌&&◌, ◌||◌, ℕ, Bool, true, List, Some, length}
use Rattle.std.specs.Prelude.{nat_lt}
use Rattle.std.specs.List.{list_all, AllByRecursion}
use Rattle.std.proofs.lemmas.Bool.{lt-ltb}
use Rattle.std.proofs.lemmas.Option.{slice_get_within}
use Rattle.xmp_num.specs.declared.types.Ty.{Ty}
use Rattle.xmp_prog.specs.declared.parts.ProgParts.{ProgParts}
use Rattle.xmp_prog.specs.Terms.{Term, type_of, terms_of, slots_of_term}
use Rattle.xmp_prog.specs.Statements.{Statement, terms_in, slots_beside}
use Rattle.xmp_prog.specs.Tests.{constant_fits, operands_fit, choice_fits, element_fits, image_fits, is_no_element, asks_no_node, calls_below, arguments_fit, assignment_fits, is_no_sync, stands_in_function}
use Rattle.xmp_prog.specs.Fits.{has_coarrays, PrintFits}
use Rattle.xmp_names.specs.declared.names.Environment.{Environment}
use Rattle.xmp_names.specs.declared.typed.Operand.{Operand}
use Rattle.xmp_names.specs.Expressions.{is_function}
use Rattle.xmp_fits.proofs.TermsFit.{NoneInside, Seen, TermFits}
use Rattle.xmp_fits.proofs.ValuesLie.{Lies}
use Rattle.xmp_fits.proofs.OperandsFit.{Fits, IsConst}
use Rattle.xmp_fits.proofs.NamesFit.{Tells}
use Rattle.xmp_fits.proofs.PlainFits.{StatementFits}

-- Whether a scalar is one of the program's.
abbrev pub is_slot : ProgParts → ℕ → Bool
is_slot p n = nat_lt n (length p.scalars)

-- A term passes all tests of the program; in a function other than main, whose number is `number`, those of a function too
-- (that it has no element of an array, where it is known that no array is declared inside it).
pub record TermPasses (p : ProgParts) (quiet inside : Bool) (number : ℕ) (t : Term) : Type 0 where
  pub constant : constant_fits t ≡ true
  pub operands : operands_fit t ≡ true
  pub choice : choice_fits t ≡ true
  pub element : element_fits p t ≡ true
  pub calls : calls_below (length p.functions) t ≡ true
  pub arguments : arguments_fit p t ≡ true
  pub image : image_fits p t ≡ true
  pub nodes : (has_coarrays p.kind || asks_no_node t) ≡ true
  pub slots : list_all (is_slot p) (slots_of_term t) ≡ true
  pub own_calls : inside ≡ true → calls_below number t ≡ true
  pub own_elements : quiet ≡ true → inside ≡ true → is_no_element t ≡ true

pub record StatementPasses (p : ProgParts) (quiet inside : Bool) (number : ℕ) (x : Statement) : Type 0 where
  pub terms : AllByRecursion (TermPasses p quiet inside number) (terms_in p x)
  pub assignment : assignment_fits p x ≡ true
  pub format : PrintFits p x
  pub slots : list_all (is_slot p) (slots_beside x) ≡ true
  pub sync : (has_coarrays p.kind || is_no_sync x) ≡ true
  pub stands : inside ≡ true → stands_in_function x ≡ true

-- An operand of a known type, all whose terms pass.
pub record OperandPasses (p : ProgParts) (quiet inside : Bool) (number : ℕ) (x : Operand) : Type 0 where
  pub ty : Ty
  pub typed : x.ty ≡ Some ty
  pub is : type_of p x.made ≡ ty
  pub terms : AllByRecursion (TermPasses p quiet inside number) (terms_of p x.made)
  pub lies : Lies ty x.value
  pub constant : IsConst ty x.made x.value

pub all_map : {A : Type 0} (P Q : A → Type 0) → ((x : A) → P x → Q x) → (xs : List A) → AllByRecursion P xs → AllByRecursion Q xs
all_map P Q f [] h = tt
all_map P Q f (x ∷ xs) h = (f x h.0, all_map P Q f xs h.1)

pub all_true : {A : Type 0} (f : A → Bool) (xs : List A) → AllByRecursion (λ x. f x ≡ true) xs → list_all f xs ≡ true
all_true f [] h = refl
all_true f (x ∷ xs) h = ap (λ b. b && list_all f xs) h.0 ∙ all_true f xs h.1

-- ---- from what is seen in an environment

module _ (env : Environment) (p : ProgParts) (t : Tells env p) (quiet : Bool) (none : quiet ≡ true → is_function env.region ≡ true → NoneInside env) where
  seen_slot : (n : ℕ) → Seen env n → is_slot p n ≡ true
  seen_slot n s = lt-ltb n (length p.scalars) (slice_get_within p.scalars n s.ty (t.scalars s.name n s.ty s.means))

  pub seen_slots : (ns : List ℕ) → AllByRecursion (Seen env) ns → list_all (is_slot p) ns ≡ true
  seen_slots ns h = all_true (is_slot p) ns (all_map (Seen env) (λ n. is_slot p n ≡ true) seen_slot ns h)

  pub term_passes : (x : Term) → TermFits env p x → TermPasses p quiet (is_function env.region) (length env.functions - 1) x
  term_passes x f = record {
    constant = f.constant;
    operands = f.operands;
    choice = f.choice;
    element = f.element;
    calls = f.calls;
    arguments = f.arguments;
    image = f.image;
    nodes = f.nodes;
    slots = seen_slots (slots_of_term x) f.slots;
    own_calls = f.own_calls;
    own_elements = λ q i. f.own_elements (none q i) i;
  }

  pub terms_pass : (xs : List Term) → AllByRecursion (TermFits env p) xs → AllByRecursion (TermPasses p quiet (is_function env.region) (length env.functions - 1)) xs
  terms_pass xs h = all_map (TermFits env p) (TermPasses p quiet (is_function env.region) (length env.functions - 1)) term_passes xs h

  pub statement_passes : (x : Statement) → StatementFits env p x → StatementPasses p quiet (is_function env.region) (length env.functions - 1) x
  statement_passes x f = record {
    terms = terms_pass (terms_in p x) f.terms;
    assignment = f.assignment;
    format = f.format;
    slots = seen_slots (slots_beside x) f.slots;
    sync = f.sync;
    stands = f.inside;
  }

  pub operand_passes : (x : Operand) → Fits env p x → OperandPasses p quiet (is_function env.region) (length env.functions - 1) x
  operand_passes x f = record { ty = f.ty; typed = f.typed; is = f.fits.is; terms = terms_pass (terms_of p x.made) f.fits.terms; lies = f.lies; constant = f.constant }
