-- The clauses of 'the parts fit' that follow from the tests of single terms and statements.
use Rattle.std.proofs.Common.{◌≡◌, ◌∙◌, sym, ap, refl, ◌++◌, ◌∷◌, [], ◌+◌, ◌&&◌, ◌||◌, ℕ, Bool, true, false, List, length, map}
use Rattle.std.specs.Prelude.{⊤, nat_lt}
use Rattle.std.specs.List.{list_all, flat_map, enumerate_from, AllByRecursion}
use Rattle.xmp_prog.specs.declared.parts.Function.{Function}
use Rattle.xmp_prog.specs.declared.parts.Start.{Start}
use Rattle.xmp_prog.specs.declared.parts.ProgParts.{ProgParts}
use Rattle.xmp_prog.specs.declared.statements.Stmt.{Stmt}
use Rattle.xmp_prog.specs.Terms.{Term, terms_of, slots_of_term, slots_of_terms}
use Rattle.xmp_prog.specs.Statements.{Statement, statements_of, terms_in, terms_of_stmt, slots_in, slots_beside, slots_of_stmt}
use Rattle.xmp_prog.specs.Tests.{constant_fits, operands_fit, choice_fits, element_fits, image_fits, is_no_element, asks_no_node, calls_below, arguments_fit, is_constant, assignment_fits, is_no_sync, stands_in_function}
use Rattle.xmp_prog.specs.Fits.{has_coarrays, PrintFits, statements_of_program, terms_of_program, slots_of_function, slots_of_main, slots_of_starts, all_terms, all_statements, ExpressionsFit}
use Rattle.xmp_parts.proofs.Unbroken.{left_true, right_true}
use Rattle.xmp_fits.proofs.TermsFit.{all_append}
use Rattle.xmp_fits.proofs.TermTests.{TermPasses, StatementPasses, is_slot, all_map, all_true}

-- ---- lists

-- P holds of each item and its place, from the k-th on.
abbrev pub EachFrom : {A : Type 0} → (ℕ → A → Type 0) → ℕ → List A → Type 0
EachFrom P k [] = ⊤
EachFrom P k (x ∷ xs) = P k x × EachFrom P (k + 1) xs

each_any : {A : Type 0} (P : ℕ → A → Type 0) (Q : A → Type 0) → ((k : ℕ) (x : A) → P k x → Q x) → (k : ℕ) (xs : List A) → EachFrom P k xs → AllByRecursion Q xs
each_any P Q f k [] h = tt
each_any P Q f k (x ∷ xs) h = (f k x h.0, each_any P Q f (k + 1) xs h.1)

each_placed : {A : Type 0} (P : ℕ → A → Type 0) (test : ℕ × A → Bool) → ((k : ℕ) (x : A) → P k x → test (k, x) ≡ true) → (k : ℕ) (xs : List A) → EachFrom P k xs → list_all test (enumerate_from k xs) ≡ true
each_placed P test f k [] h = refl
each_placed P test f k (x ∷ xs) h = ap (λ b. b && list_all test (enumerate_from (k + 1) xs)) (f k x h.0) ∙ each_placed P test f (k + 1) xs h.1

pub all_flat : {A B : Type 0} (P : B → Type 0) (f : A → List B) (xs : List A) → AllByRecursion (λ x. AllByRecursion P (f x)) xs → AllByRecursion P (flat_map f xs)
all_flat P f [] h = tt
all_flat P f (x ∷ xs) h = all_append P (f x) (flat_map f xs) h.0 (all_flat P f xs h.1)

-- the items of a list that a test holds of
pub all_of_test : {A : Type 0} (f : A → Bool) (xs : List A) → list_all f xs ≡ true → AllByRecursion (λ x. f x ≡ true) xs
all_of_test f [] h = tt
all_of_test f (x ∷ xs) h = (left_true (f x) (list_all f xs) h, all_of_test f xs (right_true (f x) (list_all f xs) h))

-- ---- the program

-- A statement, with what it is in: main, or a function by its number.
abbrev pub StmtPasses : ProgParts → Bool → Bool → ℕ → Stmt → Type 0
StmtPasses p quiet inside number x = AllByRecursion (StatementPasses p quiet inside number) (statements_of x)

pub record FunctionPasses (p : ProgParts) (quiet : Bool) (number : ℕ) (f : Function) : Type 0 where
  pub parameters : list_all (is_slot p) f.parameters ≡ true
  pub body : StmtPasses p quiet true number f.body

pub record StartPasses (p : ProgParts) (quiet : Bool) (s : Start) : Type 0 where
  pub slot : is_slot p s.slot ≡ true
  pub terms : AllByRecursion (TermPasses p quiet false 0) (terms_of p s.value)
  pub constant : is_constant s.value ≡ true

pub record ProgramPasses (p : ProgParts) (quiet : Bool) : Type 0 where
  pub starts : AllByRecursion (StartPasses p quiet) p.start
  pub functions : EachFrom (FunctionPasses p quiet) 0 p.functions
  pub body : StmtPasses p quiet false 0 p.body

module _ (p : ProgParts) (quiet : Bool) (h : ProgramPasses p quiet) where
  terms_in_all : (inside : Bool) (number : ℕ) (x : Stmt) → StmtPasses p quiet inside number x → AllByRecursion (TermPasses p quiet inside number) (terms_of_stmt p x)
  terms_in_all inside number x f =
      all_flat (TermPasses p quiet inside number) (terms_in p) (statements_of x)
      (all_map (StatementPasses p quiet inside number) (λ s. AllByRecursion (TermPasses p quiet inside number) (terms_in p s)) (λ s g. g.terms) (statements_of x) f)

  -- ---- a test that holds of each term that passes

  module _ (test : Term → Bool) (holds : (inside : Bool) (number : ℕ) (t : Term) → TermPasses p quiet inside number t → test t ≡ true) where
    abbrev Holds : Term → Type 0
    Holds t = test t ≡ true

    of_stmt : (inside : Bool) (number : ℕ) (x : Stmt) → StmtPasses p quiet inside number x → AllByRecursion Holds (terms_of_stmt p x)
    of_stmt inside number x f = all_map (TermPasses p quiet inside number) Holds (holds inside number) (terms_of_stmt p x) (terms_in_all inside number x f)

    pub terms_hold : all_terms p test ≡ true
    terms_hold =
        let starts = flat_map (λ s. terms_of p s.value) p.start in
        let functions = flat_map (λ f. terms_of_stmt p f.body) p.functions in
        all_true test (terms_of_program p)
        (all_append Holds starts (functions ++ terms_of_stmt p p.body)
        (all_flat Holds (λ s. terms_of p s.value) p.start (all_map (StartPasses p quiet) (λ s. AllByRecursion Holds (terms_of p s.value)) (λ s f. all_map (TermPasses p quiet false 0) Holds (holds false 0) (terms_of p s.value) f.terms) p.start h.starts))
        (all_append Holds functions (terms_of_stmt p p.body)
        (all_flat Holds (λ f. terms_of_stmt p f.body) p.functions (each_any (FunctionPasses p quiet) (λ f. AllByRecursion Holds (terms_of_stmt p f.body)) (λ k f g. of_stmt true k f.body g.body) 0 p.functions h.functions))
        (of_stmt false 0 p.body h.body)))

  -- ---- and one that holds of each statement

  module _ (P : Statement → Type 0) (holds : (inside : Bool) (number : ℕ) (x : Statement) → StatementPasses p quiet inside number x → P x) where
    pub statements_hold : AllByRecursion P (statements_of_program p)
    statements_hold =
        let functions = flat_map (λ f. statements_of f.body) p.functions in
        all_append P functions (statements_of p.body)
        (all_flat P (λ f. statements_of f.body) p.functions (each_any (FunctionPasses p quiet) (λ f. AllByRecursion P (statements_of f.body)) (λ k f g. all_map (StatementPasses p quiet true k) P (holds true k) (statements_of f.body) g.body) 0 p.functions h.functions))
        (all_map (StatementPasses p quiet false 0) P (holds false 0) (statements_of p.body) h.body)

  -- ---- expressions

  pub expressions_fit : ExpressionsFit p
  expressions_fit = record {
    constants = terms_hold constant_fits (λ i k t f. f.constant);
    operands = terms_hold operands_fit (λ i k t f. f.operands);
    choices = terms_hold choice_fits (λ i k t f. f.choice);
    elements = terms_hold (element_fits p) (λ i k t f. f.element);
    calls = terms_hold (calls_below (length p.functions)) (λ i k t f. f.calls);
    arguments = terms_hold (arguments_fit p) (λ i k t f. f.arguments);
  }

  -- ---- programs without coarrays

  or_held : (b : Bool) (x : Bool) → (b ≡ false → x ≡ true) → (b || x) ≡ true
  or_held true x f = refl
  or_held false x f = f refl

  pub node_numbers : (has_coarrays p.kind || all_terms p asks_no_node) ≡ true
  node_numbers = or_held (has_coarrays p.kind) (all_terms p asks_no_node) (λ e. terms_hold asks_no_node (λ i k t f. ap (λ b. b || asks_no_node t) (sym e) ∙ f.nodes))

  pub syncs : (has_coarrays p.kind || all_statements p is_no_sync) ≡ true
  syncs = or_held (has_coarrays p.kind) (all_statements p is_no_sync) (λ e.
      all_true is_no_sync (statements_of_program p) (statements_hold (λ x. is_no_sync x ≡ true) (λ i k x f. ap (λ b. b || is_no_sync x) (sym e) ∙ f.sync)))

  pub images : all_terms p (image_fits p) ≡ true
  images = terms_hold (image_fits p) (λ i k t f. f.image)

  -- ---- statements

  pub assignments : all_statements p (assignment_fits p) ≡ true
  assignments = all_true (assignment_fits p) (statements_of_program p) (statements_hold (λ x. assignment_fits p x ≡ true) (λ i k x f. f.assignment))

  pub formats : AllByRecursion (PrintFits p) (statements_of_program p)
  formats = statements_hold (PrintFits p) (λ i k x f. f.format)

  -- ---- scalars

  abbrev Slots : List ℕ → Type 0
  Slots ns = AllByRecursion (λ n. is_slot p n ≡ true) ns

  slots_of_all : (ts : List Term) (inside : Bool) (number : ℕ) → AllByRecursion (TermPasses p quiet inside number) ts → Slots (slots_of_terms ts)
  slots_of_all ts inside number f = all_flat (λ n. is_slot p n ≡ true) slots_of_term ts (all_map (TermPasses p quiet inside number) (λ t. Slots (slots_of_term t)) (λ t g. all_of_test (is_slot p) (slots_of_term t) g.slots) ts f)

  slots_here : (inside : Bool) (number : ℕ) (x : Statement) → StatementPasses p quiet inside number x → Slots (slots_in p x)
  slots_here inside number x f = all_append (λ n. is_slot p n ≡ true) (slots_beside x) (slots_of_terms (terms_in p x)) (all_of_test (is_slot p) (slots_beside x) f.slots) (slots_of_all (terms_in p x) inside number f.terms)

  slots_in_stmt : (inside : Bool) (number : ℕ) (x : Stmt) → StmtPasses p quiet inside number x → Slots (slots_of_stmt p x)
  slots_in_stmt inside number x f = all_flat (λ n. is_slot p n ≡ true) (slots_in p) (statements_of x) (all_map (StatementPasses p quiet inside number) (λ s. Slots (slots_in p s)) (slots_here inside number) (statements_of x) f)

  start_slots : (ss : List Start) → AllByRecursion (StartPasses p quiet) ss → Slots (map (λ s. s.slot) ss)
  start_slots [] f = tt
  start_slots (s ∷ ss) f = (f.0.slot, start_slots ss f.1)

  pub numbers : list_all (λ n. nat_lt n (length p.scalars)) (flat_map (slots_of_function p) p.functions ++ slots_of_main p) ≡ true
  numbers =
      let functions = flat_map (slots_of_function p) p.functions in
      all_true (is_slot p) (functions ++ slots_of_main p)
      (all_append (λ n. is_slot p n ≡ true) functions (slots_of_main p)
      (all_flat (λ n. is_slot p n ≡ true) (slots_of_function p) p.functions (each_any (FunctionPasses p quiet) (λ f. Slots (slots_of_function p f))
      (λ k f g. all_append (λ n. is_slot p n ≡ true) f.parameters (slots_of_stmt p f.body) (all_of_test (is_slot p) f.parameters g.parameters) (slots_in_stmt true k f.body g.body)) 0 p.functions h.functions))
      (all_append (λ n. is_slot p n ≡ true) (slots_of_starts p) (slots_of_stmt p p.body) (start_slots p.start h.starts) (slots_in_stmt false 0 p.body h.body)))

  pub start_values : list_all (λ s. is_constant s.value) p.start ≡ true
  start_values = all_true (λ s. is_constant s.value) p.start (all_map (StartPasses p quiet) (λ s. is_constant s.value ≡ true) (λ s f. f.constant) p.start h.starts)

  -- ---- functions

  pub earlier : list_all (λ f. list_all (calls_below f.0) (terms_of_stmt p f.1.body)) (enumerate_from 0 p.functions) ≡ true
  earlier = each_placed (FunctionPasses p quiet) (λ f. list_all (calls_below f.0) (terms_of_stmt p f.1.body))
      (λ k f g. all_true (calls_below k) (terms_of_stmt p f.body) (all_map (TermPasses p quiet true k) (λ t. calls_below k t ≡ true) (λ t q. q.own_calls refl) (terms_of_stmt p f.body) (terms_in_all true k f.body g.body))) 0 p.functions h.functions

  pub no_arrays : quiet ≡ true → list_all (λ f. list_all is_no_element (terms_of_stmt p f.body)) p.functions ≡ true
  no_arrays known = all_true (λ f. list_all is_no_element (terms_of_stmt p f.body)) p.functions (each_any (FunctionPasses p quiet) (λ f. list_all is_no_element (terms_of_stmt p f.body) ≡ true)
      (λ k f g. all_true is_no_element (terms_of_stmt p f.body) (all_map (TermPasses p quiet true k) (λ t. is_no_element t ≡ true) (λ t q. q.own_elements known refl) (terms_of_stmt p f.body) (terms_in_all true k f.body g.body))) 0 p.functions h.functions)

  pub no_directives : list_all (λ f. list_all stands_in_function (statements_of f.body)) p.functions ≡ true
  no_directives = all_true (λ f. list_all stands_in_function (statements_of f.body)) p.functions (each_any (FunctionPasses p quiet) (λ f. list_all stands_in_function (statements_of f.body) ≡ true)
      (λ k f g. all_true stands_in_function (statements_of f.body) (all_map (StatementPasses p quiet true k) (λ x. stands_in_function x ≡ true) (λ x q. q.stands refl) (statements_of f.body) g.body)) 0 p.functions h.functions)
