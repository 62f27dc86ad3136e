-- All terms and statements of a program that is made of a tree pass their tests.
use Rattle.std.proofs.Common.{◌≡◌, ◌∙◌, sym, ap, refl, subst, ◌⊎◌, inl, inr, ◌++◌, ◌∷◌, [], ◌+◌, ◌-◌, ◌<◌, ◌||◌, ℕ, suc, Bool, true, false, List, Option, Some, length, arith}
use Rattle.std.specs.Prelude.{slice_get, nat_lt}
use Rattle.std.specs.List.{list_all, flat_map, enumerate_from, AllByRecursion}
use Rattle.std.proofs.lemmas.Bool.{lt-ltb}
use Rattle.xmp_map.specs.Spread.{sizes_fit}
use Rattle.xmp_prog.specs.declared.parts.Function as made_function
use Rattle.xmp_prog.specs.declared.parts.Start.{Start}
use Rattle.xmp_prog.specs.declared.parts.ProgParts.{ProgParts}
use Rattle.xmp_prog.specs.declared.statements.Stmt as made
use Rattle.xmp_prog.specs.declared.statements.Stmt.TheVariants as s
use Rattle.xmp_prog.specs.Terms.{Term}
use Rattle.xmp_prog.specs.Statements.{Statement, statements_of, terms_in, terms_of_stmt}
use Rattle.xmp_prog.specs.Tests.{image_fits, is_no_element, asks_no_node, calls_below, is_constant, assignment_fits, is_no_sync, stands_in_function}
use Rattle.xmp_prog.specs.Fits.{has_coarrays, PrintFits, statements_of_program, slots_of_function, slots_of_main, all_terms, all_statements, ExpressionsFit}
use Rattle.xmp_syntax.specs.declared.parts.Name as named
use Rattle.xmp_syntax.specs.declared.parts.TypeWords.{TypeWords}
use Rattle.xmp_syntax.specs.declared.expression.Expr.{Expr}
use Rattle.xmp_syntax.specs.declared.program.Tree.{Tree}
use Rattle.xmp_base.specs.declared.place.Place.{Place}
use Rattle.xmp_names.specs.declared.world.World.{World}
use Rattle.xmp_names.specs.Expressions.{is_function}
use Rattle.xmp_names.specs.Walk as walk
use Rattle.xmp_names.specs.Walk.{Step, Gave, Run, typed_constant}
use Rattle.xmp_walk.specs.Declarations.{type_of}
use Rattle.xmp_walk.specs.Statements.{return_of}
use Rattle.xmp_parts.specs.Parts.{Made}
use Rattle.xmp_walk.specs.Program.{parameter_of, program_of}
use Rattle.xmp_fits.proofs.Laters.{Later, unbroken_before}
use Rattle.xmp_fits.proofs.GoodWorlds.{Own, Good, being_read}
use Rattle.xmp_fits.proofs.GoodSteps.{onward_stays, begins_length}
use Rattle.xmp_fits.proofs.KeptRuns.{Goes, GoesOn, going, going_scalars}
use Rattle.xmp_fits.proofs.RespectedDirectives as kept
use Rattle.xmp_fits.proofs.RespectedSteps as kept_steps
use Rattle.xmp_fits.proofs.Holding.{Unbroken, Holds, each_holds}
use Rattle.xmp_fits.proofs.Endings.{ends_at}
use Rattle.xmp_fits.proofs.FitPrinciple.{Facts, Forms}
use Rattle.xmp_fits.proofs.OneWorld.{facts_of, forms_of}
use Rattle.xmp_fits.proofs.PartsExtend.{extends_before, made_extends}
use Rattle.xmp_fits.proofs.ProgramWalk.{FunctionOf, MainOf, Starts}
use Rattle.xmp_fits.proofs.ProgramFits.{Ended, program_fits}
use Rattle.xmp_fits.specs.NumbersLie.{numbers_lie, tree_lies}
use Rattle.xmp_fits.proofs.TermsFit.{all_append}
use Rattle.xmp_fits.proofs.TellsTrue.{tells}
use Rattle.xmp_fits.proofs.RunsFit.{constant_start}
use Rattle.xmp_fits.proofs.TermTests.{TermPasses, StatementPasses, is_slot, all_map, all_true, terms_pass}
use Rattle.xmp_fits.proofs.ClausesHold.{EachFrom, StmtPasses, FunctionPasses, StartPasses, ProgramPasses}
use Rattle.xmp_fits.proofs.ClausesHold as clauses
use Rattle.xmp_fits.proofs.StmtsPass.{block_passes}
use Rattle.xmp_fits.proofs.TermCases.{Reached, none_inside, StmtGood, SlotsGood, slots_stay, stmt_stays}
use Rattle.xmp_fits.proofs.NameSlots.{fact_at}
use Rattle.xmp_fits.proofs.PlainCases.{return_good}
use Rattle.xmp_fits.proofs.HeadCases.{declared_slot, slot_good}
use Rattle.xmp_fits.proofs.TermsHold.{term_tests, term_cases}
use Rattle.xmp_fits.proofs.GmoveCases.{gmove_holds}

-- ---- outside a function nothing more is asked

weaker_term : (p : ProgParts) (quiet inside : Bool) (number : ℕ) (t : Term) → TermPasses p quiet inside number t → TermPasses p quiet false 0 t
weaker_term p quiet inside number t f = record {
  constant = f.constant;
  operands = f.operands;
  choice = f.choice;
  element = f.element;
  calls = f.calls;
  arguments = f.arguments;
  image = f.image;
  nodes = f.nodes;
  slots = f.slots;
  own_calls = λ i. absurd (cc);
  own_elements = λ q i. absurd (cc);
}

weaker_statement : (p : ProgParts) (quiet : Bool) (number : ℕ) (x : Statement) → StatementPasses p quiet false number x → StatementPasses p quiet false 0 x
weaker_statement p quiet number x f = record {
  terms = all_map (TermPasses p quiet false number) (TermPasses p quiet false 0) (weaker_term p quiet false number) (terms_in p x) f.terms;
  assignment = f.assignment;
  format = f.format;
  slots = f.slots;
  sync = f.sync;
  stands = f.stands;
}

-- ---- initialisers at file scope

StartGood : World → Start → Type 0
StartGood v x = (p : ProgParts) → Reached p v → StartPasses p true x

reached_before : (p : ProgParts) (w v : World) → Later w v → Reached p v → Reached p w
reached_before p w v l r = record { extends = extends_before p w v l r.extends; extents = r.extents }

start_read : (own : Own) (slot : ℕ) (x : Expr) → numbers_lie x ≡ true → (w : World) → Good own w → slot < length w.scalars → Unbroken (λ v t. StartGood v (record { slot = slot; value = t.made })) (typed_constant x w)
unfolding StartGood
start_read own slot x n w g h = λ none p r.
    let l = (kept_steps.typed_constant going x).kept.at w in
    let y = tells own w p g (reached_before p w _ l.onward.later r).extends in
    let f = constant_start p w y x n none in record {
      slot = lt-ltb slot (length p.scalars) (begins_length w.scalars p.scalars slot (reached_before p w _ l.onward.later r).extends.scalars h);
      terms = all_map _ (TermPasses p true false 0) (weaker_term p true (is_function w.names.region) (length w.names.functions - 1)) _ (terms_pass w.names p y true (λ q i. none_inside own w g (unbroken_before w _ l.onward.later none) i) _ f.0);
      constant = f.1;
    }

starts : Starts StartGood
unfolding StartGood
starts = record { stays = λ w v x l h p r. h p (reached_before p w v l r); typed = start_read }

-- ---- bodies

abbrev facts : Own → Facts
facts own = facts_of term_tests

abbrev Whole : Own → World → World → List made.Stmt → Type 0
Whole own w v all = AllByRecursion (StmtGood v) all

forms : (own : Own) → Forms own (facts own)
forms own = forms_of own term_tests (term_cases own (λ line target source n. gmove_holds own line target source n))

one_more : (v : World) (done : List made.Stmt) (t : Step made.Stmt) → GoesOn v t → Unbroken StmtGood t → AllByRecursion (StmtGood v) done → Unbroken (λ u one. AllByRecursion (StmtGood u) (done ++ one ∷ [])) t
one_more v done (Gave x u) g h all = λ e. all_append (StmtGood u) done (x ∷ []) (all_map (StmtGood v) (StmtGood u) (λ y. stmt_stays v u y (onward_stays g.onward)) done all) (h e, tt)

last_one : (own : Own) (at : Place) (x : Expr) → numbers_lie x ≡ true → (w v : World) (done : List made.Stmt) → Goes w v → Good own v → AllByRecursion (StmtGood v) done → Unbroken (λ u one. AllByRecursion (StmtGood u) (done ++ one ∷ [])) (return_of true at x v)
last_one own at x n w v done o g all = one_more v done (return_of true at x v) ((kept.return_kept going true at x).at v) ((return_good own true at x n).at v g) all

-- A body at its end, seen from the end of the program.
body_passes : (p : ProgParts) (v : World) (all : List made.Stmt) → Reached p v → AllByRecursion (StmtGood v) all → StmtPasses p true (is_function v.names.region) (length v.names.functions - 1) (s.Block all)
body_passes p v all r h =
    block_passes p true (is_function v.names.region) (length v.names.functions - 1) all (all_map (StmtGood v) (StmtPasses p true (is_function v.names.region) (length v.names.functions - 1)) (λ x k. k p r) all h)

-- the slots of parameters
parameters_good : (own : Own) (ps : List (TypeWords × named.Name)) → Holds own (λ w v all. AllByRecursion (λ n. SlotsGood v (n ∷ [])) all) (walk.each parameter_of ps)
parameters_good own ps = each_holds own (λ v n. SlotsGood v (n ∷ [])) (λ w v n g h. slots_stay w v (n ∷ []) (onward_stays g.onward) h) (λ x. kept_steps.declare_scalar going going_scalars x.1 (type_of x.0))
    (λ x. record { at = λ w g e. slot_good _ (length w.scalars) (type_of x.0) (declared_slot x.1 (type_of x.0) w) }) ps

slots_pass : (p : ProgParts) (v : World) (ns : List ℕ) → Reached p v → AllByRecursion (λ n. SlotsGood v (n ∷ [])) ns → list_all (is_slot p) ns ≡ true
slots_pass p v ns r h = all_true (is_slot p) ns (all_map (λ n. SlotsGood v (n ∷ [])) (λ n. is_slot p n ≡ true) (λ n k. (k p r).0) ns h)

module _ (p : ProgParts) (final : World) (none : final.broken ≡ []) (r : Reached p final) where
  -- where a function's body ends
  function_passes : (k : ℕ) (g : made_function.Function) → FunctionOf facts final k g → FunctionPasses p true k g
  function_passes k g f =
      let b = f.body in
      let n1 : b.end.broken ≡ [] = unbroken_before b.end final b.later none in
      let n0 : b.start.broken ≡ [] = unbroken_before b.start b.end b.goes.onward.later n1 in
      let r1 : Reached p b.end = reached_before p b.end final b.later r in
      let r0 : Reached p b.start = reached_before p b.start b.end b.goes.onward.later r1 in
      let here : is_function b.end.names.region ≡ true = ap is_function (b.goes.onward.region ∙ (b.begins.onward.region ∙ b.region)) in
      let signatures : length b.end.names.functions ≡ length b.head.names.functions = ap length (b.goes.onward.signatures ∙ b.begins.onward.signatures) in
      let count : length b.head.names.functions ≡ length b.head.functions + being_read b.head.names.region = b.good.numbers in
      let one : being_read b.head.names.region ≡ 1 = ap being_read b.region in
      let place : length b.head.functions ≡ k = f.number in
      let number : length b.end.names.functions - 1 ≡ k = omega (arith, signatures, count, one, place) in
      let whole : StmtPasses p true (is_function b.end.names.region) (length b.end.names.functions - 1) (s.Block f.statements) = body_passes p b.end f.statements r1 b.fits in record {
        parameters = slots_pass p b.start g.parameters r0 (fact_at f.own (λ w v all. AllByRecursion (λ n. SlotsGood v (n ∷ [])) all) (walk.each parameter_of b.parameters) b.head b.start g.parameters (parameters_good f.own b.parameters) b.good b.declared n0);
        body = subst (λ x. StmtPasses p true true k x) (sym f.is) (subst (λ n. StmtPasses p true true n (s.Block f.statements)) number (subst (λ i. StmtPasses p true i (length b.end.names.functions - 1) (s.Block f.statements)) here whole));
      }

  main_passes : (whole : made.Stmt) → MainOf Whole final whole ⊎ (whole ≡ s.Block []) → StmtPasses p true false 0 whole
  main_passes whole (inl m) =
      let b = m.body in
      let r1 : Reached p b.end = reached_before p b.end final b.later r in
      let here : is_function b.end.names.region ≡ false = ap is_function (b.goes.onward.region ∙ (b.begins.onward.region ∙ b.region)) in
      let all : StmtPasses p true false (length b.end.names.functions - 1) (s.Block m.statements) = subst (λ i. StmtPasses p true i (length b.end.names.functions - 1) (s.Block m.statements)) here (body_passes p b.end m.statements r1 b.fits) in
      subst (λ x. StmtPasses p true false 0 x) (sym m.is) (all_map (StatementPasses p true false (length b.end.names.functions - 1)) (StatementPasses p true false 0) (weaker_statement p true (length b.end.names.functions - 1)) (statements_of (s.Block m.statements)) all)
  main_passes whole (inr e) = subst (λ x. StmtPasses p true false 0 x) (sym e) (block_passes p true false 0 [] tt)

each_from : {A : Type 0} (P : ℕ → A → Type 0) (i : ℕ) (xs : List A) → ((k : ℕ) (x : A) → slice_get xs k ≡ Some x → P (i + k) x) → EachFrom P i xs
each_from P i [] h = tt
each_from P i (x ∷ xs) h =
    let j : i + 0 ≡ i = omega arith in
    (subst (λ n. P n x) j (h 0 x refl), each_from P (i + 1) xs (λ k y e. let j : i + suc k ≡ i + 1 + k = omega arith in subst (λ n. P n y) j (h (suc k) y e)))

-- ---- the program

-- The walk over a tree whose numbers lie in their types ends in a world in which no rule breaks, and the parts are made of it.
pub program_passes : (t : Tree) (given : Option ℕ) (whole : made.Stmt) (v : World) (p : ProgParts) → tree_lies t ≡ true → program_of t given ≡ Gave whole v → v.broken ≡ [] → Made whole v p →
    list_all (λ a. sizes_fit a.extents) p.arrays ≡ true → ProgramPasses p true
unfolding StartGood
program_passes t given whole v p n e none m extents =
    let ended = ends_at (λ whole v. v.broken ≡ [] → Ended facts Whole StartGood v whole) (program_of t given) whole v (program_fits facts forms Whole (λ own w v all h. h) last_one StartGood starts t given n) e none in
    let r : Reached p v = record { extends = made_extends whole v p m; extents = extents } in record {
      starts = subst (λ xs. AllByRecursion (StartPasses p true) xs) (sym m.start) (all_map (StartGood v) (StartPasses p true) (λ x h. h p r) v.start ended.starts);
      functions = each_from (FunctionPasses p true) 0 p.functions (λ k g q. let j : k ≡ 0 + k = omega arith in subst (λ n. FunctionPasses p true n g) j (function_passes p v none r k g (ended.functions k g (ap (λ l. slice_get l k) (sym m.functions) ∙ q))));
      body = subst (λ x. StmtPasses p true false 0 x) (sym m.body) (main_passes p v none r whole ended.main);
    }

-- All clauses of 'the parts fit' that speak of single terms and plain statements.
pub record TermsRight (p : ProgParts) : Type 0 where
  pub expressions : ExpressionsFit p
  -- of KindsFit
  pub node_numbers : (has_coarrays p.kind || all_terms p asks_no_node) ≡ true
  pub syncs : (has_coarrays p.kind || all_statements p is_no_sync) ≡ true
  pub images : all_terms p (image_fits p) ≡ true
  -- of StatementsFit
  pub assignments : all_statements p (assignment_fits p) ≡ true
  pub formats : AllByRecursion (PrintFits p) (statements_of_program p)
  -- of ScalarsFit
  pub numbers : list_all (λ n. nat_lt n (length p.scalars)) (flat_map (slots_of_function p) p.functions ++ slots_of_main p) ≡ true
  pub start_values : list_all (λ s. is_constant s.value) p.start ≡ true
  -- of FunctionsFit
  pub earlier : list_all (λ f. list_all (calls_below f.0) (terms_of_stmt p f.1.body)) (enumerate_from 0 p.functions) ≡ true
  pub no_arrays : list_all (λ f. list_all is_no_element (terms_of_stmt p f.body)) p.functions ≡ true
  pub no_directives : list_all (λ f. list_all stands_in_function (statements_of f.body)) p.functions ≡ true

pub terms_right : (t : Tree) (given : Option ℕ) (whole : made.Stmt) (v : World) (p : ProgParts) → tree_lies t ≡ true → program_of t given ≡ Gave whole v → v.broken ≡ [] → Made whole v p →
    list_all (λ a. sizes_fit a.extents) p.arrays ≡ true → TermsRight p
terms_right t given whole v p n e none m extents =
    let h = program_passes t given whole v p n e none m extents in record {
      expressions = clauses.expressions_fit p true h;
      node_numbers = clauses.node_numbers p true h;
      syncs = clauses.syncs p true h;
      images = clauses.images p true h;
      assignments = clauses.assignments p true h;
      formats = clauses.formats p true h;
      numbers = clauses.numbers p true h;
      start_values = clauses.start_values p true h;
      earlier = clauses.earlier p true h;
      no_arrays = clauses.no_arrays p true h refl;
      no_directives = clauses.no_directives p true h;
    }
