-- What a node reads where nothing is wrong: an expression at a node follows the serial one.
use Rattle.std.proofs.Common.{◌≡◌, ◌++◌, ◌&&◌, ◌||◌, ◌⊎◌, inl, inr, not, ℕ, ℤ, Bool, true, false, true≢false, List, [], ◌∷◌, length, map, Option, Some, None, refl, sym, subst, ap, ◌∙◌, if◌then◌else◌, eqb-true}
use Rattle.std.specs.Prelude.{slice_get, is_none, is_some}
use Rattle.std.specs.List.{AllByRecursion, list_all, flat_map}
use Rattle.std.specs.Option.{option_map}
use Rattle.std.proofs.lemmas.List.{length-map}
use Rattle.std.proofs.lemmas.List.Folds.{list_all-append}
use Rattle.xmp_base.specs.declared.place.Place.{Place}
use Rattle.xmp_num.specs.declared.types.Ty.{Ty}
use Rattle.xmp_map.specs.Boxes.{IsInside}
use Rattle.xmp_map.proofs.Counted.{and_left, and_right}
use Rattle.xmp_paths.specs.NodeSets.{has}
use Rattle.xmp_paths.specs.Plans.{skip, emit}
use Rattle.xmp_paths.specs.Safe.{left}
use Rattle.xmp_paths.specs.declared.event.Event.{Event}
use Rattle.xmp_paths.specs.declared.event.Event.TheVariants.{Read, Wrong}
use Rattle.xmp_prog.specs.declared.parts.ProgParts.{ProgParts}
use Rattle.xmp_prog.specs.declared.parts.Array.{Array}
use Rattle.xmp_prog.specs.declared.parts.Home.{Home}
use Rattle.xmp_prog.specs.declared.parts.Home.TheVariants as home
use Rattle.xmp_prog.specs.declared.expressions.Expr.{Expr}
use Rattle.xmp_prog.specs.declared.expressions.Access.{Access}
use Rattle.xmp_prog.specs.declared.expressions.Expr.TheOpen.{Expr-F, Access-F}
use Rattle.xmp_prog.specs.declared.statements.LoopDirective.{LoopDirective}
use Rattle.xmp_prog.specs.declared.statements.Plain.{Plain}
use Rattle.xmp_prog.specs.declared.statements.Plain.TheVariants as plain
use Rattle.xmp_prog.specs.declared.statements.Stmt.TheVariants as stmt
use Rattle.xmp_prog.specs.Terms.{Term, Of, Element, image_terms, terms_of, terms_of_access, typed}
use Rattle.xmp_prog.specs.Tests.{element_fits, image_fits, subscripts_fit, is_image}
use Rattle.xmp_prog.specs.Tests as tests
use Rattle.xmp_prog.specs.Statements.{Walked, WalkedTask, walk_step, walk_task, terms_in, terms_of_plain}
use Rattle.xmp_prog.proofs.Rolls.{at_plain}
use Rattle.xmp_loops.specs.Objects.{scalar_object, array_object}
use Rattle.xmp_loops.specs.declared.role.Role.{Role}
use Rattle.xmp_loops.specs.declared.role.Role.TheVariants.{Shared, Index, Reduced, Own}
use Rattle.xmp_flow.specs.Setting.{wrong_where, read_scalar, reads_scalar}
use Rattle.xmp_flow.specs.Elements.{spread_events, read_at_home, element_read}
use Rattle.xmp_flow.specs.Reads.{reads_of, subscript_reads}
use Rattle.xmp_meaning.specs.declared.ends.Flow.{Flow}
use Rattle.xmp_meaning.specs.declared.ends.Flow.TheVariants.{Returned}
use Rattle.xmp_meaning.specs.Runs.{State, Step, Gave, Ended, Run, pure, and_then}
use Rattle.xmp_meaning.specs.Declarations.{extents, home_of, home_of_array, extents_of_array}
use Rattle.xmp_meaning.specs.Handlers.{TaskRun, erased}
use Rattle.xmp_meaning.specs.Expressions.{expr_of}
use Rattle.xmp_meaning.specs.Statements.{plain_of, stmt_step, task_step}
use Rattle.xmp_meaning.specs.Exchanges.{Notes}
use Rattle.xmp_meaning.specs.Traffic.{node_context}
use Rattle.xmp_meaning_laws.specs.Laws.{calls_pass, is_without, is_no_while, has_no_while, TakesNoStep}
use Rattle.xmp_meaning_laws.specs.Agreement.{Spot, seen, seen_access, SpotIn, StepsMeet, MayBe, IsKnown}
use Rattle.xmp_meaning_laws.proofs.CountedLoops.{both_true}
use Rattle.xmp_meaning_laws.proofs.Stays.{steps_stay}
use Rattle.xmp_nodes.proofs.Agrees.{Stand, Agrees}
use Rattle.xmp_nodes.proofs.Standing.{TermStands, IsSetting}
use Rattle.xmp_nodes.proofs.Leaves.{serial_cx}
use Rattle.xmp_nodes.proofs.MetEvents.{EachEvent, EachOf, IsFine}
use Rattle.xmp_nodes.proofs.ReadEvents.{expr_seen, access_seen}
use Rattle.xmp_nodes.proofs.Readers.{Same, expr_twin}
use Rattle.xmp_nodes.proofs.CalledFunctions.{loops_or_not}
use Rattle.xmp_nodes.proofs.CellNumbers.{not_image, not_coarray}
use Rattle.xmp_nodes.proofs.ElementCells.{known_in, maybe_inside, AllOwned, HeldIs, spread_cells}
use Rattle.xmp_nodes.proofs.NodeExpressions.{term_test, terms_test, access_terms, spot_is, agreed, agreed_by, all_there, template_of, CanRead, MayGet, Beside, readers, begins}

long_subscripts : (p : ProgParts) (o : Option Array) (types : List Ty) → subscripts_fit o types ≡ true → length types ≡ length (extents_of_array o)
long_subscripts p None types e = absurd (true≢false (sym e))
long_subscripts p (Some r) types e = eqb-true (length types) (length r.extents) e

module _ (a : Stand) (is : IsSetting a) (there : has a.set.nodes a.node ≡ true) (input : List ℕ) (stale : ℕ → Bool) (s : State Notes) (n : State (Unit {0})) (g : Agrees a stale s n) where
  abbrev Fine : Event → Type 0
  Fine = IsFine a.node stale

  -- ---- what the events of a read say

  pub of_scalar : (slot : ℕ) (at : Place) → EachEvent Fine (reads_scalar a.set slot at) → agreed a stale slot ≡ true
  of_scalar slot at h = of_role (a.set.roles slot) h
    where
      of_role : (r : Role) → EachEvent Fine (read_scalar a.set slot at r) → agreed_by r (stale (scalar_object slot)) ≡ true
      of_role Shared h = ap not (h (Read (scalar_object slot) a.set.nodes 1 at) refl there)
      of_role Index h = refl
      of_role (Reduced op) h = absurd (h (Wrong 5 at) refl)
      of_role Own h = ap not (h (Read (scalar_object slot) a.set.nodes 5 at) refl there)

  no_image : (e : Access-F Ty Ty) → term_test a.program (Element e) ≡ true → is_none e.image ≡ true
  no_image e h = either (is_none e.image) (tests.is_coarray (slice_get a.program.arrays e.array)) (and_right (element_fits a.program (Element e)) (image_fits a.program (Element e)) h) (not_coarray a.program is.global e.array)
    where
      either : (x y : Bool) → (x || y) ≡ true → y ≡ false → x ≡ true
      either true y h e = refl
      either false y h e = absurd (true≢false (sym h ∙ e))

  pub of_call : (function : ℕ) (at : Place) → EachEvent Fine (wrong_where (a.set.inside && a.set.loops function) 9 at) → not (a.set.inside && a.set.loops function) ≡ true
  of_call function at h = of_test (a.set.inside && a.set.loops function) h
    where
      of_test : (b : Bool) → EachEvent Fine (wrong_where b 9 at) → not b ≡ true
      of_test true h = absurd (h (Wrong 9 at) refl)
      of_test false h = refl

  -- an array without align isn't written in a loop directive
  pub copies_unwritten : (array : ℕ) → home_of a.program array ≡ home.Copy → a.set.written array ≡ false
  copies_unwritten array e = of_over a.set.over refl
    where
      of_over : (o : Option LoopDirective) → a.set.over ≡ o → a.set.written array ≡ false
      of_over None i = is.unwritten i array
      of_over (Some d) i = (is.directive d i).copies array e

  module _ (array : ℕ) (es : List Expr) (at : Place) (len : length es ≡ length (extents a.program array)) where
    abbrev values : List (Option ℤ)
    values = map (λ e. e.value) (map (seen (known_in a s)) es)

    values_long : length values ≡ length (extents a.program array)
    values_long = length-map (map (seen (known_in a s)) es) (λ e. e.value) ∙ length-map es (seen (known_in a s)) ∙ len

    inside : (xs : List ℕ) → MayBe values (extents a.program array) xs → IsInside xs (extents a.program array)
    inside xs may = maybe_inside values (extents a.program array) xs may values_long

    of_home : (h : Home) → home_of a.program array ≡ h → EachEvent Fine (read_at_home a.set array es at (Some h))
        → (xs : List ℕ) → MayBe values (extents a.program array) xs → CanRead a is there input stale array h xs
    of_home home.Copy e h xs may = of_written (a.set.written array) (copies_unwritten array e) h
      where
        of_written : (w : Bool) → w ≡ false → EachEvent Fine (if w then skip else emit (Read (array_object array) a.set.nodes 1 at)) → stale (array_object array) ≡ false
        of_written true i h = absurd (true≢false i)
        of_written false i h = h (Read (array_object array) a.set.nodes 1 at) refl there
    of_home (home.Spread t m) e h xs may = of_moving a.set.moving is.still h
      where
        of_cells : AllOwned a is s g.whole.values stale array t m es ⊎ HeldIs a is s g.whole.values stale array t m es → CanRead a is there input stale array (home.Spread t m) xs
        of_cells (inl o) = inl (o xs may)
        of_cells (inr k) = inr (k.held xs may, k.current, k.unwritten)

        of_moving : (b : Bool) → b ≡ false → EachEvent Fine (if b then skip else spread_events a.set array t m es at a.set.over) → CanRead a is there input stale array (home.Spread t m) xs
        of_moving true i h = absurd (true≢false i)
        of_moving false i h = of_cells (spread_cells a is s g.whole.values stale (all_there a is there input) g.point array t m es at e (template_of a is there input array t m e) len h)
    of_home home.Image e h xs may = absurd (true≢false (sym (ap is_image e) ∙ not_image a.program is.global array))

    -- the array is one of the program
    of_array : (o : Option Array) → slice_get a.program.arrays array ≡ o → subscripts_fit o (map (λ e. e.ty) (map (typed a.program) es)) ≡ true
        → EachEvent Fine (read_at_home a.set array es at (option_map (λ r. r.home) o)) → (xs : List ℕ) → MayBe values (extents a.program array) xs
        → CanRead a is there input stale array (home_of a.program array) xs
    of_array None e fits h xs may = absurd (true≢false (sym fits))
    of_array (Some r) e fits h xs may =
        subst (λ z. CanRead a is there input stale array z xs) (sym (ap home_of_array e)) (of_home r.home (ap home_of_array e) h xs may)

  -- the tests of an element's own term
  abbrev types_of : Access → Access-F Ty Ty
  types_of e = record { array = e.array; subscripts = map (λ x. x.ty) (map (typed a.program) e.subscripts); image = option_map (λ x. x.ty) (option_map (typed a.program) e.image); at = e.at }

  abbrev inner_terms : Access → List Term
  inner_terms e = flat_map (λ x. x.terms) (map (typed a.program) e.subscripts) ++ image_terms (option_map (typed a.program) e.image)

  element_test : (e : Access) → list_all (term_test a.program) (terms_of_access a.program e) ≡ true
      → (element_fits a.program (Element (types_of e)) ≡ true) × (is_none (types_of e).image ≡ true)
  element_test e h =
      let first : term_test a.program (Element (types_of e)) ≡ true =
      and_left (term_test a.program (Element (types_of e))) (list_all (term_test a.program) (inner_terms e))
      (subst (λ ts. list_all (term_test a.program) ts ≡ true) (access_terms a.program e.array e.subscripts e.image e.at) h) in
      (and_left (element_fits a.program (Element (types_of e))) (image_fits a.program (Element (types_of e))) first, no_image (types_of e) first)

  pub long_of : (e : Access) → list_all (term_test a.program) (terms_of_access a.program e) ≡ true → length e.subscripts ≡ length (extents a.program e.array)
  long_of e h =
      sym (length-map (map (typed a.program) e.subscripts) (λ x. x.ty) ∙ length-map e.subscripts (typed a.program))
      ∙ long_subscripts a.program (slice_get a.program.arrays e.array) (map (λ x. x.ty) (map (typed a.program) e.subscripts)) (element_test e h).0

  pub some_of : (e : Access) → list_all (term_test a.program) (terms_of_access a.program e) ≡ true → is_some (slice_get a.program.arrays e.array) ≡ true
  some_of e h = of_array_there (slice_get a.program.arrays e.array) (element_test e h).0
    where
      of_array_there : (o : Option Array) → subscripts_fit o (types_of e).subscripts ≡ true → is_some o ≡ true
      of_array_there None h = h
      of_array_there (Some r) h = refl

  pub own_of : (e : Access) → list_all (term_test a.program) (terms_of_access a.program e) ≡ true → is_none e.image ≡ true
  own_of e h = of_image e.image (element_test e h).1
    where
      of_image : (o : Option Expr) → is_none (option_map (λ x. x.ty) (option_map (typed a.program) o)) ≡ true → is_none o ≡ true
      of_image None h = refl
      of_image (Some x) h = h

  pub of_element : (e : Access) → list_all (term_test a.program) (terms_of_access a.program e) ≡ true → EachEvent Fine (element_read a.set e.array e.subscripts e.at)
      → SpotIn a.program 0 (MayGet a is there input stale) (seen_access (known_in a s) e).spot
  of_element e h events =
      subst (SpotIn a.program 0 (MayGet a is there input stale)) (sym (spot_is (known_in a s) e))
      (λ xs image may own. (
        own (own_of e h) ∙ ap (λ b. if b then 0 else 0) (not_coarray a.program is.global e.array),
        inside e.array e.subscripts e.at (long_of e h) xs may,
        of_array e.array e.subscripts e.at (long_of e h) (slice_get a.program.arrays e.array) refl (element_test e h).0
            (subst (λ p. EachEvent Fine (read_at_home a.set e.array e.subscripts e.at (option_map (λ r. r.home) (slice_get p.arrays e.array)))) is.program events) xs may,
      ))

  -- ---- the two runs

  abbrev pub calls : ℕ → Bool
  calls function = not (a.set.inside && a.set.loops function)

  abbrev pub Good : List ℕ → List Spot → List Term → Type 0
  Good slots spots terms = (list_all (agreed a stale) slots ≡ true) × AllByRecursion (SpotIn a.program 0 (MayGet a is there input stale)) spots × (list_all (calls_pass calls) terms ≡ true)

  pub seen_good : (e : Expr) → AllByRecursion (TermStands a.program) (terms_of a.program e) → EachEvent Fine (reads_of e a.set)
      → Good (seen (known_in a s) e).slots (seen (known_in a s) e).spots (terms_of a.program e)
  seen_good e terms h =
      expr_seen a.set (known_in a s) a.program Fine (agreed a stale) (SpotIn a.program 0 (MayGet a is there input stale)) (term_test a.program) no_image calls of_scalar of_call of_element e
      (terms_test a.program (terms_of a.program e) terms) h

  pub access_good : (e : Access) → AllByRecursion (TermStands a.program) (terms_of_access a.program e) → EachOf Fine (subscript_reads e a.set)
      → Good (seen_access (known_in a s) e).slots (seen_access (known_in a s) e).spots (terms_of_access a.program e)
  access_good e terms h =
      access_seen a.set (known_in a s) a.program Fine (agreed a stale) (SpotIn a.program 0 (MayGet a is there input stale)) (term_test a.program) no_image calls of_scalar of_call of_element e
      (terms_test a.program (terms_of_access a.program e) terms) h

  pub expr_meets : (e : Expr) → AllByRecursion (TermStands a.program) (terms_of a.program e) → EachEvent Fine (reads_of e a.set)
      → StepsMeet (Beside a is there input stale s n g (agreed a stale)) (Same (readers a is there input stale s n g) (agreed a stale) (IsKnown (seen (known_in a s) e).value))
      (expr_of erased (serial_cx a.program input) e s) (expr_of erased (node_context a.program a.node input) e n)
  expr_meets e terms h =
      let v : _ = seen_good e terms h in
      expr_twin (readers a is there input stale s n g) (agreed a stale) e v.0 v.1 s n (begins a is there input stale s n g)

  -- ---- steps

  pass_more : (test : ℕ → Bool) → ((f : ℕ) → calls f ≡ true → test f ≡ true) → (ts : List Term) → list_all (calls_pass calls) ts ≡ true → list_all (calls_pass test) ts ≡ true
  pass_more test h [] e = refl
  pass_more test h (t ∷ ts) e =
      both_true (calls_pass test t) (list_all (calls_pass test) ts) (of_term t (and_left (calls_pass calls t) (list_all (calls_pass calls) ts) e)) (pass_more test h ts (and_right (calls_pass calls t) (list_all (calls_pass calls) ts) e))
    where
      of_term : (t : Term) → calls_pass calls t ≡ true → calls_pass test t ≡ true
      of_term (Of (Expr-F.Const v ty)) e = refl
      of_term (Of (Expr-F.Scalar slot at)) e = refl
      of_term (Of (Expr-F.Cell b)) e = refl
      of_term (Of (Expr-F.Binary op ty b c at)) e = refl
      of_term (Of (Expr-F.Both b c)) e = refl
      of_term (Of (Expr-F.Either b c)) e = refl
      of_term (Of (Expr-F.Choose b c d)) e = refl
      of_term (Of (Expr-F.Convert ty b)) e = refl
      of_term (Of (Expr-F.Call function arguments at)) e = h function e
      of_term (Of Expr-F.Node) e = refl
      of_term (Of Expr-F.Nodes) e = refl
      of_term (Element b) e = refl

  pub without : a.set.inside ≡ true → (f : ℕ) → calls f ≡ true → is_without a.program (length a.program.functions) f ≡ true
  without i f e = loops_or_not a.program f (subst (λ loops. loops f ≡ false) is.loops (of_tests a.set.inside (a.set.loops f) i e))
    where
      of_tests : (x y : Bool) → x ≡ true → not (x && y) ≡ true → y ≡ false
      of_tests true true i e = absurd (true≢false (sym e))
      of_tests true false i e = refl
      of_tests false y i e = absurd (true≢false (sym i))

  abbrev lone : ℕ → Bool
  lone = is_without a.program (length a.program.functions)

  -- a plain statement takes no step in a task or a loop directive, where it calls as it may
  pub plain_steps : (q : Plain) → a.set.inside ≡ true → list_all (calls_pass calls) (terms_of_plain a.program q) ≡ true
      → TakesNoStep s.steps (plain_of {X = Notes} erased (serial_cx a.program input) q s)
  plain_steps q i h =
      subst (λ (r : Run Notes Flow). TakesNoStep s.steps (r s)) (at_plain (Run Notes Flow) (TaskRun Notes) (stmt_step erased (serial_cx a.program input)) task_step q)
      (steps_stay Notes a.program 0 input (length a.program.functions) (stmt.Plain q) clear s)
    where
      clear : has_no_while a.program lone (stmt.Plain q) ≡ true
      clear =
          subst (λ ys. (list_all is_no_while ys && list_all (calls_pass lone) (flat_map (terms_in a.program) ys)) ≡ true)
          (sym (ap (λ (w : Walked). w.statements) (at_plain Walked WalkedTask walk_step walk_task q)))
          (list_all-append (calls_pass lone) (terms_of_plain a.program q) [] ∙ both_true (list_all (calls_pass lone) (terms_of_plain a.program q)) true (pass_more lone (without i) (terms_of_plain a.program q) h) refl)

  return_steps : (left : ℕ) (r : Step Notes ℤ) → TakesNoStep left (and_then r (λ v. pure (Returned v))) → TakesNoStep left r
  return_steps left (Gave v t) h = h
  return_steps left (Ended e t) h = h

  pub expr_steps : (e : Expr) → a.set.inside ≡ true → list_all (calls_pass calls) (terms_of a.program e) ≡ true
      → TakesNoStep s.steps (expr_of {X = Notes} erased (serial_cx a.program input) e s)
  expr_steps e i h = return_steps s.steps (expr_of erased (serial_cx a.program input) e s) (plain_steps (plain.Return e) i h)

-- ---- with other steps

pub agrees_stepped : (a : Stand) (stale : ℕ → Bool) (s : State Notes) (n : State (Unit {0})) (x : ℕ) → Agrees a stale s n → Agrees a stale (record s { steps = x }) (record n { steps = x })
agrees_stepped a stale s n x g = record {
  whole = record { scalars = g.whole.scalars; rows = g.whole.rows; values = record { scalars = g.whole.values.scalars; cells = g.whole.values.cells } };
  packed = record { scalars = g.packed.scalars; rows = g.packed.rows; no_coarrays = g.packed.no_coarrays };
  typed = g.typed;
  scalars = g.scalars;
  indices = g.indices;
  sums = g.sums;
  copies = g.copies;
  owned = g.owned;
  shadows = g.shadows;
  current = g.current;
  point = g.point;
  steps = refl;
  out = g.out;
  taken = g.taken;
}
