-- A nest that a program's parts take for counted makes its turns by their count.
use Rattle.std.proofs.Common.{◌≡◌, ◌≢◌, ◌++◌, ◌==◌, ◌&&◌, ◌||◌, not, ℕ, zero, suc, ℤ, pos, ◌+ℤ◌, ◌*◌, true, true≢false, List, [], ◌∷◌, length, Some, refl, sym, subst, ap, ◌∙◌, arith, eq-eqb}
use Rattle.std.specs.Prelude.{slice_get, slice_set, unwrap_or, is_some, nat_le}
use Rattle.std.specs.List.{AllByRecursion, list_all, flat_map}
use Rattle.std.specs.Ordering.{int_eq}
use Rattle.std.proofs.lemmas.Bool.Decides.{Decides-int_eq}
use Rattle.std.proofs.lemmas.List.{length-set}
use Rattle.std.proofs.lemmas.List.Folds.{list_all-append}
use Rattle.xmp_map.proofs.Counted.{and_left, and_right}
use Rattle.xmp_num.specs.declared.types.Ty.TheVariants.{Int}
use Rattle.xmp_num.specs.Arithmetic.{wrap}
use Rattle.xmp_prog.specs.declared.statements.LoopHead.{LoopHead}
use Rattle.xmp_prog.specs.declared.statements.Stmt.{Stmt}
use Rattle.xmp_prog.specs.Numbers.{is_in, apart, same_type}
use Rattle.xmp_prog.specs.Terms.{type_of, terms_of, slots_of_terms}
use Rattle.xmp_prog.specs.Tests.{constant_fits}
use Rattle.xmp_prog.specs.Counted.{most_counted, is_int_scalar, is_bound_term, is_small_constant, is_counted, is_nest}
use Rattle.xmp_prog.specs.Statements.{writes_of, indices_of}
use Rattle.xmp_meaning.specs.declared.ends.Flow.{Flow}
use Rattle.xmp_meaning.specs.declared.ends.Flow.TheVariants.{Next, Returned}
use Rattle.xmp_meaning.specs.Runs.{State, Step, Gave, Ended, Run, and_then, ◌>>=◌, pure, scalar, set_scalar, state_of}
use Rattle.xmp_meaning.specs.Blocks.{after, then_run, turns}
use Rattle.xmp_meaning.specs.Context.{Context}
use Rattle.xmp_meaning.specs.Handlers.{Handlers, erased}
use Rattle.xmp_meaning.specs.Expressions.{after_call, expr_of}
use Rattle.xmp_meaning.specs.Loops.{inside, step_up, turn_count, counted, nest}
use Rattle.xmp_meaning.specs.Statements.{stmt_of}
use Rattle.xmp_meaning.specs.Writes.{scalars_written, arrays_written}
use Rattle.xmp_meaning.specs.Laws.{KeepsScalar, IsCounted, repeated}
use Rattle.xmp_meaning.proofs.CountedTurns.{counted_turns}
use Rattle.xmp_meaning.proofs.Preorders.{Respected, keeps, keeps_erased}
use Rattle.xmp_meaning.proofs.RelatedExpressions.{keeps-expr}
use Rattle.xmp_meaning.proofs.RelatedStatements.{keeps-stmt, keeps-nest}
use Rattle.xmp_meaning.proofs.Stays.{Any, all_any, set_other}
use Rattle.xmp_meaning.proofs.WrittenOnce.{writes_are_one}
use Rattle.xmp_meaning_laws.specs.Laws.{scalar_in, bound_value, keeps_bound, by_count, nest_by_count, NestsAreCounted}
use Rattle.xmp_meaning_laws.proofs.Conditions.{all_apart}
use Rattle.xmp_meaning_laws.proofs.Shapes.{shape_respected}
use Rattle.xmp_meaning_laws.proofs.Values.{wrap_fits}
use Rattle.xmp_meaning_laws.proofs.CountedLoops.{six, both_true, neither, set_there, loop_counted}

-- ---- which scalars are there

abbrev pub Exists : {X : Type 0} → State X → List ℕ → Type 0
Exists s slots = AllByRecursion (λ i. is_some (slice_get s.scalars i) ≡ true) slots

pub some_by_length : (xs ys : List ℤ) (i : ℕ) → length ys ≡ length xs → is_some (slice_get xs i) ≡ true → is_some (slice_get ys i) ≡ true
some_by_length [] ys i l h = absurd (true≢false (sym h))
some_by_length (x ∷ xs) [] i l h = absurd (omega (arith, l))
some_by_length (x ∷ xs) (y ∷ ys) zero l h = refl
some_by_length (x ∷ xs) (y ∷ ys) (suc i) l h = some_by_length xs ys i (let m : length ys ≡ length xs = omega (arith, l) in m) h

pub exist_by_length : {X : Type 0} (s t : State X) (slots : List ℕ) → length t.scalars ≡ length s.scalars → Exists s slots → Exists t slots
exist_by_length s t [] l h = tt
exist_by_length s t (i ∷ slots) l h = (some_by_length s.scalars t.scalars i l h.0, exist_by_length s t slots l h.1)

-- ---- a counted loop by its count, with another body that does the same

module _ {X : Type 0} (h : Handlers X) (cx : Context) (head : LoopHead) (p q : Run X Flow) (slots : List ℕ)
    (same : (t : State X) → Exists t slots → p t ≡ q t) (length_kept : (t : State X) → length (state_of (p t)).scalars ≡ length t.scalars) where
  abbrev with_index : State X → ℤ → State X
  with_index t v = record t { scalars = slice_set t.scalars head.index.number v }

  after_same : (r : Step X Flow) (f g : Run X Flow) → ((t : State X) → r ≡ Gave Next t → f t ≡ g t) → and_then r (λ flow. after flow f) ≡ and_then r (λ flow. after flow g)
  after_same (Gave Next t) f g k = k t refl
  after_same (Gave (Returned v) t) f g k = refl
  after_same (Ended e t) f g k = refl

  next : Run X Flow → ℕ → ℕ → ℤ → Run X Flow
  next body n k from = set_scalar head.index.number (from +ℤ pos (suc k * head.step)) >>= (λ u. repeated head n (suc k) from body)

  repeated_same : (n k : ℕ) (from : ℤ) (t : State X) → Exists t slots → repeated head n k from p t ≡ repeated head n k from q t
  unfolding next
  repeated_same zero k from t there = refl
  repeated_same (suc n) k from t there =
      after_same (p t) (next p n k from) (next q n k from) (λ u went.
      repeated_same n (suc k) from (with_index u (from +ℤ pos (suc k * head.step)))
      (exist_by_length t (with_index u (from +ℤ pos (suc k * head.step))) slots
      (length-set u.scalars head.index.number (from +ℤ pos (suc k * head.step)) ∙ subst (λ (r : Step X Flow). length (state_of r).scalars ≡ length t.scalars) went (length_kept t)) there))
      ∙ ap (λ r. and_then r (λ flow. after flow (next q n k from))) (same t there)

  module _ (writes : List ℕ) (e : is_counted cx.program head writes ≡ true) (constants : list_all constant_fits (terms_of cx.program head.to) ≡ true)
      (kept : AllByRecursion (λ slot. KeepsScalar {X = X} slot p) (head.index.number ∷ slots_of_terms (terms_of cx.program head.to))) where
    reads_itself : (t : State X) (ns : List ℕ) → list_all (λ n. int_eq (scalar_in t n) (scalar_in t n)) ns ≡ true
    reads_itself t [] = refl
    reads_itself t (n ∷ ns) = both_true (int_eq (scalar_in t n) (scalar_in t n)) (list_all (λ n. int_eq (scalar_in t n) (scalar_in t n)) ns)
        ((Decides-int_eq (scalar_in t n) (scalar_in t n)).1 refl) (reads_itself t ns)

    abbrev run_turns : ℕ → Run X Flow
    run_turns n = turns n (inside h cx head) (then_run p (step_up head))

    abbrev run_count : ℕ → Run X Flow
    run_count n = scalar head.index.number >>= (λ from. repeated head n 0 from q)

    abbrev count_of : ℤ → ℤ → ℕ
    count_of v b = turn_count (wrap Int v) (wrap Int b) head.inclusive head.step

    -- from the state in which the index has its first value
    from_there : (v : ℤ) (t : State X) → is_some (slice_get t.scalars head.index.number) ≡ true → Exists t slots
        → and_then (and_then (expr_of h cx head.to (with_index t (wrap Int v))) (λ b. pure (count_of v b))) run_turns
        ≡ and_then (and_then (expr_of h cx head.to (with_index t (wrap Int v))) (λ b. pure (count_of v b))) run_count
    from_there v t there all =
        ap (λ z. and_then (and_then z (λ b. pure (count_of v b))) run_turns) bound
        ∙ counted_turns X h cx head p (keeps_bound cx.program head u) (wrap Int v) to is u fit at
        ∙ repeated_same (count_of v to) 0 (wrap Int v) u (exist_by_length t u slots (length-set t.scalars head.index.number (wrap Int v)) all)
        ∙ ap (λ o. repeated head (count_of v to) 0 (unwrap_or o (pos 0)) q u) (sym at)
        ∙ sym (ap (λ z. and_then (and_then z (λ b. pure (count_of v b))) run_count) bound)
      where
        u : State X
        u = with_index t (wrap Int v)

        to : ℤ
        to = bound_value (scalar_in u) head.to

        at : slice_get (slice_set t.scalars head.index.number (wrap Int v)) head.index.number ≡ Some (wrap Int v)
        at = set_there t.scalars head.index.number (wrap Int v) there

        fit : keeps_bound cx.program head u u ≡ true
        fit = both_true (is_some (slice_get u.scalars head.index.number)) (list_all (λ n. int_eq (scalar_in u n) (scalar_in u n)) (slots_of_terms (terms_of cx.program head.to)))
            (ap is_some at) (reads_itself u (slots_of_terms (terms_of cx.program head.to)))

        is : IsCounted X h cx head p (keeps_bound cx.program head u) (wrap Int v) to
        is = loop_counted h cx head p writes e constants kept u (wrap Int v) (wrap_fits Int v)

        bound : expr_of h cx head.to u ≡ Gave to u
        bound = is.bound_is u fit

    entered : (s : State X) (r : Step X ℤ) → length (state_of r).scalars ≡ length s.scalars → is_some (slice_get s.scalars head.index.number) ≡ true → Exists s slots
        → and_then (and_then r (λ v. set_scalar head.index.number (wrap Int v) >>= (λ u. expr_of h cx head.to >>= (λ b. pure (count_of v b))))) run_turns
        ≡ and_then (and_then r (λ v. set_scalar head.index.number (wrap Int v) >>= (λ u. expr_of h cx head.to >>= (λ b. pure (count_of v b))))) run_count
    entered s (Gave v t) l there all = from_there v t (some_by_length s.scalars t.scalars head.index.number l there) (exist_by_length s t slots l all)
    entered s (Ended end t) l there all = refl

    pub counted_by_count : (s : State X) → length (state_of (expr_of h cx head.from s)).scalars ≡ length s.scalars
        → is_some (slice_get s.scalars head.index.number) ≡ true → Exists s slots → counted h cx head p s ≡ by_count h cx head q s
    counted_by_count s l there all = entered s (expr_of h cx head.from s) l there all

-- what is not in a list
pub not_in : (slot : ℕ) (ns : List ℕ) → not (is_in ns slot) ≡ true → AllByRecursion (λ n. n ≢ slot) ns
not_in slot [] e = tt
not_in slot (n ∷ ns) e =
    let parts : _ = neither (n == slot) (is_in ns slot) e in
    ((λ same. true≢false (sym (eq-eqb n slot same) ∙ parts.0)), not_in slot ns parts.1)

-- ---- what a nest leaves

module _ {X : Type 0} (cx : Context) where
  scalar_respected : (slot : ℕ) → Respected X cx (λ n. n ≢ slot) Any (λ s t. slice_get t.scalars slot ≡ slice_get s.scalars slot)
  scalar_respected slot = record {
    same = λ s. refl;
    then = λ s t u a b. b ∙ a;
    scalars = λ s n v may. set_other s.scalars n slot v may;
    arrays = λ s row at v may. refl;
    out = λ s text. refl;
    taken = λ s n. refl;
    steps = λ s n e. refl;
    calls = λ s k vs. of_call s (cx.call k vs s.steps);
  }
    where
      of_call : (s : State X) (r : Step (Unit {0}) ℤ) → slice_get (state_of (after_call s r)).scalars slot ≡ slice_get s.scalars slot
      of_call s (Gave v t) = refl
      of_call s (Ended e t) = refl

  pub nest_keeps : (heads : List LoopHead) (body : Stmt) (slot : ℕ) → AllByRecursion (λ n. n ≢ slot) (indices_of heads) → AllByRecursion (λ n. n ≢ slot) (scalars_written body)
      → KeepsScalar {X = X} slot (nest erased cx heads (stmt_of erased cx body))
  nest_keeps heads body slot i w = keeps-nest cx (keeps (scalar_respected slot)) (keeps_erased (scalar_respected slot)) {body = stmt_of erased cx body} {body' = stmt_of erased cx body} heads i
      (keeps-stmt cx (keeps (scalar_respected slot)) (keeps_erased (scalar_respected slot)) body w (all_any (arrays_written body)))

  pub nest_shape : (heads : List LoopHead) (body : Stmt) (t : State X) → length (state_of (nest erased cx heads (stmt_of erased cx body) t)).scalars ≡ length t.scalars
  nest_shape heads body t = (keeps-nest cx (keeps (shape_respected cx)) (keeps_erased (shape_respected cx)) {body = stmt_of erased cx body} {body' = stmt_of erased cx body} heads (all_any (indices_of heads))
      (keeps-stmt cx (keeps (shape_respected cx)) (keeps_erased (shape_respected cx)) body (all_any (scalars_written body)) (all_any (arrays_written body))) t).scalars

  expr_shape : (head : LoopHead) (s : State X) → length (state_of (expr_of erased cx head.from s)).scalars ≡ length s.scalars
  expr_shape head s = (keeps-expr cx (keeps (shape_respected cx)) (keeps_erased (shape_respected cx)) head.from s).scalars

all_kept : (X : Type 0) (cx : Context) (heads : List LoopHead) (body : Stmt) (ns : List ℕ) → apart ns (indices_of heads ++ writes_of body) ≡ true
    → AllByRecursion (λ slot. KeepsScalar {X = X} slot (nest erased cx heads (stmt_of erased cx body))) ns
all_kept X cx heads body [] e = tt
all_kept X cx heads body (n ∷ ns) e =
    let here : _ = all_apart (λ m. m ≢ n) (indices_of heads) (writes_of body)
    (not_in n (indices_of heads ++ writes_of body) (and_left (not (is_in (indices_of heads ++ writes_of body) n)) (apart ns (indices_of heads ++ writes_of body)) e)) in (
      nest_keeps cx heads body n here.0 (subst (AllByRecursion (λ m. m ≢ n)) (sym (writes_are_one body)) here.1),
      all_kept X cx heads body ns (and_right (not (is_in (indices_of heads ++ writes_of body) n)) (apart ns (indices_of heads ++ writes_of body)) e),
    )

pub nests_are_counted : (X : Type 0) (cx : Context) (heads : List LoopHead) (body : Stmt) → NestsAreCounted X cx heads body
nests_are_counted X cx [] body e constants s there = refl
nests_are_counted X cx (head ∷ heads) body e constants s there =
    let writes : List ℕ = indices_of heads ++ writes_of body in
    let here : is_counted cx.program head writes ≡ true = and_left (is_counted cx.program head writes) (is_nest cx.program heads (writes_of body)) e in
    let both : (list_all constant_fits (terms_of cx.program head.to) && list_all constant_fits (flat_map (λ head. terms_of cx.program head.to) heads)) ≡ true =
    sym (list_all-append constant_fits (terms_of cx.program head.to) (flat_map (λ head. terms_of cx.program head.to) heads)) ∙ constants in
    let tests : _ = six (is_int_scalar (slice_get cx.program.scalars head.index.number)) (same_type (type_of cx.program head.to) Int)
    (list_all is_bound_term (terms_of cx.program head.to)) (not (is_in (slots_of_terms (terms_of cx.program head.to)) head.index.number))
    (apart (head.index.number ∷ slots_of_terms (terms_of cx.program head.to)) writes)
    (((head.step == 1) && not head.inclusive) || (is_small_constant head.to && (nat_le 1 head.step && nat_le head.step most_counted))) here in
    counted_by_count erased cx head (nest erased cx heads (stmt_of erased cx body)) (nest_by_count erased cx heads (stmt_of erased cx body)) (indices_of heads)
    (λ t all. nests_are_counted X cx heads body (and_right (is_counted cx.program head writes) (is_nest cx.program heads (writes_of body)) e)
    (and_right (list_all constant_fits (terms_of cx.program head.to)) (list_all constant_fits (flat_map (λ head. terms_of cx.program head.to) heads)) both) t all)
    (nest_shape cx heads body) writes here
    (and_left (list_all constant_fits (terms_of cx.program head.to)) (list_all constant_fits (flat_map (λ head. terms_of cx.program head.to) heads)) both)
    (all_kept X cx heads body (head.index.number ∷ slots_of_terms (terms_of cx.program head.to)) tests.fifth)
    s (expr_shape cx head s) there.0 there.1
