-- A loop that a program's parts take for counted is counted.
use Rattle.std.proofs.Common.{◌≡◌, ◌≤◌, ◌+◌, ◌*◌, ◌==◌, ◌&&◌, ◌||◌, ◌≢◌, ◌⊎◌, inl, inr, not, ℕ, zero, suc, ℤ, pos, ◌+ℤ◌, Bool, true, false, true≢false, List, [], ◌∷◌, Some, refl, sym, subst, ap, ◌∙◌, arith}
use Rattle.std.specs.Prelude.{slice_get, slice_set, unwrap_or, int_le, int_lt, nat_le, is_some}
use Rattle.std.specs.List.{AllByRecursion, list_all}
use Rattle.std.specs.Ordering.{int_eq}
use Rattle.std.proofs.lemmas.Int.{ints, int_wrap_fits}
use Rattle.std.proofs.lemmas.Bool.Decides.{Decides-int_eq}
use Rattle.std.proofs.lemmas.Bool.{eqb-true, eq-eqb, leb-true}
use Rattle.xmp_map.proofs.Counted.{and_left, and_right}
use Rattle.xmp_num.specs.declared.types.Ty.TheVariants.{Int}
use Rattle.xmp_num.specs.Arithmetic.{FitsType, wrap, width_of}
use Rattle.xmp_prog.specs.declared.parts.ProgParts.{ProgParts}
use Rattle.xmp_prog.specs.declared.expressions.Expr.{Expr, map-Expr}
use Rattle.xmp_prog.specs.declared.expressions.Access.{Access}
use Rattle.xmp_prog.specs.declared.expressions.Expr.TheOpen.{Expr-F}
use Rattle.xmp_prog.specs.declared.expressions.Expr.TheFolds.{ind-Expr, fold-Access, fold-roll-Expr}
use Rattle.xmp_prog.specs.declared.expressions.Expr.TheViews.{roll-Expr}
use Rattle.xmp_prog.specs.declared.statements.LoopHead.{LoopHead}
use Rattle.xmp_prog.specs.Numbers.{is_in, apart, same_type}
use Rattle.xmp_prog.specs.Terms.{Term, Typed, typed, typed_step, type_of, terms_of, slots_of_terms}
use Rattle.xmp_prog.specs.Terms as terms
use Rattle.xmp_prog.specs.Tests.{constant_fits}
use Rattle.xmp_prog.specs.Counted.{most_counted, is_int_scalar, is_bound_term, small_step, is_small_constant, is_counted}
use Rattle.xmp_meaning.specs.declared.ends.Flow.{Flow}
use Rattle.xmp_meaning.specs.declared.ends.Flow.TheVariants.{Next}
use Rattle.xmp_meaning.specs.Runs.{State, Step, Gave, Run, state_of}
use Rattle.xmp_meaning.specs.Context.{Context}
use Rattle.xmp_meaning.specs.Handlers.{Handlers}
use Rattle.xmp_meaning.specs.Loops.{is_inside}
use Rattle.xmp_meaning.specs.Laws.{IsCounted, KeepsScalar}
use Rattle.xmp_meaning.proofs.Counting.{turns_are_counted}
use Rattle.xmp_meaning.proofs.Stays.{set_other}
use Rattle.xmp_meaning_laws.specs.Laws.{bound_step, bound_value, scalar_in, keeps_bound, LoopsAreCounted}
use Rattle.xmp_meaning_laws.proofs.Named.{all_of_test, all_mapped}
use Rattle.xmp_meaning_laws.proofs.Values.{wrap_fits, same_types, constant_lies}
use Rattle.xmp_meaning_laws.proofs.WhereExpressions.{typed_access}
use Rattle.xmp_meaning_laws.proofs.Bounds.{counted_is_fixed, bound_is}
use Rattle.xmp_meaning_laws.specs.Tuples.{is_fixed_term}

-- ---- small constants

module _ (p : ProgParts) (read : ℕ → ℤ) where
  abbrev Small : Expr → Type 0
  Small e = is_small_constant e ≡ true → AllByRecursion (λ t. constant_fits t ≡ true) (terms_of p e)
      → (int_le (bound_value read e) (pos most_counted) ≡ true) × FitsType (type_of p e) (bound_value read e)

  not_small : {A : Type 0} → false ≡ true → A
  not_small e = absurd (true≢false (sym e))

  module _ {C D : Type 0} (f : C → Expr) (g : D → Access) where
    abbrev mapped : Expr-F C D → Expr-F Expr Access
    mapped y = map-Expr C D Expr Access f g y

    abbrev small_of : Expr-F C D → Bool
    small_of y = small_step (map-Expr Expr Access Bool Bool is_small_constant (fold-Access Bool Bool small_step (λ a. false)) (mapped y))

    abbrev typed_of : Expr-F C D → Typed
    typed_of y = typed_step p (map-Expr Expr Access Typed Typed (typed p) (typed_access p) (mapped y))

    abbrev value_of : Expr-F C D → ℤ
    value_of y = bound_step read (map-Expr Expr Access ℤ (Unit {0}) (bound_value read) (fold-Access ℤ (Unit {0}) (bound_step read) (λ a. tt)) (mapped y))

    small_of_step : (y : Expr-F C D) → small_of y ≡ true → AllByRecursion (λ t. constant_fits t ≡ true) (typed_of y).terms
        → (int_le (value_of y) (pos most_counted) ≡ true) × FitsType (typed_of y).ty (value_of y)
    small_of_step (Expr-F.Const v ty) e m = (e, constant_lies ty v m.0)
    small_of_step (Expr-F.Scalar slot at) e m = not_small e
    small_of_step (Expr-F.Cell a) e m = not_small e
    small_of_step (Expr-F.Binary o ty a b at) e m = not_small e
    small_of_step (Expr-F.Both a b) e m = not_small e
    small_of_step (Expr-F.Either a b) e m = not_small e
    small_of_step (Expr-F.Choose a b d) e m = not_small e
    small_of_step (Expr-F.Convert ty a) e m = not_small e
    small_of_step (Expr-F.Call function arguments at) e m = not_small e
    small_of_step Expr-F.Node e m = not_small e
    small_of_step Expr-F.Nodes e m = not_small e

  small_rolls : {w w' : Typed} {b b' : Bool} {v v' : ℤ} → w ≡ w' → b ≡ b' → v ≡ v'
      → (b' ≡ true → AllByRecursion (λ t. constant_fits t ≡ true) w'.terms → (int_le v' (pos most_counted) ≡ true) × FitsType w'.ty v')
      → b ≡ true → AllByRecursion (λ t. constant_fits t ≡ true) w.terms → (int_le v (pos most_counted) ≡ true) × FitsType w.ty v
  small_rolls {w} {w'} {b} {b'} {v} {v'} x y z f =
      subst (λ w. b ≡ true → AllByRecursion (λ t. constant_fits t ≡ true) w.terms → (int_le v (pos most_counted) ≡ true) × FitsType w.ty v) (sym x)
      (subst (λ b. b ≡ true → AllByRecursion (λ t. constant_fits t ≡ true) w'.terms → (int_le v (pos most_counted) ≡ true) × FitsType w'.ty v) (sym y)
      (subst (λ v. b' ≡ true → AllByRecursion (λ t. constant_fits t ≡ true) w'.terms → (int_le v (pos most_counted) ≡ true) × FitsType w'.ty v) (sym z) f))

  pub small_bound : (e : Expr) → Small e
  small_bound = ind-Expr Small (λ a. Unit {0})
      (λ x y e. subst (λ z. Small (roll-Expr z)) e
      (small_rolls (fold-roll-Expr Typed Typed (typed_step p) (terms.access_step p) _)
      (fold-roll-Expr Bool Bool small_step (λ a. false) _)
      (fold-roll-Expr ℤ (Unit {0}) (bound_step read) (λ a. tt) _)
      (small_of_step (λ c. c.0) (λ d. d.0) y)))
      (λ x y e. tt)

-- ---- a step up stays in the type

next_fits : (from to : ℤ) (m : ℕ) → FitsType Int from → FitsType Int to → int_lt (from +ℤ pos m) to ≡ true → FitsType Int (from +ℤ pos (m + 1))
next_fits from to m f g h = grind (arith, ints)

next_small : (from to : ℤ) (m step : ℕ) → FitsType Int from → int_le to (pos 1073741823) ≡ true → step ≤ 1073741823
    → int_le (from +ℤ pos m) to ≡ true → FitsType Int (from +ℤ pos (m + step))
next_small from to m step f g s h = grind (arith, ints)

less_is_most : (x y : ℤ) → int_lt x y ≡ true → int_le x y ≡ true
less_is_most x y h = grind (arith, ints)

next_index : (from : ℤ) (m step n : ℕ) → n ≡ m + step → FitsType Int (from +ℤ pos (m + step)) → wrap Int ((from +ℤ pos m) +ℤ pos step) ≡ from +ℤ pos n
next_index from m step n e f = ap (wrap Int) (together from m step) ∙ int_wrap_fits (width_of Int) (from +ℤ pos (m + step)) f ∙ ap (λ k. from +ℤ pos k) (sym e)
  where
    together : (from : ℤ) (m step : ℕ) → (from +ℤ pos m) +ℤ pos step ≡ from +ℤ pos (m + step)
    together from m step = omega (arith, ints)

pub either : (a b : Bool) → (a || b) ≡ true → (a ≡ true) ⊎ (b ≡ true)
either true b e = inl refl
either false b e = inr e

pub is_not : (b : Bool) → not b ≡ true → b ≡ false
is_not true e = absurd (true≢false (sym e))
is_not false e = refl

pub small_step_up : (inclusive : Bool) (from to : ℤ) (m step : ℕ) → FitsType Int from → int_le to (pos 1073741823) ≡ true → step ≤ 1073741823
    → is_inside inclusive (from +ℤ pos m) to ≡ true → FitsType Int (from +ℤ pos (m + step))
small_step_up true from to m step f g s h = next_small from to m step f g s h
small_step_up false from to m step f g s h = next_small from to m step f g s (less_is_most (from +ℤ pos m) to h)

pub unit_step_up : (inclusive : Bool) → inclusive ≡ false → (from to : ℤ) (m : ℕ) → FitsType Int from → FitsType Int to
    → is_inside inclusive (from +ℤ pos m) to ≡ true → FitsType Int (from +ℤ pos (m + 1))
unit_step_up true e from to m f g h = absurd (true≢false e)
unit_step_up false e from to m f g h = next_fits from to m f g h

-- ---- what the bound's scalars are

pub both_true : (a b : Bool) → a ≡ true → b ≡ true → (a && b) ≡ true
both_true true b e f = f
both_true false b e f = absurd (true≢false (sym e))

pub neither : (a b : Bool) → not (a || b) ≡ true → (a ≡ false) × (not b ≡ true)
neither true b e = absurd (true≢false (sym e))
neither false b e = (refl, e)

pub others : (i : ℕ) (ns : List ℕ) → not (is_in ns i) ≡ true → AllByRecursion (λ n. i ≢ n) ns
others i [] e = tt
others i (n ∷ ns) e =
    let parts : _ = neither (n == i) (is_in ns i) e in
    ((λ same. true≢false (sym (eq-eqb n i (sym same)) ∙ parts.0)), others i ns parts.1)

pub set_there : (xs : List ℤ) (i : ℕ) (v : ℤ) → is_some (slice_get xs i) ≡ true → slice_get (slice_set xs i v) i ≡ Some v
set_there [] i v e = absurd (true≢false (sym e))
set_there (x ∷ xs) zero v e = refl
set_there (x ∷ xs) (suc i) v e = set_there xs i v e

equal_of : (x y : ℤ) → int_eq x y ≡ true → x ≡ y
equal_of x y e = (Decides-int_eq x y).0 e

module _ {X : Type 0} (s : State X) where
  abbrev Same : State X → ℕ → Bool
  Same t n = int_eq (scalar_in t n) (scalar_in s n)

  -- the scalars are the same in a state that has them from another
  same_still : (t u : State X) (ns : List ℕ) → AllByRecursion (λ n. slice_get u.scalars n ≡ slice_get t.scalars n) ns → list_all (Same t) ns ≡ true
      → list_all (Same u) ns ≡ true
  same_still t u [] k e = refl
  same_still t u (n ∷ ns) k e = both_true (Same u n) (list_all (Same u) ns)
      (ap (λ o. int_eq (unwrap_or o (pos 0)) (scalar_in s n)) k.0 ∙ and_left (Same t n) (list_all (Same t) ns) e)
      (same_still t u ns k.1 (and_right (Same t n) (list_all (Same t) ns) e))

  same_reads : (t : State X) (ns : List ℕ) → list_all (Same t) ns ≡ true → AllByRecursion (λ n. unwrap_or (slice_get t.scalars n) (pos 0) ≡ scalar_in s n) ns
  same_reads t [] e = tt
  same_reads t (n ∷ ns) e =
      (equal_of (scalar_in t n) (scalar_in s n) (and_left (Same t n) (list_all (Same t) ns) e), same_reads t ns (and_right (Same t n) (list_all (Same t) ns) e))

-- six tests that all hold
pub record Six (a b c d e f : Bool) : Type 0 where
  pub first : a ≡ true
  pub second : b ≡ true
  pub third : c ≡ true
  pub fourth : d ≡ true
  pub fifth : e ≡ true
  pub sixth : f ≡ true

pub six : (a b c d e f : Bool) → (a && (b && (c && (d && (e && f))))) ≡ true → Six a b c d e f
six a b c d e f h =
    let after_first : _ = and_right a (b && (c && (d && (e && f)))) h in
    let after_second : _ = and_right b (c && (d && (e && f))) after_first in
    let after_third : _ = and_right c (d && (e && f)) after_second in
    let after_fourth : _ = and_right d (e && f) after_third in
    record {
      first = and_left a (b && (c && (d && (e && f)))) h;
      second = and_left b (c && (d && (e && f))) after_first;
      third = and_left c (d && (e && f)) after_second;
      fourth = and_left d (e && f) after_third;
      fifth = and_left e f after_fourth;
      sixth = and_right e f after_fourth;
    }

pub fixed_terms : (ts : List Term) → list_all is_bound_term ts ≡ true → AllByRecursion (λ t. is_fixed_term t ≡ true) ts
fixed_terms ts e = all_mapped (λ t. is_bound_term t ≡ true) (λ t. is_fixed_term t ≡ true) counted_is_fixed ts (all_of_test is_bound_term ts e)

module _ {X : Type 0} (h : Handlers X) (cx : Context) (head : LoopHead) (body : Run X Flow) (writes : List ℕ)
    (e : is_counted cx.program head writes ≡ true) (constants : list_all constant_fits (terms_of cx.program head.to) ≡ true)
    (kept : AllByRecursion (λ slot. KeepsScalar {X = X} slot body) (head.index.number ∷ slots_of_terms (terms_of cx.program head.to)))
    (s : State X) (from : ℤ) (from_fits : FitsType Int from) where
  abbrev slots : List ℕ
  slots = slots_of_terms (terms_of cx.program head.to)

  abbrev index : ℕ
  index = head.index.number

  abbrev to : ℤ
  to = bound_value (scalar_in s) head.to

  abbrev fits : State X → Bool
  fits = keeps_bound cx.program head s

  index_there : (t : State X) → fits t ≡ true → is_some (slice_get t.scalars index) ≡ true
  index_there t f = and_left (is_some (slice_get t.scalars index)) (list_all (Same s t) slots) f

  slots_same : (t : State X) → fits t ≡ true → list_all (Same s t) slots ≡ true
  slots_same t f = and_right (is_some (slice_get t.scalars index)) (list_all (Same s t) slots) f

  abbrev by_one : Bool
  by_one = (head.step == 1) && not head.inclusive

  abbrev by_constant : Bool
  by_constant = is_small_constant head.to && (nat_le 1 head.step && nat_le head.step most_counted)

  counts : Six (is_int_scalar (slice_get cx.program.scalars index)) (same_type (type_of cx.program head.to) Int) (list_all is_bound_term (terms_of cx.program head.to))
      (not (is_in slots index)) (apart (index ∷ slots) writes) (by_one || by_constant)
  counts = six (is_int_scalar (slice_get cx.program.scalars index)) (same_type (type_of cx.program head.to) Int) (list_all is_bound_term (terms_of cx.program head.to))
      (not (is_in slots index)) (apart (index ∷ slots) writes) (by_one || by_constant) e

  int_bound : same_type (type_of cx.program head.to) Int ≡ true
  int_bound = counts.second

  bound_terms : list_all is_bound_term (terms_of cx.program head.to) ≡ true
  bound_terms = counts.third

  index_apart : not (is_in slots index) ≡ true
  index_apart = counts.fourth

  form : (by_one ≡ true) ⊎ (by_constant ≡ true)
  form = either by_one by_constant counts.sixth

  steps_up_of : (by_one ≡ true) ⊎ (by_constant ≡ true) → 1 ≤ head.step
  steps_up_of (inl f) = let one : head.step ≡ 1 = eqb-true head.step 1 (and_left _ _ f) in omega (arith, one)
  steps_up_of (inr f) = leb-true 1 head.step (and_left _ _ (and_right _ _ f))

  states_kept : (t u : State X) → body t ≡ Gave Next u → (ns : List ℕ) → AllByRecursion (λ slot. KeepsScalar {X = X} slot body) ns
      → AllByRecursion (λ n. slice_get u.scalars n ≡ slice_get t.scalars n) ns
  states_kept t u went [] k = tt
  states_kept t u went (n ∷ ns) k = (subst (λ (r : Step X Flow). slice_get (state_of r).scalars n ≡ slice_get t.scalars n) went (k.0 t), states_kept t u went ns k.1)

  turn_kept : (t u : State X) → fits t ≡ true → body t ≡ Gave Next u → (fits u ≡ true) × (slice_get u.scalars index ≡ slice_get t.scalars index)
  turn_kept t u f went =
      let all : _ = states_kept t u went (index ∷ slots) kept in
      (both_true (is_some (slice_get u.scalars index)) (list_all (Same s u) slots) (ap is_some all.0 ∙ index_there t f) (same_still s t u slots all.1 (slots_same t f)), all.0)

  others_set : (t : State X) (v : ℤ) (ns : List ℕ) → AllByRecursion (λ n. index ≢ n) ns
      → AllByRecursion (λ n. slice_get (slice_set t.scalars index v) n ≡ slice_get t.scalars n) ns
  others_set t v [] k = tt
  others_set t v (n ∷ ns) k = (set_other t.scalars index n v k.0, others_set t v ns k.1)

  index_set : (t : State X) (v : ℤ) → fits t ≡ true
      → (fits (record t { scalars = slice_set t.scalars index v }) ≡ true) × (slice_get (slice_set t.scalars index v) index ≡ Some v)
  index_set t v f =
      let there : slice_get (slice_set t.scalars index v) index ≡ Some v = set_there t.scalars index v (index_there t f) in (
        both_true (is_some (slice_get (slice_set t.scalars index v) index)) (list_all (Same s (record t { scalars = slice_set t.scalars index v })) slots) (ap is_some there)
            (same_still s t (record t { scalars = slice_set t.scalars index v }) slots (others_set t v slots (others index slots index_apart)) (slots_same t f)),
        there,
      )

  small_facts : by_constant ≡ true → (int_le (wrap Int to) (pos 1073741823) ≡ true) × (head.step ≤ 1073741823)
  small_facts f =
      let small : _ = small_bound cx.program (scalar_in s) head.to (and_left _ _ f) (all_of_test constant_fits (terms_of cx.program head.to) constants) in
      let whole : FitsType Int to = subst (λ ty. FitsType ty to) (same_types (type_of cx.program head.to) Int int_bound) small.1 in
      (subst (λ v. int_le v (pos 1073741823) ≡ true) (sym (int_wrap_fits (width_of Int) to whole)) small.0, leb-true head.step 1073741823 (and_right _ _ (and_right _ _ f)))

  stepped_fits : (by_one ≡ true) ⊎ (by_constant ≡ true) → (m : ℕ) → is_inside head.inclusive (from +ℤ pos m) (wrap Int to) ≡ true → FitsType Int (from +ℤ pos (m + head.step))
  stepped_fits (inl f) m i = subst (λ n. FitsType Int (from +ℤ pos (m + n))) (sym (eqb-true head.step 1 (and_left _ _ f)))
      (unit_step_up head.inclusive (is_not head.inclusive (and_right _ _ f)) from (wrap Int to) m from_fits (wrap_fits Int to) i)
  stepped_fits (inr f) m i = let small : _ = small_facts f in small_step_up head.inclusive from (wrap Int to) m head.step from_fits small.0 small.1 i

  pub loop_counted : IsCounted X h cx head body fits from to
  loop_counted = record {
    steps_up = steps_up_of form;
    bound_is = λ t f. bound_is h cx (scalar_in s) t head.to (fixed_terms (terms_of cx.program head.to) bound_terms) (same_reads s t slots (slots_same t f));
    turn_fits = turn_kept;
    index_fits = index_set;
    step_fits = λ k lt. next_index from (k * head.step) head.step (suc k * head.step) (let q : suc k * head.step ≡ k * head.step + head.step = omega arith in q)
        (stepped_fits form (k * head.step) ((turns_are_counted from (wrap Int to) head.inclusive head.step k (steps_up_of form)).1 lt));
  }

pub loops_are_counted : (X : Type 0) (h : Handlers X) (cx : Context) (head : LoopHead) (body : Run X Flow) → LoopsAreCounted X h cx head body
loops_are_counted X h cx head body writes e constants kept s from f = loop_counted h cx head body writes e constants kept s from f
