-- The index tuples of a nest rise, and their values are values of int.
use Rattle.std.proofs.Common.{◌≡◌, ◌⊎◌, inl, inr, ◌<◌, ◌≤◌, ◌+◌, ◌*◌, ◌++◌, ◌==◌, ◌&&◌, ◌||◌, not, if◌then◌else◌, ℕ, zero, suc, ℤ, pos, ◌+ℤ◌, Bool, true, false, List, [], ◌∷◌, map, refl, sym, subst, ap, ◌∙◌, arith}
use Rattle.std.specs.Prelude.{int_lt, int_le, nat_le, slice_get}
use Rattle.std.specs.List.{AllByRecursion, list_all, flat_map, range_with_len}
use Rattle.std.specs.Ordering.{int_eq}
use Rattle.std.proofs.lemmas.Int.{ints, int_wrap_fits}
use Rattle.std.proofs.lemmas.Bool.{eqb-true, leb-true}
use Rattle.std.proofs.lemmas.Bool.Decides.{Decides-int_eq}
use Rattle.std.proofs.Math.Nat.{mul-lt-mul_of_pos_right}
use Rattle.xmp_map.proofs.Counted.{and_left, and_right}
use Rattle.xmp_num.specs.declared.types.Ty.TheVariants.{Int}
use Rattle.xmp_num.specs.Arithmetic.{FitsType, wrap, width_of}
use Rattle.xmp_prog.specs.declared.parts.ProgParts.{ProgParts}
use Rattle.xmp_prog.specs.declared.statements.LoopHead.{LoopHead}
use Rattle.xmp_prog.specs.Numbers.{is_in, apart, same_type, pairwise}
use Rattle.xmp_prog.specs.Terms.{type_of, terms_of, slots_of_terms}
use Rattle.xmp_prog.specs.Tests.{constant_fits}
use Rattle.xmp_prog.specs.Counted.{most_counted, is_int_scalar, is_bound_term, is_small_constant}
use Rattle.xmp_prog.specs.Statements.{indices_of}
use Rattle.xmp_meaning.specs.Loops.{is_inside}
use Rattle.xmp_meaning.specs.LoopEnds.{comes_before}
use Rattle.xmp_meaning.proofs.Counting.{turns_are_counted}
use Rattle.xmp_meaning_laws.specs.Laws.{bound_value}
use Rattle.xmp_meaning_laws.specs.Tuples.{index_in_turn, turns_by, index_values, with_value, tuples, AllTuplesRise}
use Rattle.xmp_meaning_laws.proofs.Conditions.{all_together}
use Rattle.xmp_meaning_laws.proofs.Named.{all_of_test}
use Rattle.xmp_meaning_laws.proofs.Values.{wrap_fits, same_types}
use Rattle.xmp_meaning_laws.proofs.CountedLoops.{Six, six, both_true, either, is_not, small_bound, small_step_up, unit_step_up}
use Rattle.xmp_meaning_laws.proofs.Folds.{HeadFits, AllFit, all_fit, tuples_full}

-- ---- the values of an index

module _ (p : ProgParts) (head : LoopHead) (heads : List LoopHead) (writes : List ℕ) (fits : HeadFits p head heads writes) (read : ℕ → ℤ) where
  abbrev by_one : Bool
  by_one = (head.step == 1) && not head.inclusive

  abbrev by_constant : Bool
  by_constant = is_small_constant head.to && (nat_le 1 head.step && nat_le head.step most_counted)

  abbrev from : ℤ
  from = wrap Int (bound_value read head.from)

  abbrev to : ℤ
  to = bound_value read head.to

  counts : Six (is_int_scalar (slice_get p.scalars head.index.number)) (same_type (type_of p head.to) Int) (list_all is_bound_term (terms_of p head.to))
      (not (is_in (slots_of_terms (terms_of p head.to)) head.index.number)) (apart (head.index.number ∷ slots_of_terms (terms_of p head.to)) (indices_of heads ++ writes)) (by_one || by_constant)
  counts = six _ _ _ _ _ _ fits.counted

  steps_up_of : (by_one ≡ true) ⊎ (by_constant ≡ true) → 1 ≤ head.step
  steps_up_of (inl f) = let one : head.step ≡ 1 = eqb-true head.step 1 (and_left _ _ f) in omega (arith, one)
  steps_up_of (inr f) = leb-true 1 head.step (and_left _ _ (and_right _ _ f))

  pub steps_up : 1 ≤ head.step
  steps_up = steps_up_of (either by_one by_constant counts.sixth)

  small_facts : by_constant ≡ true → (int_le (wrap Int to) (pos 1073741823) ≡ true) × (head.step ≤ 1073741823)
  small_facts f =
      let small : _ = small_bound p read head.to (and_left _ _ f) (all_of_test constant_fits (terms_of p head.to) fits.constants) in
      let whole : FitsType Int to = subst (λ ty. FitsType ty to) (same_types (type_of p head.to) Int counts.second) small.1 in
      (subst (λ v. int_le v (pos 1073741823) ≡ true) (sym (int_wrap_fits (width_of Int) to whole)) small.0, leb-true head.step 1073741823 (and_right _ _ (and_right _ _ f)))

  stepped : (by_one ≡ true) ⊎ (by_constant ≡ true) → (m : ℕ) → is_inside head.inclusive (from +ℤ pos m) (wrap Int to) ≡ true → FitsType Int (from +ℤ pos (m + head.step))
  stepped (inl f) m i = subst (λ n. FitsType Int (from +ℤ pos (m + n))) (sym (eqb-true head.step 1 (and_left _ _ f)))
      (unit_step_up head.inclusive (is_not head.inclusive (and_right _ _ f)) from (wrap Int to) m (wrap_fits Int _) (wrap_fits Int to) i)
  stepped (inr f) m i = let small : _ = small_facts f in small_step_up head.inclusive from (wrap Int to) m head.step (wrap_fits Int _) small.0 small.1 i

  value_fits : (k : ℕ) → k < turns_by read head → FitsType Int (index_in_turn read head k)
  value_fits zero lt = subst (FitsType Int) (first_is from head.step) (wrap_fits Int _)
    where
      first_is : (from : ℤ) (step : ℕ) → from ≡ from +ℤ pos (0 * step)
      first_is from step = grind (arith, ints)
  value_fits (suc k) lt =
      subst (λ n. FitsType Int (from +ℤ pos n)) (let q : k * head.step + head.step ≡ suc k * head.step = omega arith in q)
      (stepped (either by_one by_constant counts.sixth) (k * head.step)
      ((turns_are_counted from (wrap Int to) head.inclusive head.step k steps_up).1 (let q : k < turns_by read head = omega (arith, lt) in q)))

  pub values_fit : (n k : ℕ) → k + n ≤ turns_by read head → AllByRecursion (FitsType Int) (map (index_in_turn read head) (range_with_len k n))
  values_fit zero k le = tt
  values_fit (suc n) k le = (value_fits k (omega (arith, le)), values_fit n (k + 1) (omega (arith, le)))

later_is_more : (from : ℤ) (m n : ℕ) → m < n → int_lt (from +ℤ pos m) (from +ℤ pos n) ≡ true
later_is_more from m n lt = grind (arith, ints)

later_is_other : (from : ℤ) (m n : ℕ) → m < n → int_eq (from +ℤ pos m) (from +ℤ pos n) ≡ false
later_is_other from m n lt = of_test (int_eq (from +ℤ pos m) (from +ℤ pos n)) refl
  where
    not_same : (from : ℤ) (m n : ℕ) → m < n → from +ℤ pos m ≡ from +ℤ pos n → ⊥
    not_same from m n lt e = omega (arith, ints, lt, e)

    of_test : (b : Bool) → int_eq (from +ℤ pos m) (from +ℤ pos n) ≡ b → b ≡ false
    of_test true e = absurd (not_same from m n lt ((Decides-int_eq (from +ℤ pos m) (from +ℤ pos n)).0 e))
    of_test false e = refl

-- ---- order

abbrev Rise : List (List ℤ) → Type 0
Rise ts = pairwise comes_before ts ≡ true

all_test : {A : Type 0} (test : A → Bool) (xs : List A) → AllByRecursion (λ x. test x ≡ true) xs → list_all test xs ≡ true
all_test test [] h = refl
all_test test (x ∷ xs) h = both_true (test x) (list_all test xs) h.0 (all_test test xs h.1)

rise_joined : (xs ys : List (List ℤ)) → Rise xs → Rise ys → AllByRecursion (λ x. AllByRecursion (λ y. comes_before x y ≡ true) ys) xs → Rise (xs ++ ys)
rise_joined [] ys a b c = b
rise_joined (x ∷ xs) ys a b c =
    both_true (list_all (comes_before x) (xs ++ ys)) (pairwise comes_before (xs ++ ys))
    (all_test (comes_before x) (xs ++ ys) (all_together (λ y. comes_before x y ≡ true) xs ys (all_of_test (comes_before x) xs (and_left _ _ a)) c.0))
    (rise_joined xs ys (and_right _ (pairwise comes_before xs) a) b c.1)

same_is : (v : ℤ) → int_eq v v ≡ true
same_is v = (Decides-int_eq v v).1 refl

behind_all : (v : ℤ) (x : List ℤ) (ts : List (List ℤ)) → list_all (comes_before x) ts ≡ true → list_all (comes_before (v ∷ x)) (map (λ vs. v ∷ vs) ts) ≡ true
behind_all v x [] h = refl
behind_all v x (t ∷ ts) h =
    both_true (comes_before (v ∷ x) (v ∷ t)) (list_all (comes_before (v ∷ x)) (map (λ vs. v ∷ vs) ts))
    (ap (λ b. if b then comes_before x t else int_lt v v) (same_is v) ∙ and_left _ _ h) (behind_all v x ts (and_right _ _ h))

rise_behind : (v : ℤ) (ts : List (List ℤ)) → Rise ts → Rise (map (λ vs. v ∷ vs) ts)
rise_behind v [] h = refl
rise_behind v (t ∷ ts) h =
    both_true (list_all (comes_before (v ∷ t)) (map (λ vs. v ∷ vs) ts)) (pairwise comes_before (map (λ vs. v ∷ vs) ts))
    (behind_all v t ts (and_left _ _ h)) (rise_behind v ts (and_right _ _ h))

-- whatever follows the greater first value comes later
abbrev Above : ℤ → List (List ℤ) → Type 0
Above v ys = AllByRecursion (λ y. (x : List ℤ) → comes_before (v ∷ x) y ≡ true) ys

above_behind : (v w : ℤ) → int_eq v w ≡ false → int_lt v w ≡ true → (ts : List (List ℤ)) → Above v (map (λ vs. w ∷ vs) ts)
above_behind v w ne lt [] = tt
above_behind v w ne lt (t ∷ ts) = ((λ x. ap (λ b. if b then comes_before x t else int_lt v w) ne ∙ lt), above_behind v w ne lt ts)

below_all : (v : ℤ) (ts ys : List (List ℤ)) → Above v ys → AllByRecursion (λ x. AllByRecursion (λ y. comes_before x y ≡ true) ys) (map (λ vs. v ∷ vs) ts)
below_all v [] ys h = tt
below_all v (t ∷ ts) ys h = (each_one ys h, below_all v ts ys h)
  where
    each_one : (ys : List (List ℤ)) → Above v ys → AllByRecursion (λ y. comes_before (v ∷ t) y ≡ true) ys
    each_one [] h = tt
    each_one (y ∷ ys) h = (h.0 t, each_one ys h.1)

module _ (p : ProgParts) (writes : List ℕ) where
  module _ (head : LoopHead) (heads : List LoopHead) (read : ℕ → ℤ) (up : 1 ≤ head.step) (inner : (v : ℤ) → Rise (tuples (with_value head.index.number v read) heads)) where
    abbrev all_tuples : List ℤ → List (List ℤ)
    all_tuples vals = flat_map (λ v. map (λ vs. v ∷ vs) (tuples (with_value head.index.number v read) heads)) vals

    above_values : (k n j : ℕ) → k < j → Above (index_in_turn read head k) (all_tuples (map (index_in_turn read head) (range_with_len j n)))
    above_values k zero j lt = tt
    above_values k (suc n) j lt =
        let more : k * head.step < j * head.step = mul-lt-mul_of_pos_right lt up in
        all_together (λ y. (x : List ℤ) → comes_before (index_in_turn read head k ∷ x) y ≡ true) _ (all_tuples (map (index_in_turn read head) (range_with_len (j + 1) n)))
        (above_behind (index_in_turn read head k) (index_in_turn read head j) (later_is_other _ (k * head.step) (j * head.step) more)
        (later_is_more _ (k * head.step) (j * head.step) more) (tuples (with_value head.index.number (index_in_turn read head j) read) heads))
        (above_values k n (j + 1) (omega (arith, lt)))

    rise_values : (n k : ℕ) → Rise (all_tuples (map (index_in_turn read head) (range_with_len k n)))
    rise_values zero k = refl
    rise_values (suc n) k =
        let here : List (List ℤ) = tuples (with_value head.index.number (index_in_turn read head k) read) heads in
        let rest : List (List ℤ) = all_tuples (map (index_in_turn read head) (range_with_len (k + 1) n)) in
        rise_joined (map (λ vs. index_in_turn read head k ∷ vs) here) rest (rise_behind (index_in_turn read head k) here (inner (index_in_turn read head k))) (rise_values n (k + 1))
        (below_all (index_in_turn read head k) here rest (above_values k n (k + 1) (omega arith)))

  tuples_rise : (heads : List LoopHead) → AllFit p heads writes → (read : ℕ → ℤ) → Rise (tuples read heads)
  tuples_rise [] f read = refl
  tuples_rise (head ∷ heads) f read =
      rise_values head heads read (steps_up p head heads writes f.0 read) (λ v. tuples_rise heads f.1 (with_value head.index.number v read)) (turns_by read head) 0

  int_behind : (v : ℤ) (ts : List (List ℤ)) → FitsType Int v → AllByRecursion (AllByRecursion (FitsType Int)) ts → AllByRecursion (AllByRecursion (FitsType Int)) (map (λ vs. v ∷ vs) ts)
  int_behind v [] f h = tt
  int_behind v (t ∷ ts) f h = ((f, h.0), int_behind v ts f h.1)

  tuples_int : (heads : List LoopHead) → AllFit p heads writes → (read : ℕ → ℤ) → AllByRecursion (AllByRecursion (FitsType Int)) (tuples read heads)
  tuples_int [] f read = (tt, tt)
  tuples_int (head ∷ heads) f read =
      of_values (λ v. tuples_int heads f.1 (with_value head.index.number v read)) (index_values read head)
      (values_fit p head heads writes f.0 read (turns_by read head) 0 (omega arith))
    where
      of_values : ((v : ℤ) → AllByRecursion (AllByRecursion (FitsType Int)) (tuples (with_value head.index.number v read) heads)) → (vals : List ℤ) → AllByRecursion (FitsType Int) vals
          → AllByRecursion (AllByRecursion (FitsType Int)) (flat_map (λ v. map (λ vs. v ∷ vs) (tuples (with_value head.index.number v read) heads)) vals)
      of_values inner [] g = tt
      of_values inner (v ∷ vals) g = all_together (AllByRecursion (FitsType Int)) (map (λ vs. v ∷ vs) (tuples (with_value head.index.number v read) heads)) _
          (int_behind v (tuples (with_value head.index.number v read) heads) g.0 (inner v)) (of_values inner vals g.1)

pub all_tuples_rise : (p : ProgParts) (heads : List LoopHead) (writes : List ℕ) → AllTuplesRise p heads writes
all_tuples_rise p heads writes f read =
    let fits : AllFit p heads writes = all_fit p heads writes f.counted f.begins f.constants in
    record { rise = tuples_rise p writes heads fits read; lengths = tuples_full read heads; int = tuples_int p writes heads fits read }
