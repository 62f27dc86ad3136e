-- A nest of counted loops is a fold over its index tuples.
use Rattle.std.proofs.Common.{◌≡◌, ◌≢◌, ◌⊎◌, inl, inr, ◌+◌, ◌*◌, ◌++◌, ◌==◌, ◌&&◌, ◌||◌, not, if◌then◌else◌, ℕ, zero, suc, ℤ, pos, ◌+ℤ◌, Bool, true, false, true≢false, List, [], ◌∷◌, length, map, Option, Some, refl, sym, subst, ap, ◌∙◌, arith, eq-eqb, eqb-true, ne_eqb}
use Rattle.std.specs.Prelude.{slice_get, slice_set, unwrap_or, nat_le}
use Rattle.std.specs.List.{AllByRecursion, list_all, flat_map, range_with_len}
use Rattle.std.proofs.lemmas.Int.{ints}
use Rattle.std.proofs.lemmas.List.{length-set}
use Rattle.std.proofs.lemmas.List.Folds.{list_all-append}
use Rattle.xmp_map.proofs.Counted.{and_left, and_right}
use Rattle.xmp_num.specs.declared.types.Ty.TheVariants.{Int}
use Rattle.xmp_num.specs.Arithmetic.{wrap}
use Rattle.xmp_prog.specs.declared.parts.ProgParts.{ProgParts}
use Rattle.xmp_prog.specs.declared.statements.LoopHead.{LoopHead}
use Rattle.xmp_prog.specs.Numbers.{is_in, apart, same_type}
use Rattle.xmp_prog.specs.Terms.{type_of, terms_of, slots_of_terms}
use Rattle.xmp_prog.specs.Tests.{constant_fits}
use Rattle.xmp_prog.specs.Counted.{most_counted, is_int_scalar, is_bound_term, is_small_constant, is_counted, is_nest}
use Rattle.xmp_prog.specs.Statements.{indices_of, terms_of_head}
use Rattle.xmp_meaning.specs.declared.ends.Flow.{Flow}
use Rattle.xmp_meaning.specs.declared.ends.Flow.TheVariants.{Next, Returned}
use Rattle.xmp_meaning.specs.Runs.{State, Step, Gave, Ended, Run, and_then, ◌>>=◌, pure, scalar, set_scalar, state_of}
use Rattle.xmp_meaning.specs.Blocks.{after, then_run}
use Rattle.xmp_meaning.specs.Context.{Context}
use Rattle.xmp_meaning.specs.Handlers.{Handlers}
use Rattle.xmp_meaning.specs.Expressions.{expr_of}
use Rattle.xmp_meaning.specs.Loops.{turn_count, entering, nest}
use Rattle.xmp_meaning.specs.Laws.{KeepsScalar, repeated}
use Rattle.xmp_meaning.proofs.Sequences.{flows_associate, same_after}
use Rattle.xmp_meaning.proofs.Stays.{set_other}
use Rattle.xmp_meaning_laws.specs.Laws.{bound_value, scalar_in, by_count}
use Rattle.xmp_meaning_laws.specs.Tuples.{is_fixed_term, is_fixed, begins_fixed, index_in_turn, turns_by, index_values, with_value, tuples, later, latest, ends, set_where, leaving, at_tuple, for_each, folded, NestIsFold, TuplesAreKnown}
use Rattle.xmp_meaning_laws.proofs.Conditions.{all_apart, all_together}
use Rattle.xmp_meaning_laws.proofs.Named.{all_of_test, all_mapped, all_of_two}
use Rattle.xmp_meaning_laws.proofs.Bounds.{bound_is, bound_same, slots_split}
use Rattle.xmp_meaning_laws.proofs.CountedLoops.{Six, six, others, set_there, fixed_terms}
use Rattle.xmp_meaning_laws.proofs.Nests.{Exists, some_by_length, exist_by_length, not_in, counted_by_count}
use Rattle.xmp_meaning_laws.proofs.Settings.{Fresh, Apart, Overrides, where_swaps, set_later, first_overrides, tuple_overrides, earlier_overrides, later_overrides, where_none, where_other, where_length, set_same, fresh_flipped}
use Rattle.xmp_meaning_laws.proofs.Kept.{HeadIsFixed, IsFree, fixed_is, left_for_each, left_nest}

-- ---- what is asked of a nest, loop by loop

-- a scalar is none of these
abbrev pub NoneIs : ℕ → List ℕ → Type 0
NoneIs j slots = AllByRecursion (λ n. n ≢ j) slots

pub record HeadFits (p : ProgParts) (head : LoopHead) (heads : List LoopHead) (writes : List ℕ) : Type 0 where
  pub counted : is_counted p head (indices_of heads ++ writes) ≡ true
  pub constants : list_all constant_fits (terms_of p head.to) ≡ true
  pub from_terms : AllByRecursion (λ t. is_fixed_term t ≡ true) (terms_of p head.from)
  pub to_terms : AllByRecursion (λ t. is_fixed_term t ≡ true) (terms_of p head.to)
  pub from_apart : AllByRecursion (λ j. NoneIs j (head.index.number ∷ indices_of heads)) (slots_of_terms (terms_of p head.from))
  pub to_apart : AllByRecursion (λ j. NoneIs j (head.index.number ∷ indices_of heads)) (slots_of_terms (terms_of p head.to))
  pub index_apart : Fresh head.index.number (indices_of heads)

abbrev pub AllFit : ProgParts → List LoopHead → List ℕ → Type 0
AllFit p [] writes = Unit {0}
AllFit p (head ∷ heads) writes = HeadFits p head heads writes × AllFit p heads writes

pub all_none : (ns ms : List ℕ) → apart ns ms ≡ true → AllByRecursion (λ j. NoneIs j ms) ns
all_none [] ms e = tt
all_none (n ∷ ns) ms e =
    (not_in n ms (and_left (not (is_in ms n)) (apart ns ms) e), all_none ns ms (and_right (not (is_in ms n)) (apart ns ms) e))

none_of_first : (ms ws ns : List ℕ) → AllByRecursion (λ j. NoneIs j (ms ++ ws)) ns → AllByRecursion (λ j. NoneIs j ms) ns
none_of_first ms ws = all_mapped (λ j. NoneIs j (ms ++ ws)) (λ j. NoneIs j ms) (λ j h. (all_apart (λ n. n ≢ j) ms ws h).0)

head_fits : (p : ProgParts) (head : LoopHead) (heads : List LoopHead) (writes : List ℕ) → is_counted p head (indices_of heads ++ writes) ≡ true
    → is_fixed p (head.index.number ∷ (indices_of heads ++ writes)) head.from ≡ true → list_all constant_fits (terms_of p head.to) ≡ true
    → HeadFits p head heads writes
head_fits p head heads writes e f c = record {
  counted = e;
  constants = c;
  from_terms = all_of_test is_fixed_term (terms_of p head.from) (and_left _ _ f);
  to_terms = fixed_terms (terms_of p head.to) tests.third;
  from_apart = none_of_first (head.index.number ∷ indices_of heads) writes (slots_of_terms (terms_of p head.from))
      (all_none (slots_of_terms (terms_of p head.from)) (head.index.number ∷ (indices_of heads ++ writes)) (and_right _ _ f));
  to_apart = all_of_two (λ j. head.index.number ≢ j) (λ j. NoneIs j (indices_of heads)) (slots_of_terms (terms_of p head.to))
      (others head.index.number (slots_of_terms (terms_of p head.to)) tests.fourth)
      (none_of_first (indices_of heads) writes (slots_of_terms (terms_of p head.to)) apart_all.1);
  index_apart = fresh_of (indices_of heads) (all_apart (λ n. n ≢ head.index.number) (indices_of heads) writes apart_all.0).0;
}
  where
    tests : Six (is_int_scalar (slice_get p.scalars head.index.number)) (same_type (type_of p head.to) Int)
        (list_all is_bound_term (terms_of p head.to)) (not (is_in (slots_of_terms (terms_of p head.to)) head.index.number))
        (apart (head.index.number ∷ slots_of_terms (terms_of p head.to)) (indices_of heads ++ writes))
        (((head.step == 1) && not head.inclusive) || (is_small_constant head.to && (nat_le 1 head.step && nat_le head.step most_counted)))
    tests = six _ _ _ _ _ _ e

    apart_all : AllByRecursion (λ j. NoneIs j (indices_of heads ++ writes)) (head.index.number ∷ slots_of_terms (terms_of p head.to))
    apart_all = all_none (head.index.number ∷ slots_of_terms (terms_of p head.to)) (indices_of heads ++ writes) tests.fifth

    fresh_of : (ns : List ℕ) → NoneIs head.index.number ns → Fresh head.index.number ns
    fresh_of [] h = tt
    fresh_of (n ∷ ns) h = ((λ same. h.0 (sym same)), fresh_of ns h.1)

pub all_fit : (p : ProgParts) (heads : List LoopHead) (writes : List ℕ) → is_nest p heads writes ≡ true → begins_fixed p heads writes ≡ true
    → list_all constant_fits (flat_map (λ head. terms_of p head.to) heads) ≡ true → AllFit p heads writes
all_fit p [] writes e f c = tt
all_fit p (head ∷ heads) writes e f c =
    let both : (list_all constant_fits (terms_of p head.to) && list_all constant_fits (flat_map (λ head. terms_of p head.to) heads)) ≡ true =
    sym (list_all-append constant_fits (terms_of p head.to) (flat_map (λ head. terms_of p head.to) heads)) ∙ c in (
      head_fits p head heads writes (and_left _ (is_nest p heads writes) e) (and_left _ (begins_fixed p heads writes) f) (and_left _ _ both),
      all_fit p heads writes (and_right (is_counted p head (indices_of heads ++ writes)) (is_nest p heads writes) e) (and_right _ (begins_fixed p heads writes) f) (and_right _ _ both),
    )

pub all_apart_of : (p : ProgParts) (heads : List LoopHead) (writes : List ℕ) → AllFit p heads writes → Apart (indices_of heads)
all_apart_of p [] writes f = tt
all_apart_of p (head ∷ heads) writes f = (f.0.index_apart, all_apart_of p heads writes f.1)

all_heads_fixed : (cx : Context) (heads : List LoopHead) (writes : List ℕ) → AllFit cx.program heads writes → AllByRecursion (HeadIsFixed cx) heads
all_heads_fixed cx [] writes f = tt
all_heads_fixed cx (head ∷ heads) writes f = ((f.0.from_terms, f.0.to_terms), all_heads_fixed cx heads writes f.1)

-- ---- tuples and ends depend on the scalars of the bounds alone

abbrev slots_in_heads : ProgParts → List LoopHead → List ℕ
slots_in_heads p heads = slots_of_terms (flat_map (terms_of_head p) heads)

-- the same value but for the indices
abbrev ReadAlike : (ℕ → ℤ) → (ℕ → ℤ) → List LoopHead → List ℕ → Type 0
ReadAlike read other heads slots = AllByRecursion (λ j. NoneIs j (indices_of heads) → read j ≡ other j) slots

alike_now : (read other : ℕ → ℤ) (ns slots : List ℕ) → AllByRecursion (λ j. NoneIs j ns → read j ≡ other j) slots → AllByRecursion (λ j. NoneIs j ns) slots
    → AllByRecursion (λ n. read n ≡ other n) slots
alike_now read other ns [] h f = tt
alike_now read other ns (j ∷ slots) h f = (h.0 f.0, alike_now read other ns slots h.1 f.1)

with_index_alike : (read other : ℕ → ℤ) (i : ℕ) (v : ℤ) (ns slots : List ℕ) → AllByRecursion (λ j. NoneIs j (i ∷ ns) → read j ≡ other j) slots
    → AllByRecursion (λ j. NoneIs j ns → with_value i v read j ≡ with_value i v other j) slots
with_index_alike read other i v ns [] h = tt
with_index_alike read other i v ns (j ∷ slots) h = (at_test (j == i) refl, with_index_alike read other i v ns slots h.1)
  where
    at_test : (b : Bool) → (j == i) ≡ b → NoneIs j ns → (if b then v else read j) ≡ (if b then v else other j)
    at_test true e f = refl
    at_test false e f = h.0 ((λ same. true≢false (sym (eq-eqb j i (sym same)) ∙ e)), f)

module _ (p : ProgParts) (writes : List ℕ) where
  values_alike : (read other : ℕ → ℤ) (head : LoopHead) (heads : List LoopHead) → HeadFits p head heads writes
      → ReadAlike read other (head ∷ heads) (slots_in_heads p (head ∷ heads))
      → (bound_value read head.from ≡ bound_value other head.from) × (bound_value read head.to ≡ bound_value other head.to)
  values_alike read other head heads f h =
      let here : _ = slots_split (λ j. NoneIs j (indices_of (head ∷ heads)) → read j ≡ other j) (terms_of_head p head) (flat_map (terms_of_head p) heads) h in
      let both : _ = slots_split (λ j. NoneIs j (indices_of (head ∷ heads)) → read j ≡ other j) (terms_of p head.from) (terms_of p head.to) here.0 in (
        bound_same p read other head.from (alike_now read other (indices_of (head ∷ heads)) (slots_of_terms (terms_of p head.from)) both.0 f.from_apart),
        bound_same p read other head.to (alike_now read other (indices_of (head ∷ heads)) (slots_of_terms (terms_of p head.to)) both.1 f.to_apart),
      )

  inner_alike : (read other : ℕ → ℤ) (head : LoopHead) (heads : List LoopHead) → ReadAlike read other (head ∷ heads) (slots_in_heads p (head ∷ heads))
      → (v : ℤ) → ReadAlike (with_value head.index.number v read) (with_value head.index.number v other) heads (slots_in_heads p heads)
  inner_alike read other head heads h v =
      with_index_alike read other head.index.number v (indices_of heads) (slots_in_heads p heads)
      (slots_split (λ j. NoneIs j (indices_of (head ∷ heads)) → read j ≡ other j) (terms_of_head p head) (flat_map (terms_of_head p) heads) h).1

  -- the values of the index
  values_same : (read other : ℕ → ℤ) (head : LoopHead) (from : bound_value read head.from ≡ bound_value other head.from)
      (to : bound_value read head.to ≡ bound_value other head.to) → index_values read head ≡ index_values other head
  values_same read other head from to =
      λ i. map (λ k. wrap Int (from i) +ℤ pos (k * head.step)) (range_with_len 0 (turn_count (wrap Int (from i)) (wrap Int (to i)) head.inclusive head.step))

  last_same : (read other : ℕ → ℤ) (head : LoopHead) (from : bound_value read head.from ≡ bound_value other head.from)
      (to : bound_value read head.to ≡ bound_value other head.to)
      → index_in_turn read head (turns_by read head) ≡ index_in_turn other head (turns_by other head)
  last_same read other head from to =
      λ i. wrap Int (from i) +ℤ pos (turn_count (wrap Int (from i)) (wrap Int (to i)) head.inclusive head.step * head.step)

  pub tuples_same : (read other : ℕ → ℤ) (heads : List LoopHead) → AllFit p heads writes → ReadAlike read other heads (slots_in_heads p heads)
      → tuples read heads ≡ tuples other heads
  tuples_same read other [] f h = refl
  tuples_same read other (head ∷ heads) f h =
      let bounds : _ = values_alike read other head heads f.0 h in
      let inner : (v : ℤ) → tuples (with_value head.index.number v read) heads ≡ tuples (with_value head.index.number v other) heads =
      λ v. tuples_same (with_value head.index.number v read) (with_value head.index.number v other) heads f.1 (inner_alike read other head heads h v) in
      λ i. flat_map (λ v. map (λ vs. v ∷ vs) (inner v i)) (values_same read other head bounds.0 bounds.1 i)

  pub ends_same : (read other : ℕ → ℤ) (heads : List LoopHead) → AllFit p heads writes → ReadAlike read other heads (slots_in_heads p heads)
      → ends read heads ≡ ends other heads
  ends_same read other [] f h = refl
  ends_same read other (head ∷ heads) f h =
      let bounds : _ = values_alike read other head heads f.0 h in
      let inner : (v : ℤ) → ends (with_value head.index.number v read) heads ≡ ends (with_value head.index.number v other) heads =
      λ v. ends_same (with_value head.index.number v read) (with_value head.index.number v other) heads f.1 (inner_alike read other head heads h v) in
      λ i. Some (last_same read other head bounds.0 bounds.1 i) ∷ latest (map (λ v. inner v i) (values_same read other head bounds.0 bounds.1 i))

-- ---- the length of tuples; and where there is a tuple, each index has an end

abbrev pub Full : ℕ → List (List ℤ) → Type 0
Full n ts = AllByRecursion (λ vs. length vs ≡ n) ts

pub full_behind : (v : ℤ) (n : ℕ) (ts : List (List ℤ)) → Full n ts → Full (suc n) (map (λ vs. v ∷ vs) ts)
full_behind v n [] h = tt
full_behind v n (vs ∷ ts) h = ((let l : length vs ≡ n = h.0 in omega (arith, l)), full_behind v n ts h.1)

pub tuples_full : (read : ℕ → ℤ) (heads : List LoopHead) → Full (length heads) (tuples read heads)
tuples_full read [] = (refl, tt)
tuples_full read (head ∷ heads) = of_values (λ v. tuples_full (with_value head.index.number v read) heads) (index_values read head)
  where
    of_values : ((v : ℤ) → Full (length heads) (tuples (with_value head.index.number v read) heads)) → (vals : List ℤ)
        → Full (suc (length heads)) (flat_map (λ v. map (λ vs. v ∷ vs) (tuples (with_value head.index.number v read) heads)) vals)
    of_values inner [] = tt
    of_values inner (v ∷ vals) = all_together (λ vs. length vs ≡ suc (length heads)) (map (λ vs. v ∷ vs) (tuples (with_value head.index.number v read) heads)) _
        (full_behind v (length heads) (tuples (with_value head.index.number v read) heads) (inner v)) (of_values inner vals)

abbrev pub Settled : List ℕ → List (List ℤ) → List (Option ℤ) → Type 0
Settled slots ts os = (ts ≡ []) ⊎ Overrides slots os

module _ (heads : List LoopHead) (apart_all : Apart (indices_of heads)) (inner_tuples : ℤ → List (List ℤ)) (inner_ends : ℤ → List (Option ℤ))
    (inner : (v : ℤ) → Settled (indices_of heads) (inner_tuples v) (inner_ends v)) where
  pub values_settled : (vals : List ℤ) → Settled (indices_of heads) (flat_map (λ v. map (λ vs. v ∷ vs) (inner_tuples v)) vals) (latest (map inner_ends vals))
  values_settled [] = inl refl
  values_settled (v ∷ vals) = at_both (inner v) (values_settled vals)
    where
      at_both : Settled (indices_of heads) (inner_tuples v) (inner_ends v)
          → Settled (indices_of heads) (flat_map (λ v. map (λ vs. v ∷ vs) (inner_tuples v)) vals) (latest (map inner_ends vals))
          → Settled (indices_of heads) (map (λ vs. v ∷ vs) (inner_tuples v) ++ flat_map (λ v. map (λ vs. v ∷ vs) (inner_tuples v)) vals)
          (later (inner_ends v) (latest (map inner_ends vals)))
      at_both (inr over) rest = inr (earlier_overrides (indices_of heads) (inner_ends v) (latest (map inner_ends vals)) apart_all over)
      at_both (inl none) (inr over) = inr (later_overrides (indices_of heads) (inner_ends v) (latest (map inner_ends vals)) apart_all over)
      at_both (inl none) (inl more) = inl (ap (λ ts. map (λ vs. v ∷ vs) ts ++ flat_map (λ v. map (λ vs. v ∷ vs) (inner_tuples v)) vals) none ∙ more)

settled_first : (i : ℕ) (slots : List ℕ) (v : ℤ) (ts : List (List ℤ)) (os : List (Option ℤ)) → Fresh i slots → Settled slots ts os → Settled (i ∷ slots) ts (Some v ∷ os)
settled_first i slots v ts os f (inl none) = inl none
settled_first i slots v ts os f (inr over) = inr (first_overrides i slots v os f over)

pub nest_settled : (read : ℕ → ℤ) (heads : List LoopHead) → Apart (indices_of heads) → Settled (indices_of heads) (tuples read heads) (ends read heads)
nest_settled read [] f = inr (λ a xs. refl)
nest_settled read (head ∷ heads) f =
    settled_first head.index.number (indices_of heads) _ _ _ f.0
    (values_settled heads f.1 (λ v. tuples (with_value head.index.number v read) heads) (λ v. ends (with_value head.index.number v read) heads)
    (λ v. nest_settled (with_value head.index.number v read) heads f.1) (index_values read head))

-- ---- folds

-- what follows a step that goes on, by the state in which it does
pub after_next : {X : Type 0} (r : Step X Flow) (f g : Run X Flow) → ((t : State X) → r ≡ Gave Next t → f t ≡ g t)
    → and_then r (λ flow. after flow f) ≡ and_then r (λ flow. after flow g)
after_next (Gave Next t) f g k = k t refl
after_next (Gave (Returned v) t) f g k = refl
after_next (Ended e t) f g k = refl

module _ {X : Type 0} (body : Run X Flow) where
  pub for_each_append : (slots : List ℕ) (ts us : List (List ℤ)) (s : State X)
      → for_each slots (ts ++ us) body s ≡ then_run (for_each slots ts body) (for_each slots us body) s
  for_each_append slots [] us s = refl
  for_each_append slots (vs ∷ ts) us s =
      same_after (body (at_tuple slots vs s)) (for_each slots (ts ++ us) body) (then_run (for_each slots ts body) (for_each slots us body)) (for_each_append slots ts us)
      ∙ sym (flows_associate (body (at_tuple slots vs s)) (for_each slots ts body) (for_each slots us body))

  -- an index that the state has already
  pub for_each_behind : (i : ℕ) (slots : List ℕ) (v : ℤ) (ts : List (List ℤ)) (s : State X) → Fresh i slots → KeepsScalar {X = X} i body
      → slice_get s.scalars i ≡ Some v → for_each (i ∷ slots) (map (λ vs. v ∷ vs) ts) body s ≡ for_each slots ts body s
  for_each_behind i slots v [] s f k e = refl
  for_each_behind i slots v (vs ∷ ts) s f k e =
      ap (λ xs. then_run body (for_each (i ∷ slots) (map (λ vs. v ∷ vs) ts) body) (record s { scalars = set_where slots (map Some vs) xs })) (set_same s.scalars i v e)
      ∙ after_next (body (at_tuple slots vs s)) (for_each (i ∷ slots) (map (λ vs. v ∷ vs) ts) body) (for_each slots ts body) (λ t went.
      for_each_behind i slots v ts t f k
      (subst (λ (r : Step X Flow). slice_get (state_of r).scalars i ≡ slice_get (at_tuple slots vs s).scalars i) went (k (at_tuple slots vs s))
      ∙ where_other slots (map Some vs) s.scalars i (fresh_flipped i slots f) ∙ e))

  -- the fold, and the indices as they are left
  abbrev pub fold_over : List ℕ → List (List ℤ) → List (Option ℤ) → Run X Flow
  fold_over slots ts os = then_run (for_each slots ts body) (leaving slots os)

  -- what the indices were before is of no account but where they aren't set
  pub fold_from : (slots : List ℕ) (ts : List (List ℤ)) (a os : List (Option ℤ)) (s : State X) → Apart slots → Full (length slots) ts → Settled slots ts os
      → fold_over slots ts os (record s { scalars = set_where slots a s.scalars }) ≡ fold_over slots ts (later a os) s
  fold_from slots [] a os s f l settled = ap (λ xs. Gave Next (record s { scalars = xs })) (set_later slots a os s.scalars f)
  fold_from slots (vs ∷ ts) a os s f l (inl none) = cc
  fold_from slots (vs ∷ ts) a os s f l (inr over) =
      ap (λ xs. and_then (then_run body (for_each slots ts body) (record s { scalars = xs })) (λ flow. after flow (leaving slots os)))
      (tuple_overrides slots vs f l.0 a s.scalars)
      ∙ same_after (then_run body (for_each slots ts body) (at_tuple slots vs s)) (leaving slots os) (leaving slots (later a os)) (λ t.
      ap (λ xs. Gave Next (record t { scalars = xs })) (sym (over a t.scalars) ∙ set_later slots a os t.scalars f))

free_of : (X : Type 0) (slot : ℕ) (ns : List ℕ) → NoneIs slot ns → AllByRecursion (IsFree (λ (s : State X). slice_get s.scalars slot)) ns
free_of X slot [] f = tt
free_of X slot (n ∷ ns) f = ((λ s v. set_other s.scalars n slot v f.0), free_of X slot ns f.1)

lengths_free : (X : Type 0) (ns : List ℕ) → AllByRecursion (IsFree (λ (s : State X). length s.scalars)) ns
lengths_free X [] = tt
lengths_free X (n ∷ ns) = ((λ s v. length-set s.scalars n v), lengths_free X ns)

first_turn : (from : ℤ) (step : ℕ) → from ≡ from +ℤ pos (0 * step)
first_turn from step = grind (arith, ints)

-- ---- a loop of the nest

module _ {X : Type 0} (h : Handlers X) (cx : Context) (body : Run X Flow) (writes : List ℕ) where
  module _ (head : LoopHead) (heads : List LoopHead) (fits : AllFit cx.program (head ∷ heads) writes) (read : ℕ → ℤ)
      (long : (s : State X) → length (state_of (body s)).scalars ≡ length s.scalars)
      (keeps_index : KeepsScalar {X = X} head.index.number body)
      (keeps_bounds : AllByRecursion (λ slot. KeepsScalar {X = X} slot body) (slots_in_heads cx.program heads)) where
    abbrev index : ℕ
    index = head.index.number

    abbrev inner : List ℕ
    inner = indices_of heads

    abbrev value : ℕ → ℤ
    value k = index_in_turn read head k

    abbrev values : ℕ → ℕ → List ℤ
    values k n = map value (range_with_len k n)

    abbrev tuples_at : ℤ → List (List ℤ)
    tuples_at v = tuples (with_value index v read) heads

    abbrev ends_at : ℤ → List (Option ℤ)
    ends_at v = ends (with_value index v read) heads

    abbrev all_tuples : List ℤ → List (List ℤ)
    all_tuples vals = flat_map (λ v. map (λ vs. v ∷ vs) (tuples_at v)) vals

    abbrev all_ends : List ℤ → List (Option ℤ)
    all_ends vals = latest (map ends_at vals)

    -- the nest in it, as a fold
    abbrev folded_inner : Run X Flow
    folded_inner = λ t. folded heads (tuples (scalar_in t) heads) (ends (scalar_in t) heads) body t

    -- the scalars of the bounds are as at the start, the indices apart
    abbrev ReadsAs : State X → List ℕ → Type 0
    ReadsAs t slots = AllByRecursion (λ j. NoneIs j (index ∷ inner) → scalar_in t j ≡ read j) slots

    alike_at : (t : State X) (v : ℤ) → slice_get t.scalars index ≡ Some v → (slots : List ℕ) → ReadsAs t slots
        → AllByRecursion (λ j. NoneIs j inner → scalar_in t j ≡ with_value index v read j) slots
    alike_at t v e [] r = tt
    alike_at t v e (j ∷ slots) r = (at_test (j == index) refl, alike_at t v e slots r.1)
      where
        at_test : (b : Bool) → (j == index) ≡ b → NoneIs j inner → scalar_in t j ≡ (if b then v else read j)
        at_test true g f = ap (λ n. unwrap_or (slice_get t.scalars n) (pos 0)) (eqb-true j index g) ∙ ap (λ o. unwrap_or o (pos 0)) e
        at_test false g f = r.0 ((λ same. true≢false (sym (eq-eqb j index (sym same)) ∙ g)), f)

    all_full : (vals : List ℤ) → Full (length (index ∷ inner)) (all_tuples vals)
    all_full [] = tt
    all_full (v ∷ vals) = all_together (λ vs. length vs ≡ length (index ∷ inner)) (map (λ vs. v ∷ vs) (tuples_at v)) (all_tuples vals)
        (full_behind v (length inner) (tuples_at v) (lengths_are heads (tuples_at v) (tuples_full (with_value index v read) heads))) (all_full vals)
      where
        lengths_are : (heads : List LoopHead) (ts : List (List ℤ)) → Full (length heads) ts → Full (length (indices_of heads)) ts
        lengths_are heads ts = subst (λ n. Full n ts) (same_length heads)
          where
            same_length : (heads : List LoopHead) → length heads ≡ length (indices_of heads)
            same_length [] = refl
            same_length (x ∷ xs) = ap suc (same_length xs)

    apart_inner : Apart inner
    apart_inner = all_apart_of cx.program heads writes fits.1

    fresh : Fresh index inner
    fresh = fits.0.index_apart

    all_settled : (last : ℤ) (vals : List ℤ) → Settled (index ∷ inner) (all_tuples vals) (Some last ∷ all_ends vals)
    all_settled last vals = settled_first index inner last (all_tuples vals) (all_ends vals) fresh
        (values_settled heads apart_inner tuples_at ends_at (λ v. nest_settled (with_value index v read) heads apart_inner) vals)

    inner_is : (t : State X) (v : ℤ) → slice_get t.scalars index ≡ Some v → ReadsAs t (slots_in_heads cx.program heads)
        → folded_inner t ≡ fold_over body inner (tuples_at v) (ends_at v) t
    inner_is t v e r =
        let alike : _ = alike_at t v e (slots_in_heads cx.program heads) r in
        λ i. fold_over body inner (tuples_same cx.program writes (scalar_in t) (with_value index v read) heads fits.1 alike i)
        (ends_same cx.program writes (scalar_in t) (with_value index v read) heads fits.1 alike i) t

    for_each_keeps : (ts : List (List ℤ)) (slot : ℕ) → NoneIs slot (index ∷ inner) → KeepsScalar {X = X} slot body → KeepsScalar {X = X} slot (for_each (index ∷ inner) ts body)
    for_each_keeps ts slot f k = left_for_each (λ (s : State X). slice_get s.scalars slot) (index ∷ inner) (free_of X slot (index ∷ inner) f) ts body k

    for_each_long : (ts : List (List ℤ)) (t w : State X) → for_each (index ∷ inner) ts body t ≡ Gave Next w → length w.scalars ≡ length t.scalars
    for_each_long ts t w went = subst (λ (r : Step X Flow). length (state_of r).scalars ≡ length t.scalars) went
        (left_for_each (λ (s : State X). length s.scalars) (index ∷ inner) (lengths_free X (index ∷ inner)) ts body long t)

    reads_then : (ts : List (List ℤ)) (t w : State X) → for_each (index ∷ inner) ts body t ≡ Gave Next w → (os : List (Option ℤ)) (slots : List ℕ)
        → AllByRecursion (λ slot. KeepsScalar {X = X} slot body) slots → ReadsAs t slots
        → ReadsAs (record w { scalars = set_where (index ∷ inner) os w.scalars }) slots
    reads_then ts t w went os [] k r = tt
    reads_then ts t w went os (j ∷ slots) k r = (
      (λ f. ap (λ o. unwrap_or o (pos 0)) (where_other (index ∷ inner) os w.scalars j f
          ∙ subst (λ (r : Step X Flow). slice_get (state_of r).scalars j ≡ slice_get t.scalars j) went (for_each_keeps ts j f k.0 t)) ∙ r.0 f),
      reads_then ts t w went os slots k.1 r.1,
    )

    abbrev first : ℤ
    first = wrap Int (bound_value read head.from)

    next_turn : ℕ → ℕ → Run X Flow
    next_turn n k = set_scalar index (value (suc k)) >>= (λ u. repeated head n (suc k) first folded_inner)

    turns_fold : (n k m : ℕ) → k + n ≡ m → (t : State X) → ReadsAs t (slots_in_heads cx.program heads) → Exists t (index ∷ inner) → slice_get t.scalars index ≡ Some (value k)
        → repeated head n k first folded_inner t ≡ fold_over body (index ∷ inner) (all_tuples (values k n)) (Some (value m) ∷ all_ends (values k n)) t
    unfolding next_turn
    turns_fold zero k m e t r there at =
        ap (λ xs. Gave Next (record t { scalars = xs }))
        (sym (where_none inner (slice_set t.scalars index (value m)) ∙ set_same t.scalars index (value m) (at ∙ ap (λ j. Some (value j)) (let q : k ≡ m = omega (arith, e) in q))))
    turns_fold (suc n) k m e t r there at =
        let here : List (List ℤ) = map (λ vs. value k ∷ vs) (tuples_at (value k)) in
        let rest : List (List ℤ) = all_tuples (values (suc k) n) in
        let left : List (Option ℤ) = Some (value m) ∷ later (ends_at (value k)) (all_ends (values (suc k) n)) in
        ap (λ r. and_then r (λ flow. after flow (next_turn n k))) (inner_is t (value k) at r)
        ∙ flows_associate (for_each inner (tuples_at (value k)) body t) (leaving inner (ends_at (value k))) (next_turn n k)
        ∙ ap (λ r. and_then r (λ flow. after flow (then_run (leaving inner (ends_at (value k))) (next_turn n k))))
        (sym (for_each_behind body index inner (value k) (tuples_at (value k)) t fresh keeps_index at))
        ∙ after_next (for_each (index ∷ inner) here body t) (then_run (leaving inner (ends_at (value k))) (next_turn n k)) (fold_over body (index ∷ inner) rest left) (λ w went.
        let set : List (Option ℤ) = Some (value (suc k)) ∷ ends_at (value k) in
        let long : length w.scalars ≡ length t.scalars = for_each_long here t w went in
        ap (λ xs. repeated head n (suc k) first folded_inner (record w { scalars = xs })) (sym (where_swaps inner (ends_at (value k)) w.scalars index (value (suc k)) fresh))
        ∙ turns_fold n (suc k) m (let q : suc k + n ≡ m = omega (arith, e) in q) (record w { scalars = set_where (index ∷ inner) set w.scalars })
        (reads_then here t w went set (slots_in_heads cx.program heads) keeps_bounds r)
        (exist_by_length t (record w { scalars = set_where (index ∷ inner) set w.scalars }) (index ∷ inner) (where_length (index ∷ inner) set w.scalars ∙ long) there)
        (where_other inner (ends_at (value k)) (slice_set w.scalars index (value (suc k))) index (fresh_flipped index inner fresh)
        ∙ set_there w.scalars index (value (suc k)) (some_by_length t.scalars w.scalars index long there.0))
        ∙ fold_from body (index ∷ inner) rest set (Some (value m) ∷ all_ends (values (suc k) n)) w (fresh, apart_inner) (all_full (values (suc k) n)) (all_settled (value m) (values (suc k) n)))
        ∙ sym (flows_associate (for_each (index ∷ inner) here body t) (for_each (index ∷ inner) rest body) (leaving (index ∷ inner) left))
        ∙ ap (λ r. and_then r (λ flow. after flow (leaving (index ∷ inner) left))) (sym (for_each_append body (index ∷ inner) here rest t))
        ∙ ap (λ j. fold_over body (index ∷ inner) (here ++ all_tuples (values j n)) (Some (value m) ∷ later (ends_at (value k)) (all_ends (values j n))) t)
        (let q : suc k ≡ k + 1 = omega arith in q)

    -- the loop from the state before it
    module _ (s : State X) (reads : (j : ℕ) → scalar_in s j ≡ read j) (there : Exists s (index ∷ inner)) where
      abbrev begun : State X
      begun = record s { scalars = slice_set s.scalars index first }

      count : ℕ
      count = turns_by read head

      begun_reads : (slots : List ℕ) → AllByRecursion (λ j. NoneIs j (index ∷ inner)) slots → AllByRecursion (λ n. unwrap_or (slice_get begun.scalars n) (pos 0) ≡ read n) slots
      begun_reads [] f = tt
      begun_reads (j ∷ slots) f = (ap (λ o. unwrap_or o (pos 0)) (set_other s.scalars index j first f.0.0) ∙ reads j, begun_reads slots f.1)

      begun_alike : (slots : List ℕ) → ReadsAs begun slots
      begun_alike [] = tt
      begun_alike (j ∷ slots) = ((λ f. ap (λ o. unwrap_or o (pos 0)) (set_other s.scalars index j first f.0) ∙ reads j), begun_alike slots)

      all_reads : (slots : List ℕ) → AllByRecursion (λ n. unwrap_or (slice_get s.scalars n) (pos 0) ≡ read n) slots
      all_reads [] = tt
      all_reads (j ∷ slots) = (reads j, all_reads slots)

      entering_is : entering h cx head s ≡ Gave count begun
      unfolding count
      entering_is =
          ap (λ r. and_then r (λ from. set_scalar index (wrap Int from) >>= (λ u. expr_of h cx head.to >>= (λ to. pure (turn_count (wrap Int from) (wrap Int to) head.inclusive head.step)))))
          (bound_is h cx read s head.from fits.0.from_terms (all_reads (slots_of_terms (terms_of cx.program head.from))))
          ∙ ap (λ r. and_then r (λ to. pure (turn_count first (wrap Int to) head.inclusive head.step)))
          (bound_is h cx read begun head.to fits.0.to_terms (begun_reads (slots_of_terms (terms_of cx.program head.to)) fits.0.to_apart))

      index_is : slice_get begun.scalars index ≡ Some first
      index_is = set_there s.scalars index first there.0

      entry_fold : by_count h cx head folded_inner s ≡ fold_over body (index ∷ inner) (all_tuples (values 0 (turns_by read head))) (Some (value (turns_by read head)) ∷ all_ends (values 0 (turns_by read head))) s
      unfolding count
      entry_fold =
          ap (λ r. and_then r (λ n. scalar index >>= (λ from. repeated head n 0 from folded_inner))) entering_is
          ∙ ap (λ o. repeated head count 0 (unwrap_or o (pos 0)) folded_inner begun) index_is
          ∙ turns_fold count 0 count (let q : 0 + count ≡ count = omega arith in q) begun (begun_alike (slots_in_heads cx.program heads))
          (exist_by_length s begun (index ∷ inner) (length-set s.scalars index first) there) (index_is ∙ ap Some (first_turn first head.step))
          ∙ ap (λ xs. fold_over body (index ∷ inner) (all_tuples (values 0 count)) (Some (value count) ∷ all_ends (values 0 count)) (record s { scalars = xs })) (sym (where_none inner (slice_set s.scalars index first)))
          ∙ fold_from body (index ∷ inner) (all_tuples (values 0 count)) (Some first ∷ []) (Some (value count) ∷ all_ends (values 0 count)) s (fresh, apart_inner)
          (all_full (values 0 count)) (all_settled (value count) (values 0 count))

  -- ---- the nest

  idle_end : (r : Step X Flow) → r ≡ and_then (and_then r (λ flow. after flow (pure Next))) (λ flow. after flow (leaving [] []))
  idle_end (Gave Next t) = refl
  idle_end (Gave (Returned v) t) = refl
  idle_end (Ended e t) = refl

  nest_kept : (heads : List LoopHead) → AllFit cx.program heads writes → (slots : List ℕ) → AllByRecursion (λ j. NoneIs j (indices_of heads)) slots
      → AllByRecursion (λ slot. KeepsScalar {X = X} slot body) slots → AllByRecursion (λ slot. KeepsScalar {X = X} slot (nest h cx heads body)) slots
  nest_kept heads fits [] f k = tt
  nest_kept heads fits (j ∷ slots) f k = (
    left_nest (λ (s : State X). slice_get s.scalars j) h cx heads (all_heads_fixed cx heads writes fits) (free_of X j (indices_of heads) f.0) body k.0,
    nest_kept heads fits slots f.1 k.1,
  )

  nest_fold : (heads : List LoopHead) → AllFit cx.program heads writes → ((s : State X) → length (state_of (body s)).scalars ≡ length s.scalars)
      → AllByRecursion (λ slot. KeepsScalar {X = X} slot body) (indices_of heads)
      → AllByRecursion (λ slot. KeepsScalar {X = X} slot body) (slots_in_heads cx.program heads)
      → (s : State X) → Exists s (indices_of heads)
      → nest h cx heads body s ≡ folded heads (tuples (scalar_in s) heads) (ends (scalar_in s) heads) body s
  nest_fold [] fits long ki ks s there = idle_end (body s)
  nest_fold (head ∷ heads) fits long ki ks s there =
      let split : _ = slots_split (λ slot. KeepsScalar {X = X} slot body) (terms_of_head cx.program head) (flat_map (terms_of_head cx.program) heads) ks in
      let own : _ = slots_split (λ slot. KeepsScalar {X = X} slot body) (terms_of cx.program head.from) (terms_of cx.program head.to) split.0 in
      let inner_nest : Run X Flow = nest h cx heads body in
      let inner_fold : Run X Flow = λ t. folded heads (tuples (scalar_in t) heads) (ends (scalar_in t) heads) body t in
      counted_by_count h cx head inner_nest inner_fold (indices_of heads)
      (λ t all. nest_fold heads fits.1 long ki.1 split.1 t all)
      (left_nest (λ (s : State X). length s.scalars) h cx heads (all_heads_fixed cx heads writes fits.1) (lengths_free X (indices_of heads)) body long)
      (indices_of heads ++ writes) fits.0.counted fits.0.constants
      (nest_kept heads fits.1 (head.index.number ∷ slots_of_terms (terms_of cx.program head.to))
      (fresh_flipped head.index.number (indices_of heads) fits.0.index_apart, all_mapped (λ j. NoneIs j (head.index.number ∷ indices_of heads)) (λ j. NoneIs j (indices_of heads)) (λ j f. f.1) (slots_of_terms (terms_of cx.program head.to)) fits.0.to_apart)
      (ki.0, own.1))
      s (ap (λ (r : Step X ℤ). length (state_of r).scalars) (fixed_is h cx head.from s fits.0.from_terms)) there.0 there.1
      ∙ entry_fold head heads fits (scalar_in s) long ki.0 split.1 s (λ j. refl) there

pub nest_is_fold : (X : Type 0) (h : Handlers X) (cx : Context) (heads : List LoopHead) (writes : List ℕ) (body : Run X Flow) → NestIsFold X h cx heads writes body
nest_is_fold X h cx heads writes body f k s there =
    let kept : _ = all_apart (λ slot. KeepsScalar {X = X} slot body) (indices_of heads) (slots_in_heads cx.program heads) k.kept in
    nest_fold h cx body writes heads (all_fit cx.program heads writes f.counted f.begins f.constants) k.length kept.0 kept.1 s there

not_of_none : (j : ℕ) (ns : List ℕ) → NoneIs j ns → not (is_in ns j) ≡ true
not_of_none j [] f = refl
not_of_none j (n ∷ ns) f = ap (λ b. not (b || is_in ns j)) (ne_eqb n j f.0) ∙ not_of_none j ns f.1

pub tuples_are_known : (p : ProgParts) (heads : List LoopHead) (writes : List ℕ) → TuplesAreKnown p heads writes
tuples_are_known p heads writes f read other h =
    let fits : AllFit p heads writes = all_fit p heads writes f.counted f.begins f.constants in
    let alike : ReadAlike read other heads (slots_in_heads p heads) =
    all_mapped (λ j. not (is_in (indices_of heads) j) ≡ true → read j ≡ other j) (λ j. NoneIs j (indices_of heads) → read j ≡ other j)
    (λ j g none. g (not_of_none j (indices_of heads) none)) (slots_in_heads p heads) h in
    (tuples_same p writes read other heads fits alike, ends_same p writes read other heads fits alike)
