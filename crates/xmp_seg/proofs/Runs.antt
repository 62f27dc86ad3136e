-- The start, the split and the join of seats, and the words at the script's end.
use Rattle.std.proofs.Common.{◌≡◌, ◌≢◌, ℕ, ℤ, zero, suc, ◌+◌, ◌-◌, ◌<◌, ◌≤◌, inl, inr, ◌⊎◌, false, List, [], ◌∷◌, ◌++◌, length, map, set, slice_index, slice_set, slice_get, Option, Some, refl, sym, ap, ◌∙◌, subst, ⊎_elim, arith, FitsSigned, All, le_refl, to_z}
use Rattle.std.proofs.lemmas.Bool.{cases_lt}
use Rattle.std.proofs.lemmas.Option.{same_Some}
use Rattle.std.proofs.lemmas.Int.{to_z-of_z}
use Rattle.std.specs.Int.{w64}
use mathlib.Core.Option.{some, some-ne-none, some-injective}
use lib.ListN.{get_elem?}
use Rattle.atomic_table.specs.Table.{State, Splits, Joins, opening}
use Rattle.atomic_table.proofs.Lists.{at_set, at_snoc}
use Rattle.xmp_script.specs.Script.{Script, IsFree, words_at}
use Rattle.xmp_script.specs.World.{World, Reached, Begun, start, arrivals}
use Rattle.xmp_script.proofs.Orders.{last_words}
use Rattle.xmp_seg.specs.declared.look.Look.{Look}
use Rattle.xmp_seg.specs.Seats.{AreWords}
use Rattle.xmp_seg.specs.Rule.{InRun, IsFor, IsOne, IsWhole, Knows, Ruled, Shows, all_at_start, bits, spent, total, value_behind}
use Rattle.xmp_seg.proofs.Counts.{total_zero}
use Rattle.xmp_seg.proofs.Views.{AtEach, Apart, apart_set, each_set}

-- what a list one longer has and the shorter one hasn't stands at its end
at_end : (l : List Look) (a b : Look) (j : ℕ) → (get_elem? l j ≡ some b → ⊥) → get_elem? (l ++ a ∷ []) j ≡ some b → j ≡ length l
at_end [] a b zero n e = refl
at_end [] a b (suc j) n e = absurd (some-ne-none b (sym e))
at_end (x ∷ xs) a b zero n e = absurd (n e)
at_end (x ∷ xs) a b (suc j) n e = ap suc (at_end xs a b j n e)

-- the first of a run leaves a shorter run
abbrev rest_of : Look → Look
rest_of v = record v { first = suc v.first }

abbrev first_of : Look → Look
first_of v = record v { past = suc v.first }

-- A run of images becomes its first image and the others.
pub splits : (s : Script ℤ) (id : ℕ) (v : Look) → v.first < v.past → Splits (Ruled s) id v (rest_of v) (first_of v)
splits s id v some_there state (fits, more, (w, r, m)) there =
    let left : Look = rest_of v in
    let right : Look = first_of v in
    let vs : List Look = slice_set state.views id left in
    let knows = m.views id v there in
    let in_left : (k : ℕ) → InRun left k → InRun v k = λ k h. let a = h.0 in (omega arith, h.1) in
    let in_right : (k : ℕ) → InRun right k → InRun v k = λ k h. let b = h.1 in (h.0, omega arith) in
    let n : ℕ = slice_index state.words 0 in
    let knows_left : Knows s w n left = (knows.0, knows.1, λ k h. knows.2 k (in_left k h)) in
    let knows_right : Knows s w n right = (omega (arith, knows.0, some_there), knows.1, λ k h. knows.2 k (in_right k h)) in
    let apart_vs : Apart vs = apart_set state.views id v left m.apart there in_left in
    -- the new seat's image is in no other
    let alone : AtEach (λ j u. (k : ℕ) → InRun u k → InRun right k → ⊥) vs = each_set (λ j u. (k : ℕ) → InRun u k → InRun right k → ⊥) state.views id left
    (λ k h h'. let a = h.0 in let b = h'.1 in absurd (omega arith))
    (λ j u ne at k h h'. ne (m.apart j id u v k at there h (in_right k h'))) in (
      fits,
      more,
      (
        w,
        r,
        record {
          count = m.count;
          words = m.words;
          views = λ j u at. ⊎_elim (λ (x : get_elem? vs j ≡ some u). each_set (λ l y. Knows s w n y) state.views id left knows_left (λ l y ne at'. m.views l y at') j u x)
              (λ (e : right ≡ u). subst (λ (y : Look). Knows s w n y) e knows_right) (at_snoc vs right u j at);
          apart = λ j l u t k at at' h h'. ⊎_elim
              (λ (x : get_elem? vs j ≡ some u). ⊎_elim (λ (y : get_elem? vs l ≡ some t). apart_vs j l u t k x y h h')
              (λ (e : right ≡ t). absurd (alone j u x k h (subst (λ (y : Look). InRun y k) (sym e) h'))) (at_snoc vs right t l at'))
              (λ (e : right ≡ u). ⊎_elim (λ (y : get_elem? vs l ≡ some t). absurd (alone l t y k h' (subst (λ (z : Look). InRun z k) (sym e) h)))
              (λ (e' : right ≡ t).
              at_end vs right u j (λ x. alone j u x k h (subst (λ (z : Look). InRun z k) (sym e) h)) at
              ∙ sym (at_end vs right t l (λ x. alone l t x k h' (subst (λ (z : Look). InRun z k) (sym e') h')) at')) (at_snoc vs right t l at'))
              (at_snoc vs right u j at);
        },
      ),
    )

-- the run of two neighbours
abbrev joined : Look → Look → Look
joined v u = record v { past = u.past }

-- Two neighbouring runs that stand alike become one, and the other seat has none.
pub joins : (s : Script ℤ) (id other : ℕ) (v u : Look) → v.past ≡ u.first → v.phase ≡ u.phase → v.place ≡ u.place → v.arrived ≡ u.arrived → Joins (Ruled s) id v other u (joined v u) spent
joins s id other v u next phase place arrived state (fits, more, (w, r, m)) there apart_seats there' =
    let both : Look = joined v u in
    let views : List Look = state.views in
    let n : ℕ = slice_index state.words 0 in
    let other_there : get_elem? views other ≡ some u = ⊎_elim (λ (x : (other ≡ id) × (both ≡ u)). absurd (apart_seats x.0)) (λ (x : (other ≢ id) × (get_elem? views other ≡ some u)). x.1) (at_set views id other both u there') in
    let knows = m.views id v there in
    let knows' = m.views other u other_there in
    let in_one : (k : ℕ) → InRun both k → InRun v k ⊎ InRun u k = λ k h. elim (cases_lt k v.past) [ inl lt ↦ inl (h.0, lt) | inr ge ↦ inr (omega (arith, ge, next), h.1) ] in
    let knows_both : Knows s w n both = (
      knows'.0,
      knows.1,
      λ k h. ⊎_elim (λ (x : InRun v k). knows.2 k x) (λ (x : InRun u k). let y = knows'.2 k x in (phase ∙ y.0, place ∙ y.1, arrived ∙ y.2)) (in_one k h),
    ) in
    let Which : ℕ → Look → Type 0 = λ j x. (spent ≡ x) ⊎ (((j ≡ id) × (both ≡ x)) ⊎ ((j ≢ id) × (j ≢ other) × (get_elem? views j ≡ some x))) in
    let which : AtEach Which (set (set views id both) other spent) = λ j x at. ⊎_elim
    (λ (y : (j ≡ other) × (spent ≡ x)). inl y.1)
    (λ (y : (j ≢ other) × (get_elem? (set views id both) j ≡ some x)). inr (⊎_elim
    (λ (z : (j ≡ id) × (both ≡ x)). inl z)
    (λ (z : (j ≢ id) × (get_elem? views j ≡ some x)). inr (z.0, y.0, z.1))
    (at_set views id j both x y.1)))
    (at_set (set views id both) other j spent x at) in
    let none : (x : Look) (k : ℕ) → spent ≡ x → InRun x k → ⊥ = λ x k e h. let b = (subst (λ (y : Look). InRun y k) (sym e) h).1 in absurd (omega arith) in
    -- an old seat shares no image with the joined run
    let not_both : (j : ℕ) (x : Look) (k : ℕ) → j ≢ id → j ≢ other → get_elem? views j ≡ some x → InRun x k → InRun both k → ⊥ =
    λ j x k ne ne' at h h'. ⊎_elim (λ (y : InRun v k). ne (m.apart j id x v k at there h y)) (λ (y : InRun u k). ne' (m.apart j other x u k at other_there h y)) (in_one k h') in (
      fits,
      more,
      (
        w,
        r,
        record {
          count = m.count;
          words = m.words;
          views = λ j x at. ⊎_elim
              (λ (e : spent ≡ x). subst (λ (y : Look). Knows s w n y) e (omega arith, omega arith, λ k h. absurd (none spent k refl h)))
              (λ y. ⊎_elim (λ (z : (j ≡ id) × (both ≡ x)). subst (λ (y' : Look). Knows s w n y') z.1 knows_both)
              (λ (z : (j ≢ id) × (j ≢ other) × (get_elem? views j ≡ some x)). m.views j x z.2) y)
              (which j x at);
          apart = λ j l x t k at at' h h'. ⊎_elim
              (λ (e : spent ≡ x). absurd (none x k e h))
              (λ y. ⊎_elim
              (λ (e' : spent ≡ t). absurd (none t k e' h'))
              (λ y'. ⊎_elim
              (λ (z : (j ≡ id) × (both ≡ x)). ⊎_elim
              (λ (z' : (l ≡ id) × (both ≡ t)). z.0 ∙ sym z'.0)
              (λ (z' : (l ≢ id) × (l ≢ other) × (get_elem? views l ≡ some t)). absurd (not_both l t k z'.0 z'.1 z'.2 h' (subst (λ (a : Look). InRun a k) (sym z.1) h)))
              y')
              (λ (z : (j ≢ id) × (j ≢ other) × (get_elem? views j ≡ some x)). ⊎_elim
              (λ (z' : (l ≡ id) × (both ≡ t)). absurd (not_both j x k z.0 z.1 z.2 h (subst (λ (a : Look). InRun a k) (sym z'.1) h')))
              (λ (z' : (l ≢ id) × (l ≢ other) × (get_elem? views l ≡ some t)). m.apart j l x t k z.2 z'.2 h h')
              y')
              y)
              (which l t at'))
              (which j x at);
        },
      ),
    )

-- the bits of a list of values
bits_row : (l : List ℤ) (f : ℕ → ℤ) → AreWords l f → All (λ z. FitsSigned w64 z) l → (e : ℕ) → e < length (map bits l) → (slice_index (map bits l) e ≡ bits (f e)) × FitsSigned w64 (f e)
bits_row [] f are fit e lt = absurd (omega arith)
bits_row (z ∷ l) f are fit zero lt =
    let is : z ≡ f 0 = same_Some z (f 0) (are 0 (omega arith)) in
    (ap bits is, subst (λ (x : ℤ). FitsSigned w64 x) is (fit 0 z (omega arith)))
bits_row (z ∷ l) f are fit (suc e) lt = bits_row l (λ x. f (suc x)) (λ x lx. are (suc x) (omega arith)) (λ x d lx. fit (suc x) d (omega arith)) e (omega arith)

length_bits : (l : List ℤ) → length (map bits l) ≡ length l
length_bits [] = refl
length_bits (z ∷ l) = ap (λ n. suc n) (length_bits l)

length_rest : (l : List ℤ) → length (0 ∷ map bits l) - 1 ≡ length l
length_rest l = let h = length_bits l in omega arith

-- The start: no image has arrived, and the words are the start words.
pub begins : (s : Script ℤ) (words : List ℤ) → IsFor (length words) s → AreWords words s.start → All (λ z. FitsSigned w64 z) words → Ruled s (opening (0 ∷ map bits words) [] (all_at_start s))
begins s words fits are fit = (
  subst (λ (n : ℕ). IsFor n s) (sym (length_rest words)) fits,
  omega arith,
  (
    start s,
    Begun,
    record {
      count = sym (total_zero s.images);
      words = λ e lt. bits_row words s.start are fit e (omega arith);
      views = λ j v at. only_one j v at;
      apart = λ j l v u k at at' h h'. zero_only j v at ∙ sym (zero_only l u at');
    },
  ),
) where
  only_one : (j : ℕ) (v : Look) → get_elem? (all_at_start s ∷ []) j ≡ some v → Knows s (start s) 0 v
  only_one zero v at = subst (λ (x : Look). Knows s (start s) 0 x) (some-injective (all_at_start s) v at) (le_refl s.images, omega arith, λ k h. (refl, refl, refl))
  only_one (suc j) v at = absurd (some-ne-none v (sym at))

  zero_only : (j : ℕ) (v : Look) → get_elem? (all_at_start s ∷ []) j ≡ some v → j ≡ 0
  zero_only zero v at = refl
  zero_only (suc j) v at = absurd (some-ne-none v (sym at))

-- The end: with one seat of all images at the script's end, the words are the final ones.
pub ends : (s : Script ℤ) (state : State (Unit {0}) Look) (id e : ℕ) (v : Look) → Ruled s state → get_elem? state.views id ≡ some v → IsWhole s v → suc e < length state.words →
    value_behind state.words e ≡ words_at s s.phases e
ends s state id e v (fits, more, (w, r, m)) there whole lt =
    let knows = m.views id v there in
    let value = m.words e lt in
    let last : w.words e ≡ words_at s s.phases e = last_words s w e fits.free r fits.some_image (λ k lk.
    sym (knows.2 k (omega (arith, whole.0), omega (arith, whole.1, lk))).0 ∙ whole.2) in
    ap (λ n. to_z w64 n) value.0 ∙ to_z-of_z w64 (w.words e) value.1 ∙ last
