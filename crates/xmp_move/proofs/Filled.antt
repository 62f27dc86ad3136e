-- Each needed cell is filled exactly once.
use Rattle.std.proofs.Common.{◌≡◌, ℕ, ◌+◌, inl, inr, ℤ, Bool, true, false, List, [], ◌∷◌, refl, sym, ◌∙◌, ap, arith, map, cond}
use Rattle.std.specs.Prelude.{filter, ◌&&◌, ◌==◌}
use Rattle.std.specs.List.{count_by}
use Rattle.std.proofs.lemmas.Bool.Decides.{nat_tests}
use Rattle.std.proofs.lemmas.List.Sums.{sum_by-cons}
use Rattle.xmp_move.specs.Ways.{Pair, Ways, due, fills}
use Rattle.xmp_move.specs.Stores.{IsIn}
use Rattle.xmp_move.specs.Whole.{IsNeeded, IsGiven, AreGiven, IsDistinct, filled_by, needed_slots, HasRoom}

abbrev one_if : Bool → ℕ
one_if b = cond b 1 0

count_cons : {A : Type 0} (q : A → Bool) (x : A) (xs : List A) → count_by q (x ∷ xs) ≡ one_if (q x) + count_by q xs
count_cons q x xs = sum_by-cons (λ x. cond (q x) 1 0) x xs

none_more : (n : ℕ) {m : ℕ} → n ≡ m → 0 + n ≡ m
none_more n e = omega (arith, e)

count_none : {A : Type 0} (q : A → Bool) (xs : List A) → ((x : A) → IsIn x xs → q x ≡ false) → count_by q xs ≡ 0
unfolding IsIn
count_none q [] h = refl
count_none q (x ∷ xs) h =
    count_cons q x xs ∙ ap (λ b. one_if b + count_by q xs) (h x (inl refl)) ∙ none_more (count_by q xs) (count_none q xs (λ y i. h y (inr i)))

false_if_not : (b : Bool) → (b ≡ true → ⊥) → b ≡ false
false_if_not true h = absurd (h refl)
false_if_not false h = refl

is_in_same : {A : Type 0} (xs : List A) (x y : A) → x ≡ y → IsIn x xs → IsIn y xs
is_in_same xs x y e i = rw (← e) i

-- exactly one element of a list passes
count_one : {A : Type 0} (q : A → Bool) (xs : List A) (x : A) → IsDistinct xs → IsIn x xs → q x ≡ true
    → ((y : A) → IsIn y xs → q y ≡ true → y ≡ x) → count_by q xs ≡ 1
unfolding IsIn IsDistinct
count_one q [] x d i h one = absurd i
count_one q (y ∷ ys) x d i h one = at_test (λ j. count_one q ys x d.1 j h (λ z m. one z (inr m))) (q y) refl
  where
    at_test : (IsIn x ys → count_by q ys ≡ 1) → (b : Bool) → q y ≡ b → count_by q (y ∷ ys) ≡ 1
    at_test rest true hy =
        let same : y ≡ x = one y (inl refl) hy in
        let none : count_by q ys ≡ 0 = count_none q ys (λ z j. false_if_not (q z) (λ hz. d.0 (is_in_same ys z y (one z (inr j) hz ∙ sym same) j))) in
        count_cons q y ys ∙ ap (λ b. one_if b + count_by q ys) hy ∙ ap (λ n. 1 + n) none
    at_test rest false hy =
        let there : IsIn x ys = elim i [ inl e ↦ absurd (let t : q y ≡ true = ap q (sym e) ∙ h in cc) | inr j ↦ j ] in
        count_cons q y ys ∙ ap (λ b. one_if b + count_by q ys) hy ∙ none_more (count_by q ys) (rest there)

-- one more pair in a message
fills_step : (q : ℕ → Bool) (f : Pair → ℕ) (p : Pair) (ps : List Pair) (b : Bool)
    → count_by q (map f (cond b (p ∷ ps) ps)) ≡ one_if (b && q (f p)) + count_by q (map f ps)
fills_step q f p ps true = count_cons q (f p) (map f ps)
fills_step q f p ps false = omega arith

module _ (q : ℕ → Bool) (ways : Ways) (node : ℕ) where
  filled_nil : (peers : List ℕ) → filled_by q ways [] node peers ≡ 0
  filled_nil [] = refl
  filled_nil (k ∷ ks) = sum_by-cons (λ k. count_by q (fills ways [] node k)) k ks ∙ none_more (filled_by q ways [] node ks) (filled_nil ks)

  -- the peers from which a pair is filled into a slot that passes
  abbrev hits : Pair → ℕ → Bool
  hits p k = (ways.needs node p.0 && ways.gives k node p.1) && q (ways.into node p.0)

  filled_cons : (p : Pair) (ps : List Pair) (peers : List ℕ) → filled_by q ways (p ∷ ps) node peers ≡ count_by (hits p) peers + filled_by q ways ps node peers
  filled_cons p ps [] = refl
  filled_cons p ps (k ∷ ks) =
      let more = sum_by-cons (λ k. count_by q (fills ways (p ∷ ps) node k)) k ks in
      let less = sum_by-cons (λ k. count_by q (fills ways ps node k)) k ks in
      let step = fills_step q (λ p. ways.into node p.0) p (due ways ps k node) (ways.needs node p.0 && ways.gives k node p.1) in
      let count = count_cons (hits p) k ks in
      let rest = filled_cons p ps ks in
      omega (arith, more, less, step, count, rest)

  at_giver : (p : Pair) (peers : List ℕ) → IsDistinct peers → (ways.needs node p.0 ≡ true → IsGiven ways node peers p)
      → count_by (hits p) peers ≡ one_if (ways.needs node p.0 && q (ways.into node p.0))
  at_giver p peers d given = cases (ways.needs node p.0) (q (ways.into node p.0)) refl refl
    where
      off : {a : Bool} → a ≡ false → (b c : Bool) → ((a && b) && c) ≡ false
      off h b c = ap (λ a. (a && b) && c) h

      off_last : (a : Bool) {c : Bool} → c ≡ false → (a && c) ≡ false
      off_last true h = h
      off_last false h = refl

      cases : (n h : Bool) → ways.needs node p.0 ≡ n → q (ways.into node p.0) ≡ h → count_by (hits p) peers ≡ one_if (n && h)
      cases false h en eh = count_none (hits p) peers (λ k i. off en (ways.gives k node p.1) (q (ways.into node p.0)))
      cases true false en eh = count_none (hits p) peers (λ k i. off_last (ways.needs node p.0 && ways.gives k node p.1) eh)
      cases true true en eh =
          let g = given en in
          count_one (hits p) peers g.giver d g.among (all_on en g.gives eh) (λ k i h. g.only k i (middle (ways.needs node p.0) (ways.gives k node p.1) (q (ways.into node p.0)) h))
        where
          all_on : {a b c : Bool} → a ≡ true → b ≡ true → c ≡ true → ((a && b) && c) ≡ true
          all_on ha hb hc = rw (ha, hb, hc) refl

          middle : (a b c : Bool) → ((a && b) && c) ≡ true → b ≡ true
          middle true true c h = refl
          middle true false c h = cc
          middle false b c h = cc

pub fills_needed : (q : ℕ → Bool) (ways : Ways) (pairs : List Pair) (node : ℕ) (peers : List ℕ) → IsDistinct peers → AreGiven ways pairs node peers
    → filled_by q ways pairs node peers ≡ count_by q (needed_slots ways pairs node)
unfolding IsIn
fills_needed q ways [] node peers d given = filled_nil q ways node peers
fills_needed q ways (p ∷ ps) node peers d given =
    let rest = fills_needed q ways ps node peers d (λ r i. given r (record { among = inr i.among; needed = i.needed })) in
    let more = filled_cons q ways node p ps peers in
    let step = fills_step q (λ p. ways.into node p.0) p (filter (λ p. ways.needs node p.0) ps) (ways.needs node p.0) in
    let here = at_giver q ways node p peers d (λ h. given p (record { among = inl refl; needed = h })) in
    omega (arith, rest, more, step, here)

-- the slot of a needed cell, among those of the cells that a node needs
one_slot : (ways : Ways) (node : ℕ) (slot : ℕ) (pairs : List Pair)
    → count_by (λ y. y == slot) (needed_slots ways pairs node) ≡ count_by (λ p. ways.needs node p.0 && (ways.into node p.0 == slot)) pairs
one_slot ways node slot [] = refl
one_slot ways node slot (p ∷ ps) =
    fills_step (λ y. y == slot) (λ p. ways.into node p.0) p (filter (λ p. ways.needs node p.0) ps) (ways.needs node p.0)
    ∙ ap (λ n. one_if (ways.needs node p.0 && (ways.into node p.0 == slot)) + n) (one_slot ways node slot ps)
    ∙ sym (count_cons (λ p. ways.needs node p.0 && (ways.into node p.0 == slot)) p ps)

same_true : (m n : ℕ) → (m == n) ≡ true → m ≡ n
same_true m n h = grind (arith, nat_tests)

true_same : (m n : ℕ) → m ≡ n → (m == n) ≡ true
true_same m n h = grind (arith, nat_tests)

left_true : (a b : Bool) → (a && b) ≡ true → a ≡ true
left_true true b h = refl
left_true false b h = h

right_true : (a b : Bool) → (a && b) ≡ true → b ≡ true
right_true true b h = h
right_true false b h = cc

and_true : {a b : Bool} → a ≡ true → b ≡ true → (a && b) ≡ true
and_true ha hb = rw (ha, hb) refl

pub fills_once : (ways : Ways) (pairs : List Pair) (node : ℕ) (peers : List ℕ) (store : List ℤ) (p : Pair)
    → IsDistinct peers → IsDistinct pairs → AreGiven ways pairs node peers → HasRoom ways pairs node store → IsNeeded ways pairs node p
    → filled_by (λ slot. slot == ways.into node p.0) ways pairs node peers ≡ 1
fills_once ways pairs node peers store p dk dp given room i =
    fills_needed (λ slot. slot == ways.into node p.0) ways pairs node peers dk given
    ∙ one_slot ways node (ways.into node p.0) pairs
    ∙ count_one (λ r. ways.needs node r.0 && (ways.into node r.0 == ways.into node p.0)) pairs p dp i.among
    (and_true i.needed (true_same (ways.into node p.0) (ways.into node p.0) refl))
    (λ r j h. room.apart r p (record { among = j; needed = left_true (ways.needs node r.0) (ways.into node r.0 == ways.into node p.0) h }) i
    (same_true (ways.into node r.0) (ways.into node p.0) (right_true (ways.needs node r.0) (ways.into node r.0 == ways.into node p.0) h)))
