-- The lists of indices of a box are its cells.
use Rattle.std.proofs.Common.{◌≡◌, ◌≢◌, ℕ, zero, suc, ◌+◌, ◌<◌, ◌⊎◌, inl, inr, List, [], ◌∷◌, refl, arith, map}
use Rattle.std.specs.List.{flat_map, range_with_len}
use Rattle.xmp_map.specs.Boxes.{IsInside}
use Rattle.xmp_move.specs.Stores.{IsIn}
use Rattle.xmp_move.specs.Cells.{indices}
use Rattle.xmp_move.proofs.Writes.{same_or_not}
use Rattle.xmp_move.proofs.Members.{in_map, map_in, in_append, append_left, append_right}

pub in_range : (from n x : ℕ) → from < x + 1 → x < from + n → IsIn x (range_with_len from n)
unfolding IsIn
in_range from zero x l h = absurd (omega arith)
in_range from (suc n) x l h = elim (same_or_not x from) as (λ _. (x ≡ from) ⊎ IsIn x (range_with_len (from + 1) n)) [
  | inl e ↦ inl e
  | inr ne ↦ inr (in_range (from + 1) n x (later from x l ne) (omega arith))
]
  where
    later : (a b : ℕ) → a < b + 1 → b ≢ a → a + 1 < b + 1
    later a b h ne = omega arith

pub range_in : (from n x : ℕ) → IsIn x (range_with_len from n) → x < from + n
unfolding IsIn
range_in from zero x i = absurd i
range_in from (suc n) x (inl e) = omega (arith, e)
range_in from (suc n) x (inr i) = let r = range_in (from + 1) n x i in omega (arith, r)

rows_in : (is : List ℕ) (rests : List (List ℕ)) (x : ℕ) (xs : List ℕ) → IsIn x is → IsIn xs rests → IsIn (x ∷ xs) (flat_map (λ i. map (λ rest. i ∷ rest) rests) is)
unfolding IsIn
rows_in [] rests x xs i j = absurd i
rows_in (k ∷ ks) rests x xs (inl e) j =
    append_left (map (λ rest. k ∷ rest) rests) (flat_map (λ i. map (λ rest. i ∷ rest) rests) ks) (x ∷ xs)
    (let m : IsIn (k ∷ xs) (map (λ rest. k ∷ rest) rests) = map_in (λ rest. k ∷ rest) rests xs j in rw e m)
rows_in (k ∷ ks) rests x xs (inr i) j =
    append_right (map (λ rest. k ∷ rest) rests) (flat_map (λ i. map (λ rest. i ∷ rest) rests) ks) (x ∷ xs) (rows_in ks rests x xs i j)

pub inside_in : (cell es : List ℕ) → IsInside cell es → IsIn cell (indices es)
unfolding IsInside indices IsIn
inside_in [] [] h = inl refl
inside_in (x ∷ xs) (e ∷ es) h = rows_in (range_with_len 0 e) (indices es) x xs (in_range 0 e x (omega arith) (let l = h.0 in omega arith)) (inside_in xs es h.1)
inside_in [] (e ∷ es) h = absurd h
inside_in (x ∷ xs) [] h = absurd h

-- a cell of rows begins with an index of the rows and ends with one of the rests
pub record IsRow (is : List ℕ) (rests : List (List ℕ)) (cell : List ℕ) : Type 0 where
  pub first : ℕ
  pub rest : List ℕ
  pub among : IsIn first is
  pub of : IsIn rest rests
  pub same : cell ≡ first ∷ rest

in_rows : (is : List ℕ) (rests : List (List ℕ)) (cell : List ℕ) → IsIn cell (flat_map (λ i. map (λ rest. i ∷ rest) rests) is) → IsRow is rests cell
unfolding IsIn
in_rows [] rests cell i = absurd i
in_rows (k ∷ ks) rests cell i =
    elim (in_append (map (λ rest. k ∷ rest) rests) (flat_map (λ i. map (λ rest. i ∷ rest) rests) ks) cell i) [
      | inl j ↦ let m = in_map (λ rest. k ∷ rest) rests cell j in record { first = k; rest = m.of; among = inl refl; of = m.among; same = m.same }
      | inr j ↦ let r = in_rows ks rests cell j in record { first = r.first; rest = r.rest; among = inr r.among; of = r.of; same = r.same }
    ]

pub in_inside : (cell es : List ℕ) → IsIn cell (indices es) → IsInside cell es
unfolding IsInside indices IsIn
in_inside cell [] (inl e) = rw e tt
in_inside cell [] (inr i) = absurd i
in_inside cell (e ∷ es) i =
    let r = in_rows (range_with_len 0 e) (indices es) cell i in
    let l = range_in 0 e r.first r.among in
    let h : IsInside (r.first ∷ r.rest) (e ∷ es) = ((let m : r.first < e = omega (arith, l) in m), in_inside r.rest es r.of) in
    rw r.same h
