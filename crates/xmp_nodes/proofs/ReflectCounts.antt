-- A reflect says as many words as its exchange has.
use Rattle.std.proofs.Common.{◌≡◌, ◌≢◌, ◌<◌, ◌≤◌, ◌+◌, ◌-◌, ◌/◌, ◌++◌, if◌then◌else◌, cond, ℕ, zero, suc, ℤ, Bool, true, false, not, List, [], ◌∷◌, map, length, refl, sym, ap, ◌∙◌, arith, ne_eqb}
use Rattle.std.specs.Prelude.{◌&&◌, filter, replicate}
use Rattle.std.specs.List.{flat_map, range_with_len}
use Rattle.std.proofs.lemmas.List.{length-map}
use Rattle.xmp_map.specs.declared.array_map.ArrayMap.{ArrayMap}
use Rattle.xmp_map.specs.RowMajor.{product}
use Rattle.xmp_map.specs.Boxes.{sum_below, count_cells}
use Rattle.xmp_map.specs.Held as held
use Rattle.xmp_prog.specs.declared.parts.ProgParts.{ProgParts}
use Rattle.xmp_prog.specs.declared.parts.Home.{Home}
use Rattle.xmp_prog.specs.declared.parts.Home.TheVariants as home
use Rattle.xmp_prog.specs.Fits.{node_count}
use Rattle.xmp_meaning.specs.Declarations.{extents, home_of}
use Rattle.xmp_meaning.specs.Exchanges.{Exchange, Reflected}
use Rattle.xmp_meaning.specs.Messages.{message, said, words_sent, words_alone, is_reflected}
use Rattle.xmp_meaning.specs.TrafficLaws.{reflect_due}
use Rattle.xmp_meaning.proofs.WordsDue.{RowsFit, as_due}
use Rattle.xmp_move.specs.Ways.{Pair, due, sends}
use Rattle.xmp_move.specs.Sides.{padded, owns_cell, holds_cell}
use Rattle.xmp_move.specs.Cells.{indices}
use Rattle.xmp_move.specs.Laid.{MapFits}
use Rattle.xmp_move.specs.Kept.{HasThree}
use Rattle.xmp_move.proofs.DueSlots.{indices_long, filter_same, filter_map_is}
use Rattle.xmp_move.proofs.PickLaws.{filled_is}
use Rattle.xmp_move.proofs.PlanLaws.{product_pad, map_extents}
use Rattle.xmp_nodes.specs.Nodes.{Nodes}
use Rattle.xmp_nodes.specs.Reflecting.{reflect_ways, reflect_pairs, reflect_said}
use Rattle.xmp_nodes.proofs.Standing.{IsGlobal}
use Rattle.xmp_nodes.proofs.PackedRows.{IsSpreadArray, spread_array, few_dims}

-- ---- cells that pass a test, one list after the other

filter_both : {A : Type 0} (t : A → Bool) (xs ys : List A) → length (filter t (xs ++ ys)) ≡ length (filter t xs) + length (filter t ys)
filter_both t [] ys = omega arith
filter_both t (x ∷ xs) ys = at_test (t x) (filter_both t xs ys)
  where
    at_test : (b : Bool) → length (filter t (xs ++ ys)) ≡ length (filter t xs) + length (filter t ys)
        → length (cond b (x ∷ filter t (xs ++ ys)) (filter t (xs ++ ys))) ≡ length (cond b (x ∷ filter t xs) (filter t xs)) + length (filter t ys)
    at_test true i = omega (arith, i)
    at_test false i = i

abbrev row_counts : (List ℕ → Bool) → List (List ℕ) → ℕ → ℕ
row_counts t rests i = length (filter (λ c. t (i ∷ c)) rests)

abbrev rows_from : List (List ℕ) → (a n : ℕ) → List (List ℕ)
rows_from rests a n = flat_map (λ i. map (λ c. i ∷ c) rests) (range_with_len a n)

ranged : (t : List ℕ → Bool) (rests : List (List ℕ)) (a n : ℕ)
    → sum_below (row_counts t rests) a + length (filter t (rows_from rests a n)) ≡ sum_below (row_counts t rests) (a + n)
unfolding sum_below
ranged t rests a zero =
    let z : a ≡ a + 0 = omega arith in
    let e : sum_below (row_counts t rests) a ≡ sum_below (row_counts t rests) (a + 0) = ap (sum_below (row_counts t rests)) z in
    omega (arith, e)
ranged t rests a (suc n) =
    let i = ranged t rests (a + 1) n in
    let both : length (filter t (rows_from rests a (suc n))) ≡ length (filter t (map (λ c. a ∷ c) rests)) + length (filter t (rows_from rests (a + 1) n)) =
    filter_both t (map (λ c. a ∷ c) rests) (rows_from rests (a + 1) n) in
    let row : length (filter t (map (λ c. a ∷ c) rests)) ≡ row_counts t rests a =
    ap length (filter_map_is (λ c. a ∷ c) t rests) ∙ length-map (filter (λ c. t (a ∷ c)) rests) (λ c. a ∷ c) in
    let one_more : a + 1 ≡ suc a = omega arith in
    let next : sum_below (row_counts t rests) (a + 1) ≡ sum_below (row_counts t rests) a + row_counts t rests a = ap (sum_below (row_counts t rests)) one_more in
    let on : a + 1 + n ≡ a + suc n = omega arith in
    let further : sum_below (row_counts t rests) (a + 1 + n) ≡ sum_below (row_counts t rests) (a + suc n) = ap (sum_below (row_counts t rests)) on in
    gather (sum_below (row_counts t rests) a) (row_counts t rests a) (sum_below (row_counts t rests) (a + 1)) (length (filter t (rows_from rests (a + 1) n)))
    (length (filter t (map (λ c. a ∷ c) rests))) (length (filter t (rows_from rests a (suc n)))) (sum_below (row_counts t rests) (a + 1 + n)) (sum_below (row_counts t rests) (a + suc n))
    i both row next further
  where
    gather : (s f s1 l m w u v : ℕ) → s1 + l ≡ u → w ≡ m + l → m ≡ f → s1 ≡ s + f → u ≡ v → s + w ≡ v
    gather s f s1 l m w u v i both row next further = omega (arith, i, both, row, next, further)

ones : (k : ℕ) (t : List ℕ → Bool) → count_cells (replicate k 1) t ≡ (if t (replicate k 0) then 1 else 0)
unfolding count_cells sum_below
ones zero t = refl
ones (suc k) t = let i = ones k (λ xs. t (0 ∷ xs)) in omega (arith, i)

same_sums : (f g : ℕ → ℕ) → ((i : ℕ) → f i ≡ g i) → (n : ℕ) → sum_below f n ≡ sum_below g n
unfolding sum_below
same_sums f g h zero = refl
same_sums f g h (suc n) = λ i. same_sums f g h n i + h n i

-- the cells of a box, behind which more dimensions have one place
pub counted_cells : (es : List ℕ) (k : ℕ) (t : List ℕ → Bool) → length (filter (λ c. t (c ++ replicate k 0)) (indices es)) ≡ count_cells (es ++ replicate k 1) t
unfolding count_cells sum_below indices
counted_cells [] k t = at_test (t (replicate k 0)) ∙ sym (ones k t)
  where
    none_there : List (List ℕ)
    none_there = []

    at_test : (b : Bool) → length (cond b ([] ∷ none_there) none_there) ≡ (if b then 1 else 0)
    at_test true = refl
    at_test false = refl
counted_cells (e ∷ es) k t =
    (let r = ranged (λ c. t (c ++ replicate k 0)) (indices es) 0 e in
    let z : 0 + e ≡ e = omega arith in
    let q : sum_below (λ i. length (filter (λ c. t ((i ∷ c) ++ replicate k 0)) (indices es))) (0 + e) ≡ sum_below (λ i. length (filter (λ c. t ((i ∷ c) ++ replicate k 0)) (indices es))) e =
    ap (sum_below (λ i. length (filter (λ c. t ((i ∷ c) ++ replicate k 0)) (indices es)))) z in
    omega (arith, r, q))
    ∙ same_sums (λ i. length (filter (λ c. t (i ∷ (c ++ replicate k 0))) (indices es))) (λ i. count_cells (es ++ replicate k 1) (λ xs. t (i ∷ xs)))
    (λ i. counted_cells es k (λ xs. t (i ∷ xs))) e

-- ---- a map's cells

module _ (t : ℕ) (m : ArrayMap) (es : List ℕ) (three : HasThree m) (fits : MapFits (home.Spread t m) es) (few : length es ≤ 3) where
  pub filled_out : held.extents m ≡ es ++ replicate (3 - length es) 1
  filled_out = sym (map_extents t m es three fits few) ∙ filled_is 1 es few

  pub product_same : product (held.extents m) ≡ product es
  product_same = ap product filled_out ∙ product_pad (3 - length es) es

  pub padded_cells : (test : List ℕ → Bool) → length (filter (λ c. test (padded c)) (indices es)) ≡ count_cells (held.extents m) test
  padded_cells test =
      ap length (filter_same (λ c. test (padded c)) (λ c. test (c ++ replicate (3 - length es) 0)) (indices es)
      (λ c i. ap (λ n. test (c ++ replicate (3 - n) 0)) (indices_long es c i)))
      ∙ counted_cells es (3 - length es) test
      ∙ ap (λ ns. count_cells ns test) (sym filled_out)

-- ---- the words of a reflect

and_turned : (a b : Bool) → (a && b) ≡ (b && a)
and_turned true true = refl
and_turned true false = refl
and_turned false true = refl
and_turned false false = refl

abbrev pub row_of_home : Home → ℕ
row_of_home (home.Spread t m) = product (held.extents m)
row_of_home home.Copy = 0
row_of_home home.Image = 0

pub rows_fit : (p : ProgParts) → RowsFit p (λ a. row_of_home (home_of p a))
rows_fit p array number m e = ap row_of_home e

-- what is sent between two nodes, at a message of words
pub message_words : (p : ProgParts) (x : Exchange) (words : List ℤ) (from to : ℕ) → from ≢ to → said p x from to ≡ words_alone words
    → words_sent (message p x from to) ≡ words_sent (words_alone words)
message_words p x words from to ne e = ap (λ b. words_sent (if b then words_alone [] else said p x from to)) (ne_eqb from to ne) ∙ ap words_sent e

pub reflect_counts : (p : ProgParts) → IsGlobal p → (array t : ℕ) (m : ArrayMap) → home_of p array ≡ home.Spread t m → (w : Nodes) (row : List ℤ) → length row ≡ product (extents p array)
    → (from to : ℕ) → from < node_count p → to < node_count p → from ≢ to → words_sent (reflect_said p array w from to) ≡ words_sent (message p (Reflected array row) from to)
reflect_counts p global array t m e w row long from to lf lt ne =
    ap (λ n. n + (0 + 7) / 8) (said_many ∙ sym due_many) ∙ sym (message_words p (Reflected array row) _ from to ne refl)
  where
    of : IsSpreadArray p array t m
    of = spread_array p global array t m e

    few : length (extents p array) ≤ 3
    few = few_dims p global array t m of

    test : List ℕ → Bool
    test = is_reflected m from to

    said_many : length (reflect_said p array w from to).words ≡ count_cells (held.extents m) test
    said_many =
        length-map (sends (reflect_ways p array) (reflect_pairs p array) from to) _
        ∙ length-map (due (reflect_ways p array) (reflect_pairs p array) from to) (λ q. (reflect_ways p array).out_of from q.1)
        ∙ ap length (filter_map_is (λ c. (c, c)) (λ (q : Pair). (holds_cell (home_of p array) to q.0 && not (owns_cell (home_of p array) to q.0)) && owns_cell (home_of p array) from q.1) (indices (extents p array)))
        ∙ length-map (filter (λ c. (holds_cell (home_of p array) to c && not (owns_cell (home_of p array) to c)) && owns_cell (home_of p array) from c) (indices (extents p array))) (λ c. (c, c))
        ∙ ap (λ (h : Home). length (filter (λ c. (holds_cell h to c && not (owns_cell h to c)) && owns_cell h from c) (indices (extents p array)))) e
        ∙ ap length (filter_same (λ c. (holds_cell (home.Spread t m) to c && not (owns_cell (home.Spread t m) to c)) && owns_cell (home.Spread t m) from c) (λ c. test (padded c)) (indices (extents p array))
        (λ c i. and_turned (holds_cell (home.Spread t m) to c && not (owns_cell (home.Spread t m) to c)) (owns_cell (home.Spread t m) from c)))
        ∙ padded_cells t m (extents p array) of.three of.fits few test

    whole : length row ≡ row_of_home (home_of p array)
    whole = long ∙ sym (product_same t m (extents p array) of.three of.fits few) ∙ sym (ap row_of_home e)

    due_many : length (said p (Reflected array row) from to).words ≡ count_cells (held.extents m) test
    due_many =
        sym (ap (λ b. length (if b then words_alone [] else said p (Reflected array row) from to).words) (ne_eqb from to ne))
        ∙ (as_due p (λ a. row_of_home (home_of p a)) (rows_fit p) (Reflected array row) whole).words from to lf ne
        ∙ ap (λ h. reflect_due h from to) e
