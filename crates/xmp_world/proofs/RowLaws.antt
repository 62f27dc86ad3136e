-- Numbers in rows.
use Rattle.std.proofs.Common.{◌≡◌, ◌<◌, ◌+◌, ◌*◌, ◌++◌, ℕ, zero, suc, List, [], ◌∷◌, length, take, drop, refl, sym, ap, ◌∙◌, arith}
use Rattle.std.specs.Prelude.{slice_get, unwrap_or}
use Rattle.std.specs.List.{AllByRecursion, flat_map}
use Rattle.std.proofs.lemmas.List.Concat.{flat_map-cons}
use Rattle.xmp_world.specs.Counts.{rows_of}

get_drop : (k : ℕ) (ns : List ℕ) (i : ℕ) → slice_get (drop k ns) i ≡ slice_get ns (k + i)
get_drop zero ns i = let z : i ≡ 0 + i = omega arith in ap (slice_get ns) z
get_drop (suc k) [] i = refl
get_drop (suc k) (n ∷ ns) i = let m : suc (k + i) ≡ suc k + i = omega arith in get_drop k ns i ∙ ap (slice_get (n ∷ ns)) m

get_take : (k : ℕ) (ns : List ℕ) (i : ℕ) → i < k → slice_get (take k ns) i ≡ slice_get ns i
get_take zero ns i l = absurd (omega (arith, l))
get_take (suc k) [] i l = refl
get_take (suc k) (n ∷ ns) zero l = refl
get_take (suc k) (n ∷ ns) (suc i) l = get_take k ns i (omega (arith, l))

-- the number of a column stands in its row
pub row_read : (n wide : ℕ) (ns : List ℕ) (from to : ℕ) → from < n → to < wide
    → slice_get (unwrap_or (slice_get (rows_of n wide ns) from) []) to ≡ slice_get ns (from * wide + to)
row_read zero wide ns from to l k = absurd (omega (arith, l))
row_read (suc n) wide ns zero to l k = let z : to ≡ 0 * wide + to = omega arith in get_take wide ns to k ∙ ap (slice_get ns) z
row_read (suc n) wide ns (suc from) to l k =
    let here : wide + (from * wide + to) ≡ suc from * wide + to = omega arith in
    row_read n wide (drop wide ns) from to (omega (arith, l)) k ∙ (get_drop wide ns (from * wide + to) ∙ ap (slice_get ns) here)

-- ---- rows laid one behind the other

take_front : (row rest : List ℕ) → take (length row) (row ++ rest) ≡ row
take_front [] rest = refl
take_front (n ∷ row) rest = ap (λ ns. n ∷ ns) (take_front row rest)

drop_front : (row rest : List ℕ) → drop (length row) (row ++ rest) ≡ rest
drop_front [] rest = refl
drop_front (n ∷ row) rest = drop_front row rest

pub read_back : (wide : ℕ) (rows : List (List ℕ)) → AllByRecursion (λ (row : List ℕ). length row ≡ wide) rows
    → rows_of (length rows) wide (flat_map (λ row. row) rows) ≡ rows
read_back wide [] h = refl
read_back wide (row ∷ rows) h =
    ap (λ all. take wide all ∷ rows_of (length rows) wide (drop wide all)) (flat_map-cons (λ (r : List ℕ). r) row rows)
    ∙ (ap (λ k. take k (row ++ flat_map (λ r. r) rows) ∷ rows_of (length rows) wide (drop k (row ++ flat_map (λ r. r) rows))) (sym h.0)
    ∙ (λ i. take_front row (flat_map (λ r. r) rows) i ∷ (ap (rows_of (length rows) wide) (drop_front row (flat_map (λ r. r) rows)) ∙ read_back wide rows h.1) i))
