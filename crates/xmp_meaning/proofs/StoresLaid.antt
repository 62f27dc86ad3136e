-- Where the words of a node's store lie.
use Rattle.std.proofs.Common.{◌≡◌, ◌+◌, ◌*◌, ◌<◌, ◌++◌, ℕ, zero, suc, ℤ, pos, false, if◌then◌else◌, List, [], ◌∷◌, map, length, take, replicate, refl, sym, ap, ◌∙◌, arith, length-append}
use Rattle.std.specs.Prelude.{slice_get}
use Rattle.std.specs.List.{AllByRecursion, flat_map, sum_by}
use Rattle.std.proofs.lemmas.List.{length-replicate}
use Rattle.std.proofs.lemmas.List.Sums.{sum_by-cons}
use Rattle.xmp_map.specs.RowMajor.{product}
use Rattle.xmp_prog.specs.declared.parts.ProgParts.{ProgParts}
use Rattle.xmp_prog.specs.declared.parts.Array.{Array}
use Rattle.xmp_prog.specs.Fits.{node_count}
use Rattle.xmp_prog.specs.Tests as tests
use Rattle.xmp_prog.specs.Tests.{is_image}
use Rattle.xmp_meaning.specs.Cells.{row_in}
use Rattle.xmp_meaning.specs.Layouts.{Packed, words_of, row_length}
use Rattle.xmp_meaning.specs.Stores.{array_words, store_words, store_length, image_words, store_of}
use Rattle.xmp_meaning.specs.TrafficLaws.{StoresAreLaid, BeginsLaid}

get_left : (xs ys : List ℤ) (n : ℕ) → n < length xs → slice_get (xs ++ ys) n ≡ slice_get xs n
get_left [] ys n lt = absurd (omega (arith, lt))
get_left (x ∷ xs) ys zero lt = refl
get_left (x ∷ xs) ys (suc n) lt = get_left xs ys n (omega (arith, lt))

get_right : (xs ys : List ℤ) (n : ℕ) → slice_get (xs ++ ys) (length xs + n) ≡ slice_get ys n
get_right [] ys n = ap (slice_get ys) (let e : 0 + n ≡ n = omega arith in e)
get_right (x ∷ xs) ys n = ap (slice_get (x ∷ xs ++ ys)) (let e : suc (length xs) + n ≡ suc (length xs + n) = omega arith in e) ∙ get_right xs ys n

abbrev joined_rows : List (List ℤ) → List ℤ
joined_rows rows = flat_map (λ row. row) rows

rows_length : (f : Array → ℕ) (rows : List (List ℤ)) (all : List Array) → map length rows ≡ map f all → length (joined_rows rows) ≡ sum_by f all
rows_length f [] [] e = refl
rows_length f [] (a ∷ all) e = cc
rows_length f (r ∷ rows) [] e = cc
rows_length f (r ∷ rows) (a ∷ all) e =
    let h : length r ≡ f a = cc in let t : map length rows ≡ map f all = cc in
    let i : _ = rows_length f rows all t in let l : _ = length-append r (joined_rows rows) in let s : _ = sum_by-cons f a all in omega (arith, h, i, l, s)

row_at : (f : Array → ℕ) (rows : List (List ℤ)) (all : List Array) (array n : ℕ) → map length rows ≡ map f all → n < length (row_in rows array)
    → slice_get (joined_rows rows) (sum_by f (take array all) + n) ≡ slice_get (row_in rows array) n
row_at f [] all array n e lt = absurd (omega (arith, lt))
row_at f (r ∷ rows) [] array n e lt = cc
row_at f (r ∷ rows) (a ∷ all) zero n e lt =
    ap (slice_get (r ++ joined_rows rows)) (let z : 0 + n ≡ n = omega arith in z) ∙ get_left r (joined_rows rows) n lt
row_at f (r ∷ rows) (a ∷ all) (suc array) n e lt =
    let h : length r ≡ f a = cc in let t : map length rows ≡ map f all = cc in let s : _ = sum_by-cons f a (take array all) in
    ap (slice_get (r ++ joined_rows rows)) (let q : sum_by f (a ∷ take array all) + n ≡ length r + (sum_by f (take array all) + n) = omega (arith, h, s) in q)
    ∙ get_right r (joined_rows rows) (sum_by f (take array all) + n)
    ∙ row_at f rows all array n t lt

module _ (p : ProgParts) (node : ℕ) where
  -- of an array that is no coarray all three are one
  row_words : (a : Array) → is_image a.home ≡ false → row_length (Packed node) p a ≡ array_words node a
  row_words a e = ap (words_of (Packed node) a.home)
      (ap (λ b. (if b then node_count p else 1) * product a.extents) e ∙ (let z : 1 * product a.extents ≡ product a.extents = omega arith in z))

  kept_words : (a : Array) → is_image a.home ≡ false → store_words node a ≡ array_words node a
  kept_words a e = ap (λ b. if b then 0 else array_words node a) e

  rows_words : (all : List Array) → AllByRecursion (λ a. is_image a.home ≡ false) all → map (row_length (Packed node) p) all ≡ map (array_words node) all
  rows_words [] none = refl
  rows_words (a ∷ all) none = ap (λ n. n ∷ map (row_length (Packed node) p) all) (row_words a none.0) ∙ ap (λ ns. array_words node a ∷ ns) (rows_words all none.1)

  rows_kept : (all : List Array) → AllByRecursion (λ a. is_image a.home ≡ false) all → map (row_length (Packed node) p) all ≡ map (store_words node) all
  rows_kept [] none = refl
  rows_kept (a ∷ all) none = ap (λ n. n ∷ map (row_length (Packed node) p) all) (row_words a none.0 ∙ sym (kept_words a none.0)) ∙ ap (λ ns. store_words node a ∷ ns) (rows_kept all none.1)

  none_at : (all : List Array) (array : ℕ) → AllByRecursion (λ a. is_image a.home ≡ false) all → tests.is_coarray (slice_get all array) ≡ false
  none_at [] array none = refl
  none_at (a ∷ all) zero none = none.0
  none_at (a ∷ all) (suc array) none = none_at all array none.1

pub stores_laid : (X : Type 0) (p : ProgParts) → StoresAreLaid X p
stores_laid X p node s is = record {
  words = length-append s.scalars (joined_rows s.arrays)
      ∙ (let r : _ = rows_length (array_words node) s.arrays p.arrays (is.rows ∙ rows_words p node p.arrays is.no_coarrays) in let l : _ = is.scalars in omega (arith, r, l));
  cells = λ array n lt. ap (λ b. slice_get (store_of s) ((if b then store_length p node + sum_by image_words (take array p.arrays)
      else length p.scalars + sum_by (store_words node) (take array p.arrays)) + n)) (none_at p node p.arrays array is.no_coarrays)
      ∙ ap (slice_get (store_of s)) (place array n)
      ∙ get_right s.scalars (joined_rows s.arrays) (sum_by (store_words node) (take array p.arrays) + n)
      ∙ row_at (store_words node) s.arrays p.arrays array n (is.rows ∙ rows_kept p node p.arrays is.no_coarrays) lt;
}
  where
    place : (array n : ℕ) → length p.scalars + sum_by (store_words node) (take array p.arrays) + n
        ≡ length s.scalars + (sum_by (store_words node) (take array p.arrays) + n)
    place array n = let l : _ = is.scalars in omega (arith, l)

zeros_laid : (f : Array → ℕ) (all : List Array) → map length (map (λ a. replicate (f a) (pos 0)) all) ≡ map f all
zeros_laid f [] = refl
zeros_laid f (a ∷ all) = ap (λ n. n ∷ map length (map (λ a. replicate (f a) (pos 0)) all)) (length-replicate (f a) (pos 0))
    ∙ ap (λ ns. f a ∷ ns) (zeros_laid f all)

pub begins_laid : (p : ProgParts) → BeginsLaid p
begins_laid p node steps none = record {
  scalars = length-replicate (length p.scalars) (pos 0);
  rows = zeros_laid (row_length (Packed node) p) p.arrays;
  no_coarrays = none;
}
