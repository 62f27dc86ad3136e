-- Where the cells of a program's arrays stand, in whole rows and in the rows of a node.
use Rattle.std.proofs.Common.{◌≡◌, ◌<◌, ◌≤◌, ◌+◌, ◌-◌, ◌*◌, ◌++◌, ◌==◌, ◌&&◌, ◌||◌, ℕ, zero, suc, ℤ, pos, ◌+ℤ◌, Bool, true, false, true≢false, List, [], ◌∷◌, length, map, Option, Some, None, refl, sym, subst, ap, ◌∙◌, arith, eqb-true}
use Rattle.std.specs.Prelude.{slice_get, nat_lt, nat_le, take, drop, replicate, is_none}
use Rattle.std.specs.List.{AllByRecursion, list_all, list_any}
use Rattle.std.proofs.lemmas.Bool.{leb-true, lt-ltb}
use Rattle.std.proofs.lemmas.List.{length-map}
use Rattle.std.proofs.lemmas.Option.{unwrap_or-slice_get}
use Rattle.xmp_base.specs.Limits.{size_limit}
use Rattle.xmp_dist.specs.Valid.{is_extent}
use Rattle.xmp_map.specs.declared.array_map.ArrayMap.{ArrayMap}
use Rattle.xmp_map.specs.RowMajor.{product, row_major}
use Rattle.xmp_map.specs.Boxes.{IsInside}
use Rattle.xmp_map.specs.declared.aligned.AlignedDim.{AlignedDim}
use Rattle.xmp_map.specs.Align.{is_unused}
use Rattle.xmp_map.specs.Spread.{sizes_fit}
use Rattle.xmp_map.specs.Held as held
use Rattle.xmp_map.proofs.Counted.{and_left, and_right}
use Rattle.xmp_prog.specs.declared.parts.ProgParts.{ProgParts}
use Rattle.xmp_prog.specs.declared.parts.Array.{Array}
use Rattle.xmp_prog.specs.declared.parts.Home.{Home}
use Rattle.xmp_prog.specs.declared.parts.Home.TheVariants as home
use Rattle.xmp_prog.specs.Tests.{is_image}
use Rattle.xmp_prog.specs.Tests as tests
use Rattle.xmp_prog.specs.Fits.{HomeFits, has_coarrays}
use Rattle.xmp_meaning.specs.Cells.{row_in, read_in}
use Rattle.xmp_meaning.specs.Declarations.{extents, extents_of_array, home_of, home_of_array, is_coarray}
use Rattle.xmp_meaning.specs.Layouts.{Whole, Packed, kept, axes_of, number_from, number_of}
use Rattle.xmp_meaning.proofs.Slots.{whole_numbers, held_numbers}
use Rattle.xmp_move.specs.Sides.{padded, holds_cell, position}
use Rattle.xmp_move.specs.Stores.{word_at}
use Rattle.xmp_move.specs.Laid.{MapFits}
use Rattle.xmp_move.specs.Kept.{IsOfCode, HasThree}
use Rattle.xmp_move.proofs.SidesKept.{inside_short, take_short}
use Rattle.xmp_nodes.proofs.Standing.{IsGlobal}

pub item_of : {A : Type 0} (P : A → Type 0) (xs : List A) (i : ℕ) (x : A) → AllByRecursion P xs → slice_get xs i ≡ Some x → P x
item_of P [] i x h e = cc
item_of P (y ∷ ys) zero x h e = let same : y ≡ x = cc in subst P same h.0
item_of P (y ∷ ys) (suc i) x h e = item_of P ys i x h.1 e

none_is : {A : Type 0} (test : A → Bool) (xs : List A) → list_any test xs ≡ false → AllByRecursion (λ x. test x ≡ false) xs
none_is test [] e = tt
none_is test (x ∷ xs) e = let both : _ = apart (test x) (list_any test xs) e in (both.0, none_is test xs both.1)
  where
    apart : (a b : Bool) → (a || b) ≡ false → (a ≡ false) × (b ≡ false)
    apart true b e = absurd (true≢false e)
    apart false b e = (refl, e)

all_is : {A : Type 0} (test : A → Bool) (xs : List A) → list_all test xs ≡ true → AllByRecursion (λ x. test x ≡ true) xs
all_is test [] e = tt
all_is test (x ∷ xs) e = (and_left (test x) (list_all test xs) e, all_is test xs (and_right (test x) (list_all test xs) e))

pub cell_word : (rows : List (List ℤ)) (array n : ℕ) → read_in rows array (pos n) ≡ word_at (row_in rows array) n
cell_word rows array n = unwrap_or-slice_get (row_in rows array) n (pos 0)

-- ---- cells in three dimensions

firsts : (ls : List AlignedDim) (n : ℕ) → list_all is_unused ls ≡ true → n ≡ length ls → IsInside (replicate n 0) (map (λ l. l.extent) ls)
unfolding IsInside
firsts [] zero u e = tt
firsts [] (suc n) u e = absurd (omega (arith, e))
firsts (l ∷ ls) zero u e = absurd (omega (arith, e))
firsts (l ∷ ls) (suc n) u e =
    let one : l.extent ≡ 1 = eqb-true l.extent 1 (and_left (l.extent == 1) (is_none l.target.dim) (and_left (is_unused l) (list_all is_unused ls) u)) in
    ((let h : 0 < l.extent = omega (arith, one) in h), firsts ls n (and_right (is_unused l) (list_all is_unused ls) u) (let m : n ≡ length ls = omega (arith, e) in m))

padded_in : (ls : List AlignedDim) (dims n : ℕ) (cell : List ℕ) → list_all is_unused (drop dims ls) ≡ true → n + length cell ≡ length ls
    → IsInside cell (take dims (map (λ l. l.extent) ls)) → IsInside (cell ++ replicate n 0) (map (λ l. l.extent) ls)
unfolding IsInside
padded_in ls zero n [] u e i = firsts ls n u (let m : n ≡ length ls = omega (arith, e) in m)
padded_in ls zero n (x ∷ xs) u e i = absurd i
padded_in [] (suc dims) n [] u e i = firsts [] n refl (let m : n ≡ 0 = omega (arith, e) in m)
padded_in [] (suc dims) n (x ∷ xs) u e i = absurd i
padded_in (l ∷ ls) (suc dims) n [] u e i = absurd i
padded_in (l ∷ ls) (suc dims) n (x ∷ xs) u e i = (i.0, padded_in ls dims n xs u (let m : n + length xs ≡ length ls = omega (arith, e) in m) i.1)

pub padded_inside : (m : ArrayMap) (es cell : List ℕ) → HasThree m → take m.dims (held.extents m) ≡ es → IsInside cell es → IsInside (padded cell) (held.extents m)
padded_inside m es cell three fits i =
    let j : IsInside cell (take m.dims (held.extents m)) = subst (IsInside cell) (sym fits) i in
    let a : length cell ≡ length (take m.dims (held.extents m)) = inside_short cell (take m.dims (held.extents m)) j in
    let b : length (take m.dims (held.extents m)) ≤ length (held.extents m) = take_short m.dims (held.extents m) in
    let c : length (held.extents m) ≡ length m.aligned = length-map m.aligned (λ l. l.extent) in
    let t : length m.aligned ≡ 3 = three.aligned in
    padded_in m.aligned m.dims (3 - length cell) cell m.rest (omega (arith, a, b, c, t)) j

module _ (p : ProgParts) (g : IsGlobal p) where
  -- what is known of each array is known by its number; where there is none, nothing is asked
  of_array : (P : Option Array → Type 0) → P None → AllByRecursion (λ a. P (Some a)) p.arrays → (array : ℕ) → P (slice_get p.arrays array)
  of_array P none all array = of_slice (slice_get p.arrays array) refl
    where
      of_slice : (o : Option Array) → slice_get p.arrays array ≡ o → P (slice_get p.arrays array)
      of_slice None e = subst P (sym e) none
      of_slice (Some a) e = subst P (sym e) (item_of (λ a. P (Some a)) p.arrays array a all e)

  pub code : (array : ℕ) → IsOfCode (home_of p array)
  code = of_array (λ o. IsOfCode (home_of_array o)) tt g.axes.arrays

  map_fits : (a : Array) (h : Home) → HomeFits p a h → MapFits h a.extents
  map_fits a home.Copy f = tt
  map_fits a (home.Spread t m) f = f.extents
  map_fits a home.Image f = tt

  all_fit : (all : List Array) → AllByRecursion (λ a. HomeFits p a a.home) all → AllByRecursion (λ a. MapFits a.home a.extents) all
  all_fit [] f = tt
  all_fit (a ∷ all) f = (map_fits a a.home f.0, all_fit all f.1)

  pub fits_map : (array : ℕ) → MapFits (home_of p array) (extents p array)
  fits_map = of_array (λ o. MapFits (home_of_array o) (extents_of_array o)) tt (all_fit p.arrays g.fits.mappings.maps)

  abbrev pub Small : List ℕ → Type 0
  Small ns = list_all (λ n. nat_lt n 4194305) ns ≡ true

  small_sizes : (ns : List ℕ) → list_all is_extent ns ≡ true → Small ns
  small_sizes [] e = refl
  small_sizes (n ∷ ns) e =
      and_both (nat_lt n 4194305) (list_all (λ n. nat_lt n 4194305) ns)
      (let le : n ≤ 4194304 = leb-true n 4194304 (and_right (nat_le 1 n) (nat_le n size_limit) (and_left (is_extent n) (list_all is_extent ns) e)) in lt-ltb n 4194305 (omega (arith, le)))
      (small_sizes ns (and_right (is_extent n) (list_all is_extent ns) e))
    where
      and_both : (a b : Bool) → a ≡ true → b ≡ true → (a && b) ≡ true
      and_both true b e f = f
      and_both false b e f = absurd (true≢false (sym e))

  small_arrays : (all : List Array) → list_all (λ a. sizes_fit a.extents) all ≡ true → AllByRecursion (λ a. Small a.extents) all
  small_arrays [] e = tt
  small_arrays (a ∷ all) e = (
    small_sizes a.extents (and_right (nat_le 1 (length a.extents) && nat_le (length a.extents) 3) (list_all is_extent a.extents) (and_left (sizes_fit a.extents) (list_all (λ a. sizes_fit a.extents) all) e)),
    small_arrays all (and_right (sizes_fit a.extents) (list_all (λ a. sizes_fit a.extents) all) e),
  )

  pub small_extents : (array : ℕ) → Small (extents p array)
  small_extents = of_array (λ o. Small (extents_of_array o)) refl (small_arrays p.arrays g.fits.mappings.extents)

  pub no_images : AllByRecursion (λ a. is_image a.home ≡ false) p.arrays
  no_images = none_is (λ a. is_image a.home) p.arrays (sym g.fits.kinds.coarrays ∙ ap has_coarrays g.kind)

  pub not_image : (array : ℕ) → is_image (home_of p array) ≡ false
  not_image = of_array (λ o. is_image (home_of_array o) ≡ false) refl no_images

  pub not_coarray : (array : ℕ) → is_coarray p array ≡ false
  not_coarray = of_array (λ o. tests.is_coarray o ≡ false) refl no_images

  -- ---- numbers of cells

  pub whole_at : (array : ℕ) (xs : List ℕ) → IsInside xs (extents p array) → number_of Whole p array 0 xs ≡ pos (row_major (extents p array) xs)
  whole_at array xs i = whole_numbers p array 0 xs (inside_short xs (extents p array) i) ∙ ap pos (let e : 0 * product (extents p array) + row_major (extents p array) xs ≡ row_major (extents p array) xs = omega arith in e)

  take_all : (xs zs : List ℕ) (n : ℕ) → length xs ≡ n → take n (xs ++ zs) ≡ xs
  take_all [] zs zero l = refl
  take_all [] zs (suc n) l = absurd (omega (arith, l))
  take_all (x ∷ xs) zs zero l = absurd (omega (arith, l))
  take_all (x ∷ xs) zs (suc n) l = ap (λ ys. x ∷ ys) (take_all xs zs n (let m : length xs ≡ n = omega (arith, l) in m))

  took : {A : Type 0} (n : ℕ) (xs : List A) → n ≤ length xs → length (take n xs) ≡ n
  took zero xs l = refl
  took (suc n) [] l = absurd (omega (arith, l))
  took (suc n) (x ∷ xs) l = ap suc (took n xs (let m : n ≤ length xs = omega (arith, l) in m))

  dims_of : (m : ArrayMap) (es xs : List ℕ) → HasThree m → take m.dims (held.extents m) ≡ es → IsInside xs es → length xs ≡ m.dims
  dims_of m es xs three fits i =
      let l : length (held.extents m) ≡ length m.aligned = length-map m.aligned (λ l. l.extent) in
      let t : length m.aligned ≡ 3 = three.aligned in
      let d : m.dims ≤ 3 = m.most in
      inside_short xs es i ∙ ap (λ (ys : List ℕ). length ys) (sym fits) ∙ took m.dims (held.extents m) (omega (arith, l, t, d))

  pub packed_at : (array node : ℕ) (xs : List ℕ) → IsInside xs (extents p array) → holds_cell (home_of p array) node xs ≡ true
      → number_of (Packed node) p array 0 xs ≡ pos (position (home_of p array) (extents p array) node xs)
  packed_at array node xs i holds = of_home (home_of p array) refl
    where
      of_home : (h : Home) → home_of p array ≡ h → number_of (Packed node) p array 0 xs ≡ pos (position (home_of p array) (extents p array) node xs)
      of_home home.Copy e =
          ap (λ h. pos (0 * product (extents p array)) +ℤ number_from (axes_of (kept (Packed node) h) (extents p array)) (pos 0) xs) e
          ∙ whole_at array xs i
          ∙ ap (λ h. pos (position h (extents p array) node xs)) (sym e)
      of_home (home.Spread t m) e =
          let three : HasThree m = subst IsOfCode e (code array) in
          let fits : take m.dims (held.extents m) ≡ extents p array = subst (λ h. MapFits h (extents p array)) e (fits_map array) in
          ap (number_of (Packed node) p array 0) (sym (take_all xs _ m.dims (dims_of m (extents p array) xs three fits i)))
          ∙ held_numbers p array t node m (padded xs) e (sym fits) (padded_inside m (extents p array) xs three fits i) (subst (λ h. holds_cell h node xs ≡ true) e holds)
          ∙ ap (λ h. pos (position h (extents p array) node xs)) (sym e)
      of_home home.Image e = absurd (true≢false (sym (ap is_image e) ∙ not_image array))
