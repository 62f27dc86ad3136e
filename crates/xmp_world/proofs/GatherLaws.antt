-- The cells of a world, each from the store of its owner.
use Rattle.std.proofs.Common.{◌≡◌, ◌<◌, ◌+◌, ◌-◌, ◌⊎◌, inl, inr, ◌++◌, if◌then◌else◌, ℕ, zero, suc, ℤ, Bool, true, false, true≢false, List, [], ◌∷◌, map, length, drop, take, get_or, Some, refl, sym, subst, ap, ◌∙◌, arith}
use Rattle.std.specs.Prelude.{slice_get, unwrap_or, IsTrue}
use Rattle.std.specs.List.{range_with_len, sum_by}
use Rattle.std.proofs.lemmas.Option.{slice_get_within, get_or_from_slice_get}
use Rattle.std.proofs.lemmas.List.Sums.{sum_by_more}
use Rattle.std.proofs.lemmas.List.FromFn.{map-range_with_len_more, length-map-range_with_len, get_or-map-range_with_len}
use Rattle.xmp_map.specs.declared.array_map.ArrayMap.{ArrayMap}
use Rattle.xmp_map.specs.RowMajor.{product, unravel}
use Rattle.xmp_map.specs.Held as held
use Rattle.xmp_prog.specs.declared.parts.Array.{Array}
use Rattle.xmp_prog.specs.declared.parts.Home.{Home}
use Rattle.xmp_prog.specs.declared.parts.Home.TheVariants as home
use Rattle.xmp_prog.specs.declared.parts.ProgParts.{ProgParts}
use Rattle.xmp_prog.specs.Tests.{is_image}
use Rattle.xmp_prog.specs.Fits.{node_count}
use Rattle.xmp_meaning.specs.Declarations.{extents, home_of}
use Rattle.xmp_meaning.specs.Programs.{told, told_of}
use Rattle.xmp_meaning.specs.Stores.{base_of, store_length, image_words, store_words}
use Rattle.xmp_move.specs.Sides.{padded, owns_cell, position}
use Rattle.xmp_move.specs.Stores.{IsIn, word_at}
use Rattle.xmp_move.proofs.Boxes.{range_in}
use Rattle.xmp_nodes.specs.Worlds.{World}
use Rattle.xmp_nodes.specs.Answers.{owner_among, gathered_row}
use Rattle.xmp_nodes.proofs.Each.{ranged_at}
use Rattle.xmp_nodes.proofs.Standing.{IsGlobal}
use Rattle.xmp_nodes.proofs.PackedRows.{IsSpreadArray, spread_array, few_dims}
use Rattle.xmp_nodes.proofs.ReflectCounts.{product_same}
use Rattle.xmp_nodes.proofs.MoveCounts.{cell_padded}
use Rattle.xmp_nodes.proofs.CellNumbers.{not_coarray, not_image}
use Rattle.xmp_world.specs.Gathering.{IsOneView, cell_word, array_base, node_bases, all_bases}
use Rattle.xmp_world.proofs.PlaceLaws.{to_true}
use Rattle.xmp_world.proofs.ReportLaws.{drop_at}

pub global_of : (p : ProgParts) → IsOneView p → IsGlobal p
global_of p view = record { fits = view.fits; kind = view.kind; axes = view.axes }

-- ---- where arrays begin

pub bases_long : (p : ProgParts) (bases : List (List ℕ)) → bases ≡ all_bases p → length bases ≡ node_count p
bases_long p bases e = ap length e ∙ length-map-range_with_len (node_bases p) 0 (node_count p)

pub base_there : (p : ProgParts) (bases : List (List ℕ)) (none : List ℕ) → bases ≡ all_bases p → (node array : ℕ) → node < node_count p → array < length p.arrays
    → slice_get (get_or bases node none) array ≡ Some (array_base p node array)
base_there p bases none e node array below inside =
    let z : 0 + node ≡ node = omega arith in
    ap (λ bs. slice_get (get_or bs node none) array) e
    ∙ (ap (λ bs. slice_get bs array) (get_or-map-range_with_len (node_bases p) 0 (node_count p) node node none below z)
    ∙ ranged_at (array_base p node) (length p.arrays) array inside)

pub base_more : (p : ProgParts) (node k words : ℕ) (a : Array) → slice_get p.arrays k ≡ Some a → words ≡ store_words node a
    → array_base p node k + words ≡ array_base p node (k + 1)
base_more p node k words a e f =
    let more = sum_by_more (store_words node) p.arrays k a (slice_get_within p.arrays k a e) in
    let here = ap (store_words node) (get_or_from_slice_get p.arrays k a a e) in
    omega (arith, more, here, f)

pub listed_more : (f : ℕ → ℕ) (k next : ℕ) (ns new : List ℕ) → ns ≡ map f (range_with_len 0 k) → next ≡ f k → new ≡ ns ++ next ∷ [] → new ≡ map f (range_with_len 0 (k + 1))
listed_more f k next ns new a b c =
    let z : 0 + k ≡ k = omega arith in
    c ∙ ((λ i. a i ++ b i ∷ []) ∙ sym (map-range_with_len_more f 0 k k z))

-- ---- the owner

in_range : (a n k : ℕ) → k < n → IsIn (a + k) (range_with_len a n)
unfolding IsIn
in_range a zero k l = absurd (omega (arith, l))
in_range a (suc n) zero l = inl (let z : a + 0 ≡ a = omega arith in z)
in_range a (suc n) (suc k) l = inr (let m : a + 1 + k ≡ a + suc k = omega arith in subst (λ i. IsIn i (range_with_len (a + 1) n)) m (in_range (a + 1) n k (omega (arith, l))))

first_owner : (h : Home) (cell ks : List ℕ) (node : ℕ) → IsIn node ks → owns_cell h node cell ≡ true
    → ((k : ℕ) → IsIn k ks → owns_cell h k cell ≡ true → k ≡ node) → owner_among h cell ks ≡ node
unfolding IsIn
first_owner h cell [] node i o only = absurd i
first_owner h cell (x ∷ ks) node i o only = at_first (owns_cell h x cell) refl i (λ j. first_owner h cell ks node j o (λ k l. only k (inr l)))
  where
    at_first : (b : Bool) → owns_cell h x cell ≡ b → (node ≡ x) ⊎ IsIn node ks → (IsIn node ks → owner_among h cell ks ≡ node) → (if b then x else owner_among h cell ks) ≡ node
    at_first true e j rest = only x (inl refl) e
    at_first false e (inl f) rest = absurd (true≢false (sym o ∙ (ap (λ n. owns_cell h n cell) f ∙ e)))
    at_first false e (inr j) rest = rest j

module _ (p : ProgParts) (view : IsOneView p) (w : World) where
  base_is : (node array : ℕ) → base_of p node array ≡ array_base p node array
  base_is node array =
      ap (λ b. if b then store_length p node + sum_by image_words (take array p.arrays) else array_base p node array) (not_coarray p (global_of p view) array)

  module _ (array t : ℕ) (m : ArrayMap) (e : home_of p array ≡ home.Spread t m) where
    of : IsSpreadArray p array t m
    of = spread_array p (global_of p view) array t m e

    pub same_nodes : held.node_count m ≡ node_count p
    same_nodes = of.nodes

    pub same_count : product (held.extents m) ≡ product (extents p array)
    same_count = product_same t m (extents p array) of.three of.fits (few_dims p (global_of p view) array t m of)

    -- the cell of a number stands at its owner's slot
    pub cell_is : (sizes : List ℕ) → sizes ≡ held.extents m → (n node : ℕ) → n < product sizes → node < held.node_count m
        → IsTrue (held.owns m node (unravel sizes n))
        → ((other : ℕ) → other < held.node_count m → IsTrue (held.owns m other (unravel sizes n)) → other ≡ node)
        → cell_word p w array n ≡ word_at (unwrap_or (slice_get w.stores node) []) (array_base p node array + held.slot m node (unravel sizes n))
    cell_is sizes same n node small below owns only =
        ap (λ h. word_on_home h (owner_among h cell nodes)) e
        ∙ (ap (word_on_home (home.Spread t m)) first
        ∙ (ap (λ b. word_at (unwrap_or (slice_get w.stores node) []) (b + held.slot m node (padded cell))) (base_is node array)
        ∙ ap (λ c. word_at (unwrap_or (slice_get w.stores node) []) (array_base p node array + held.slot m node c)) there))
      where
        cell : List ℕ
        cell = unravel (extents p array) n

        nodes : List ℕ
        nodes = range_with_len 0 (node_count p)

        word_on_home : Home → ℕ → ℤ
        word_on_home h k = word_at (unwrap_or (slice_get w.stores k) []) (base_of p k array + position h (extents p array) k cell)

        inside : n < product (extents p array)
        inside = let a = ap product same in let b = same_count in omega (arith, small, a, b)

        there : padded cell ≡ unravel sizes n
        there = cell_padded t m (extents p array) of.three of.fits (few_dims p (global_of p view) array t m of) n inside ∙ ap (λ s. unravel s n) (sym same)

        first : owner_among (home.Spread t m) cell nodes ≡ node
        first = first_owner (home.Spread t m) cell nodes node
            (let z : 0 + node ≡ node = omega arith in subst (λ k. IsIn k nodes) z (in_range 0 (node_count p) node (let l = same_nodes in omega (arith, below, l))))
            (ap (held.owns m node) there ∙ to_true _ owns)
            (λ k i o. only k (let r = range_in 0 (node_count p) k i in let l = same_nodes in omega (arith, r, l)) (sym (ap (held.owns m k) there) ∙ o))

  -- no array is a coarray
  pub never_image : (array : ℕ) → home_of p array ≡ home.Image → ⊥
  never_image array e = true≢false (sym (ap is_image e) ∙ not_image p (global_of p view) array)

  -- ---- the rows that are told

  pub told_more : (k : ℕ) (a : Array) → slice_get p.arrays k ≡ Some a → k < length p.arrays
      → told p (drop k p.arrays) (map (gathered_row p w) (range_with_len k (length p.arrays - k)))
      ≡ told_of p a a.home (gathered_row p w k) ++ told p (drop (k + 1) p.arrays) (map (gathered_row p w) (range_with_len (k + 1) (length p.arrays - (k + 1))))
  told_more k a e l =
      let s : length p.arrays - k ≡ suc (length p.arrays - (k + 1)) = omega (arith, l) in
      ap (λ n. told p (drop k p.arrays) (map (gathered_row p w) (range_with_len k n))) s
      ∙ ap (λ xs. told p xs (gathered_row p w k ∷ map (gathered_row p w) (range_with_len (k + 1) (length p.arrays - (k + 1))))) (drop_at p.arrays k a e)
