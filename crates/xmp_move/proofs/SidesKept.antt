-- The slots of a side's cells, and their owners.
use Rattle.std.proofs.Common.{◌≡◌, subst, ◌+◌, ◌-◌, ◌<◌, ◌≤◌, ◌++◌, ℕ, ℤ, zero, suc, true, List, [], ◌∷◌, refl, sym, ◌∙◌, ap, arith, length, map, take, drop}
use Rattle.std.specs.Prelude.{◌==◌, is_none, replicate}
use Rattle.std.specs.List.{list_all, range_with_len}
use Rattle.std.proofs.lemmas.Bool.{eqb-true}
use Rattle.std.proofs.lemmas.List.{length-map}
use Rattle.xmp_map.specs.declared.aligned.AlignedDim.{AlignedDim}
use Rattle.xmp_map.specs.declared.array_map.ArrayMap.{ArrayMap}
use Rattle.xmp_map.specs.RowMajor.{product, row_major}
use Rattle.xmp_map.specs.Boxes.{IsInside}
use Rattle.xmp_map.specs.Align.{is_unused}
use Rattle.xmp_map.specs.Axes.{owner_along}
use Rattle.xmp_map.specs.Held as held
use Rattle.xmp_map.proofs.Three.{three_of}
use Rattle.xmp_map.proofs.Order.{row_major-lt, row_major-unique, inside_below}
use Rattle.xmp_map.proofs.Counted.{slot_lt, slot_unique, words_are}
use Rattle.xmp_map.proofs.MapLaws.{blank}
use Rattle.xmp_map.proofs.OwnerLaws.{OwnerIs, owner_is, owner_number, owner_place-is}
use Rattle.xmp_prog.specs.declared.parts.Home.{Home}
use Rattle.xmp_prog.specs.declared.parts.Home.TheVariants as home
use Rattle.xmp_meaning.specs.Layouts.{Packed, words_of}
use Rattle.xmp_move.specs.Sides.{padded, position, owns_cell, holds_cell, slot_in}
use Rattle.xmp_move.specs.Whole.{HasSlots, HasOwner}
use Rattle.xmp_move.specs.Laid.{MapFits}
use Rattle.xmp_move.specs.Kept.{HasThree, IsOfCode, SidesAreKept, CellsAreOwned, OwnersHold, ReflectsArrays}
use Rattle.xmp_move.proofs.Members.{and_left, and_right}
use Rattle.xmp_move.proofs.Boxes.{in_range, range_in}
use Rattle.xmp_move.proofs.Arrays.{reflects}

-- ---- cells in three dimensions

firsts : (ls : List AlignedDim) (n : ℕ) → list_all is_unused ls ≡ true → n ≡ length ls → IsInside (replicate n 0) (map (λ l. l.extent) ls)
unfolding IsInside
firsts [] zero u e = tt
firsts [] (suc n) u e = absurd (omega (arith, e))
firsts (l ∷ ls) zero u e = absurd (omega (arith, e))
firsts (l ∷ ls) (suc n) u e =
    let one : l.extent ≡ 1 = eqb-true l.extent 1 (and_left (l.extent == 1) (is_none l.target.dim) (and_left (is_unused l) (list_all is_unused ls) u)) in
    ((let h : 0 < l.extent = omega (arith, one) in h), firsts ls n (and_right (is_unused l) (list_all is_unused ls) u) (let m : n ≡ length ls = omega (arith, e) in m))

padded_in : (ls : List AlignedDim) (dims n : ℕ) (cell : List ℕ) → list_all is_unused (drop dims ls) ≡ true → n + length cell ≡ length ls
    → IsInside cell (take dims (map (λ l. l.extent) ls)) → IsInside (cell ++ replicate n 0) (map (λ l. l.extent) ls)
unfolding IsInside
padded_in ls zero n [] u e i = firsts ls n u (let m : n ≡ length ls = omega (arith, e) in m)
padded_in ls zero n (x ∷ xs) u e i = absurd i
padded_in [] (suc dims) n [] u e i = firsts [] n refl (let m : n ≡ 0 = omega (arith, e) in m)
padded_in [] (suc dims) n (x ∷ xs) u e i = absurd i
padded_in (l ∷ ls) (suc dims) n [] u e i = absurd i
padded_in (l ∷ ls) (suc dims) n (x ∷ xs) u e i = (i.0, padded_in ls dims n xs u (let m : n + length xs ≡ length ls = omega (arith, e) in m) i.1)

pub inside_short : (cell es : List ℕ) → IsInside cell es → length cell ≡ length es
unfolding IsInside
inside_short [] [] i = refl
inside_short (x ∷ xs) (e ∷ es) i = ap suc (inside_short xs es i.1)
inside_short [] (e ∷ es) i = absurd i
inside_short (x ∷ xs) [] i = absurd i

pub take_short : {A : Type 0} (n : ℕ) (xs : List A) → length (take n xs) ≤ length xs
take_short zero xs = omega arith
take_short (suc n) [] = omega arith
take_short (suc n) (x ∷ xs) = let r = take_short n xs in omega (arith, r)

module _ (m : ArrayMap) (three : HasThree m) (es : List ℕ) (fits : take m.dims (held.extents m) ≡ es) where
  padded_inside : (cell : List ℕ) → IsInside cell es → IsInside (padded cell) (held.extents m)
  padded_inside cell i =
      let j : IsInside cell (take m.dims (held.extents m)) = rw fits i in
      let a : length cell ≡ length (take m.dims (held.extents m)) = inside_short cell (take m.dims (held.extents m)) j in
      let b : length (take m.dims (held.extents m)) ≤ length (held.extents m) = take_short m.dims (held.extents m) in
      let c : length (held.extents m) ≡ length m.aligned = length-map m.aligned (λ l. l.extent) in
      let t = three.aligned in
      padded_in m.aligned m.dims (3 - length cell) cell m.rest (omega (arith, a, b, c, t)) j

  same_padded : (cell other : List ℕ) → IsInside cell es → IsInside other es → padded cell ≡ padded other → cell ≡ other
  same_padded cell other i j e = heads cell other (replicate (3 - length cell) 0) (replicate (3 - length other) 0) (inside_short cell es i ∙ sym (inside_short other es j)) e
    where
      heads : (xs ys us vs : List ℕ) → length xs ≡ length ys → xs ++ us ≡ ys ++ vs → xs ≡ ys
      heads [] [] us vs l e = refl
      heads [] (y ∷ ys) us vs l e = absurd (omega (arith, l))
      heads (x ∷ xs) [] us vs l e = absurd (omega (arith, l))
      heads (x ∷ xs) (y ∷ ys) us vs l e =
          let first : x ≡ y = cc in
          let rest : xs ++ us ≡ ys ++ vs = cc in
          ap (λ z. z ∷ xs) first ∙ ap (λ zs. y ∷ zs) (heads xs ys us vs (let k : length xs ≡ length ys = omega (arith, l) in k) rest)

  tests_long : (node : ℕ) → length (held.tests m node) ≡ length (held.extents m)
  tests_long node = simp length-map

  slot_below : (node : ℕ) (cell : List ℕ) → IsInside cell es → held.holds m node (padded cell) ≡ true → held.slot m node (padded cell) < held.words m node
  slot_below node cell i h =
      let lt = slot_lt (held.tests m node) (padded cell) (held.extents m) (tests_long node) (inside_below (padded cell) (held.extents m) (padded_inside cell i)) h in
      let w = words_are (held.tests m node) (held.extents m) (tests_long node) in
      omega (arith, lt, w)

  slot_one : (node : ℕ) (cell other : List ℕ) → IsInside cell es → IsInside other es → held.holds m node (padded cell) ≡ true → held.holds m node (padded other) ≡ true
      → held.slot m node (padded cell) ≡ held.slot m node (padded other) → cell ≡ other
  slot_one node cell other i j h k e =
      same_padded cell other i j
      (slot_unique (held.tests m node) (padded cell) (padded other) (held.extents m) (tests_long node)
      (inside_below (padded cell) (held.extents m) (padded_inside cell i)) (inside_below (padded other) (held.extents m) (padded_inside other j)) h k e)

  -- where the owner stands
  owner_at : (cell : List ℕ) → IsInside cell es → OwnerIs m (padded cell)
      (owner_along m.template.spread m.aligned (padded cell) 0 ∷ owner_along m.template.spread m.aligned (padded cell) 1 ∷ owner_along m.template.spread m.aligned (padded cell) 2 ∷ [])
  owner_at cell i =
      let inside = padded_inside cell i in
      let c : length (held.extents m) ≡ length m.aligned = length-map m.aligned (λ l. l.extent) in
      owner_is m _ _ _ (padded cell) _ _ _ (three_of m.aligned blank blank blank three.aligned) three.spread three.sizes
      (inside_short (padded cell) (held.extents m) inside ∙ c ∙ three.aligned) inside refl refl refl

difference : (a b c : ℕ) → a + b ≡ a + c → b ≡ c
difference a b c e = omega (arith, e)

kept_at : (base words slot size : ℕ) → base + words ≤ size → slot < words → base + slot < size
kept_at base words slot size a b = omega (arith, a, b)

-- whole rows
whole : (base : ℕ) (es : List ℕ) (size : ℕ) (store : List ℤ) → base + product es ≤ size → size ≡ length store → HasSlots es (λ _. true) (λ cell. base + row_major es cell) store
whole base es size store long e = record {
  inside = λ cell i h. let b = row_major-lt cell es (inside_below cell es i) in omega (arith, b, long, e);
  apart = λ cell other i j h k same. row_major-unique cell other es (inside_below cell es i) (inside_below other es j) (difference base (row_major es cell) (row_major es other) same);
}

-- the same at each home
kept : (h : Home) (base : ℕ) (es : List ℕ) (node size : ℕ) (store : List ℤ) → IsOfCode h → MapFits h es → base + words_of (Packed node) h (product es) ≤ size → size ≡ length store
    → HasSlots es (holds_cell h node) (λ cell. base + position h es node cell) store
kept (home.Spread t m) base es node size store three fits long e = record {
  inside = λ cell i h. let b = slot_below m three es fits node cell i h in let k = kept_at base (held.words m node) (held.slot m node (padded cell)) size long b in omega (arith, k, e);
  apart = λ cell other i j h k same.
      slot_one m three es fits node cell other i j h k (difference base (held.slot m node (padded cell)) (held.slot m node (padded other)) same);
}
kept home.Copy base es node size store three fits long e = whole base es size store long e
kept home.Image base es node size store three fits long e = whole base es size store long e

pub sides_are_kept : SidesAreKept
sides_are_kept side node store code fits long = kept side.home side.base side.extents node (length store) store code fits long refl

pub cells_are_owned : CellsAreOwned
cells_are_owned t m es cell three fits i =
    let o = owner_at m three es fits cell i in
    let below = row_major-lt _ m.template.grid.sizes (inside_below _ m.template.grid.sizes o.inside) in
    record {
      owner = row_major m.template.grid.sizes
          (owner_along m.template.spread m.aligned (padded cell) 0 ∷ owner_along m.template.spread m.aligned (padded cell) 1 ∷ owner_along m.template.spread m.aligned (padded cell) 2 ∷ []);
      among = in_range 0 (held.node_count m) _ (omega arith) (omega (arith, below));
      owns_it = o.owner _ (owner_place-is m (padded cell) _ _ o refl);
      only = λ k j h. owner_number m (padded cell) _ _ k o refl (let r = range_in 0 (held.node_count m) k j in let l : k < held.node_count m = omega (arith, r) in l) h;
    }

pub owners_hold : OwnersHold
owners_hold t m es cell node three fits i lt h =
    let o = owner_at m three es fits cell i in
    o.holder node (o.only node lt h)

both_of : (t : ℕ) (m : ArrayMap) (h : Home) (es : List ℕ) → h ≡ home.Spread t m → HasThree m → MapFits h es → IsOfCode h × MapFits (home.Spread t m) es
both_of t m h es e three fits = (rw e three, subst (λ h. MapFits h es) e fits)

owned_by : (t : ℕ) (m : ArrayMap) (h : Home) (es cell : List ℕ) → h ≡ home.Spread t m → HasThree m → MapFits (home.Spread t m) es → IsInside cell es
    → HasOwner (owns_cell h) (range_with_len 0 (held.node_count m)) cell
owned_by t m h es cell e three fits i = let o = cells_are_owned t m es cell three fits i in rw e o

pub reflects_arrays : ReflectsArrays
reflects_arrays conv array t m args sources node values e three fits long lt keeps shows =
    let b = both_of t m array.home array.extents e three fits in
    reflects conv (holds_cell array.home) (owns_cell array.home) (slot_in array) array.extents sources (sources node) node
    (range_with_len 0 (held.node_count m)) values
    (sides_are_kept array node (sources node) b.0 fits long)
    (λ cell i. owned_by t m array.home array.extents cell e three b.1 i)
    keeps
    (λ k j. let r = range_in 0 (held.node_count m) k j in shows k (let l : k < held.node_count m = omega (arith, r) in l))
    (λ cell i h. shows node lt cell i (and_right (holds_cell array.home node cell) (owns_cell array.home node cell) h))
