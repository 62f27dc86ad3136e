-- A node that owns a point holds the cells near it, and owns those at it.
use Rattle.std.proofs.Common.{◌≡◌, ◌<◌, ◌≤◌, ◌+◌, ◌==◌, ◌&&◌, ◌||◌, if◌then◌else◌, ℕ, zero, suc, ℤ, pos, negsuc, ◌+ℤ◌, Bool, true, false, true≢false, List, [], ◌∷◌, length, map, Option, Some, None, refl, sym, subst, ap, ◌∙◌, arith, eqb-true, eq-eqb}
use Rattle.std.specs.Prelude.{slice_index, int_le, nat_lt, slice_get, unwrap_or, is_none}
use Rattle.std.specs.List.{list_all}
use Rattle.std.proofs.lemmas.Int.{ints}
use Rattle.std.proofs.lemmas.Bool.{leb-true}
use Rattle.std.proofs.lemmas.List.{length-map}
use Rattle.xmp_dist.specs.declared.form.Dist.{Dist}
use Rattle.xmp_dist.specs.declared.form.Dist.TheVariants.{Whole, Block, Cyclic, Gblock}
use Rattle.xmp_dist.specs.declared.dimension.Dim.{Dim}
use Rattle.xmp_dist.specs.Table.{owner_by}
use Rattle.xmp_dist.specs.Owner.{owner_inside, nearest, owner}
use Rattle.xmp_map.specs.declared.fault.MapError.TheVariants.{Align, Shadow}
use Rattle.xmp_map.specs.declared.spread_dim.SpreadDim.{SpreadDim}
use Rattle.xmp_map.specs.declared.aligned.AlignedDim.{AlignedDim}
use Rattle.xmp_map.specs.declared.array_map.ArrayMap.{ArrayMap}
use Rattle.xmp_map.specs.RowMajor.{unravel}
use Rattle.xmp_map.specs.Boxes.{IsInside, all_pass}
use Rattle.xmp_map.specs.Shadow.{has_shadow, holds_at}
use Rattle.xmp_map.specs.Spread.{is_whole, node_along, owns_point}
use Rattle.xmp_map.specs.Align.{under, names_fit, positions_fit, target_fits, shadow_fits, is_chunked_under, is_target, is_shadow, map_fault}
use Rattle.xmp_map.specs.Axes.{owner_along}
use Rattle.xmp_map.specs.Held.{extents, node_count, offset_of, owns_over, holds_over, owns, IsCell}
use Rattle.xmp_map.proofs.Counted.{and_left, and_right}
use Rattle.xmp_map.proofs.Order.{inside_below, length_below}
use Rattle.xmp_map.proofs.Three.{three_of}
use Rattle.xmp_map.proofs.OwnerLaws.{OwnerIs, owner_is}
use Rattle.xmp_meaning_laws.specs.Laws.{OneOwner}
use Rattle.xmp_meaning_laws.specs.Near.{position_of, is_beside, is_beside_on, is_at, PointsReach}
use Rattle.xmp_meaning_laws.proofs.CountedLoops.{both_true}
use Rattle.xmp_meaning_laws.proofs.Owners.{points_have_owners}
use Rattle.xmp_meaning_laws.proofs.Shadows.{shadow_is_held}

-- ---- one dimension

nearest_inside : (size : ℕ) (g : ℤ) → 0 < size → nearest size g < size
nearest_inside size (pos g) p = omega (arith, p)
nearest_inside size (negsuc g) p = p

-- the nearest position inside is as near
near_low : (size : ℕ) (g : ℤ) (low y : ℕ) → int_le g (pos (y + low)) ≡ true → nearest size g ≤ y + low
near_low size (pos g) low y h = let a : g ≤ y + low = leb-true g (y + low) h in omega (arith, a)
near_low size (negsuc g) low y h = omega arith

behind_of : (g high y : ℕ) → int_le (pos y) (pos g +ℤ pos high) ≡ true → y ≤ g + high
behind_of g high y h = grind (arith, ints)

behind_before : (g high y : ℕ) → int_le (pos y) (negsuc g +ℤ pos high) ≡ true → y ≤ high
behind_before g high y h = grind (arith, ints)

near_high : (size : ℕ) (g : ℤ) (high y : ℕ) → y < size → int_le (pos y) (g +ℤ pos high) ≡ true → y ≤ nearest size g + high
near_high size (pos g) high y lt h = let a : y ≤ g + high = behind_of g high y h in omega (arith, a, lt)
near_high size (negsuc g) high y lt h = let a : y ≤ high = behind_before g high y h in omega (arith, a)

whole_owner : (dist : Dist) (size nodes g : ℕ) → is_whole dist ≡ true → owner_by dist size nodes g ≡ 0
whole_owner Whole size nodes g e = refl
whole_owner Block size nodes g e = absurd (true≢false (sym e))
whole_owner (Cyclic w) size nodes g e = absurd (true≢false (sym e))
whole_owner (Gblock ls) size nodes g e = absurd (true≢false (sym e))

first_holds : (d : Dim) (c low high g : ℕ) → owner_inside d g ≡ c → holds_at d c low high g ≡ true
unfolding holds_at
first_holds d c low high g e = of_test (owner_inside d g == c) _ (eq-eqb (owner_inside d g) c e)
  where
    of_test : (a b : Bool) → a ≡ true → (a || b) ≡ true
    of_test true b e = refl
    of_test false b e = absurd (true≢false (sym e))

in_whole : (at : List ℕ) (s : SpreadDim) (y : ℕ) → is_whole s.dim.dist ≡ true → owner_inside s.dim y ≡ node_along at s
unfolding owner_inside
in_whole at s y e = whole_owner s.dim.dist s.dim.size s.dim.nodes y e ∙ sym (ap (λ b. if b then 0 else slice_index at s.axis) e)

either_way : (w b : Bool) → (w || b) ≡ true → w ≡ false → b ≡ true
either_way true b e f = absurd (true≢false f)
either_way false b e f = e

beside_held : (s : SpreadDim) (at : List ℕ) (g : ℤ) (low high y : ℕ) → y < s.dim.size → owner s.dim g ≡ node_along at s
    → (has_shadow s.dim.dist ≡ false → (low ≡ 0) × (high ≡ 0)) → (is_whole s.dim.dist || is_beside g low high y) ≡ true
    → holds_at s.dim (node_along at s) low high y ≡ true
beside_held s at g low high y lt own none h = at_test (is_whole s.dim.dist) refl
  where
    at_test : (w : Bool) → is_whole s.dim.dist ≡ w → holds_at s.dim (node_along at s) low high y ≡ true
    at_test true e = first_holds s.dim (node_along at s) low high y (in_whole at s y e)
    at_test false e =
        let b : is_beside g low high y ≡ true = either_way (is_whole s.dim.dist) (is_beside g low high y) h e in
        shadow_is_held s.dim (node_along at s) low high (nearest s.dim.size g) y (nearest_inside s.dim.size g (omega (arith, lt))) own
        (near_low s.dim.size g low y (and_left (int_le g (pos (y + low))) (int_le (pos y) (g +ℤ pos high)) b))
        (near_high s.dim.size g high y lt (and_right (int_le g (pos (y + low))) (int_le (pos y) (g +ℤ pos high)) b)) none

only_same : (size : ℕ) (g : ℤ) (y : ℕ) → y < size → nearest size g ≤ y + 0 → y ≤ nearest size g + 0 → nearest size g ≡ y
only_same size g y lt a b = omega (arith, a, b)

at_owned : (s : SpreadDim) (at : List ℕ) (g : ℤ) (y : ℕ) → y < s.dim.size → owner s.dim g ≡ node_along at s
    → (is_whole s.dim.dist || is_beside g 0 0 y) ≡ true → owner_inside s.dim y ≡ node_along at s
at_owned s at g y lt own h = at_test (is_whole s.dim.dist) refl
  where
    at_test : (w : Bool) → is_whole s.dim.dist ≡ w → owner_inside s.dim y ≡ node_along at s
    at_test true e = in_whole at s y e
    at_test false e =
        let b : is_beside g 0 0 y ≡ true = either_way (is_whole s.dim.dist) (is_beside g 0 0 y) h e in
        ap (owner_inside s.dim) (sym (only_same s.dim.size g y lt
        (near_low s.dim.size g 0 y (and_left (int_le g (pos (y + 0))) (int_le (pos y) (g +ℤ pos 0)) b))
        (near_high s.dim.size g 0 y lt (and_right (int_le g (pos (y + 0))) (int_le (pos y) (g +ℤ pos 0)) b)))) ∙ own

-- ---- the owner of a point, dimension by dimension

owner_there : (at : List ℕ) (ss : List SpreadDim) (gs : List ℤ) (d : ℕ) (s : SpreadDim) → owns_point at ss gs ≡ true → d < length gs → slice_get ss d ≡ Some s
    → owner s.dim (unwrap_or (slice_get gs d) (pos 0)) ≡ node_along at s
owner_there at [] gs d s o lt e = cc
owner_there at (x ∷ ss) [] d s o lt e = absurd (omega (arith, lt))
owner_there at (x ∷ ss) (g ∷ gs) zero s o lt e =
    let same : x ≡ s = cc in
    subst (λ y. owner y.dim g ≡ node_along at y) same (eqb-true _ _ (and_left (owner x.dim g == node_along at x) (owns_point at ss gs) o))
owner_there at (x ∷ ss) (g ∷ gs) (suc d) s o lt e =
    owner_there at ss gs d s (and_right (owner x.dim g == node_along at x) (owns_point at ss gs) o) (let q : d < length gs = omega (arith, lt) in q) e

-- ---- what a map has in a dimension

module _ (dims : ℕ) (ss : List SpreadDim) (at : List ℕ) (point : List ℤ) (long : length point ≡ dims) (own : owns_point at ss point ≡ true) where
  some_under : (target : Option ℕ) (offset : ℤ) (extent : ℕ) (s : SpreadDim) → target_fits dims ss target offset extent ≡ true → under ss target ≡ Some s
      → (owner s.dim (position_of point target) ≡ node_along at s) × (extent + offset_of offset ≤ s.dim.size)
  some_under None offset extent s f e = cc
  some_under (Some d) offset extent s f e = (
    owner_there at ss point d s own (let lt : d < dims = leb-true (suc d) dims (and_left (nat_lt d dims) (positions_fit offset extent (slice_get ss d)) f) in omega (arith, lt, long)) e,
    of_offset offset (subst (λ u. positions_fit offset extent u ≡ true) e (and_right (nat_lt d dims) (positions_fit offset extent (slice_get ss d)) f)),
  )
    where
      of_offset : (o : ℤ) → positions_fit o extent (Some s) ≡ true → extent + offset_of o ≤ s.dim.size
      of_offset (pos n) h = leb-true (extent + n) s.dim.size h
      of_offset (negsuc n) h = absurd (true≢false (sym h))

  no_shadow : (target : Option ℕ) (low high : ℕ) (s : SpreadDim) → shadow_fits ss target low high ≡ true → under ss target ≡ Some s
      → has_shadow s.dim.dist ≡ false → (low ≡ 0) × (high ≡ 0)
  no_shadow target low high s f e none =
      of_either ((low == 0) && (high == 0)) (is_chunked_under (under ss target)) (and_right _ (((low == 0) && (high == 0)) || is_chunked_under (under ss target)) f) refl
      (ap is_chunked_under e ∙ none)
    where
      of_either : (a b : Bool) → (a || b) ≡ true → ((low == 0) && (high == 0)) ≡ a → b ≡ false → (low ≡ 0) × (high ≡ 0)
      of_either true b h same off = (eqb-true low 0 (and_left (low == 0) (high == 0) same), eqb-true high 0 (and_right (low == 0) (high == 0) same))
      of_either false b h same off = absurd (true≢false (sym h ∙ off))

  -- a subscript near the point's position is held
  held_here : (u : Option SpreadDim) (l : AlignedDim) (x : ℕ) → under ss l.target.dim ≡ u → is_target dims ss l ≡ true → is_shadow ss l ≡ true → x < l.extent
      → is_beside_on u (position_of point l.target.dim) (offset_of l.target.offset) l.low l.high x ≡ true
      → holds_over u at (offset_of l.target.offset) l.low l.high x ≡ true
  held_here None l x e t w lt b = refl
  held_here (Some s) l x e t w lt b =
      let there : _ = some_under l.target.dim l.target.offset l.extent s t e in
      beside_held s at (position_of point l.target.dim) l.low l.high (x + offset_of l.target.offset) (let fits = there.1 in omega (arith, lt, fits)) there.0
      (no_shadow l.target.dim l.low l.high s w e) b

  owned_here : (u : Option SpreadDim) (l : AlignedDim) (x : ℕ) → under ss l.target.dim ≡ u → is_target dims ss l ≡ true → x < l.extent
      → is_beside_on u (position_of point l.target.dim) (offset_of l.target.offset) 0 0 x ≡ true
      → owns_over u at (offset_of l.target.offset) x ≡ true
  owned_here None l x e t lt b = refl
  owned_here (Some s) l x e t lt b =
      let there : _ = some_under l.target.dim l.target.offset l.extent s t e in
      eq-eqb _ _ (at_owned s at (position_of point l.target.dim) (x + offset_of l.target.offset) (let fits = there.1 in omega (arith, lt, fits)) there.0 b)

  all_held : (ls : List AlignedDim) (xs : List ℕ) → list_all (is_target dims ss) ls ≡ true → list_all (is_shadow ss) ls ≡ true → IsInside xs (map (λ l. l.extent) ls)
      → all_pass (map (λ l. is_beside_on (under ss l.target.dim) (position_of point l.target.dim) (offset_of l.target.offset) l.low l.high) ls) xs ≡ true
      → all_pass (map (λ l. holds_over (under ss l.target.dim) at (offset_of l.target.offset) l.low l.high) ls) xs ≡ true
  unfolding all_pass IsInside
  all_held [] xs t w i b = refl
  all_held (l ∷ ls) [] t w i b = absurd i
  all_held (l ∷ ls) (x ∷ xs) t w i b =
      both_true _ _
      (held_here (under ss l.target.dim) l x refl (and_left _ _ t) (and_left _ _ w) i.0 (and_left _ _ b))
      (all_held ls xs (and_right (is_target dims ss l) _ t) (and_right (is_shadow ss l) _ w) i.1
      (and_right (is_beside_on (under ss l.target.dim) (position_of point l.target.dim) (offset_of l.target.offset) l.low l.high x) _ b))

  all_owned : (ls : List AlignedDim) (xs : List ℕ) → list_all (is_target dims ss) ls ≡ true → IsInside xs (map (λ l. l.extent) ls)
      → all_pass (map (λ l. is_beside_on (under ss l.target.dim) (position_of point l.target.dim) (offset_of l.target.offset) 0 0) ls) xs ≡ true
      → all_pass (map (λ l. owns_over (under ss l.target.dim) at (offset_of l.target.offset)) ls) xs ≡ true
  unfolding all_pass IsInside
  all_owned [] xs t i b = refl
  all_owned (l ∷ ls) [] t i b = absurd i
  all_owned (l ∷ ls) (x ∷ xs) t i b =
      both_true _ _
      (owned_here (under ss l.target.dim) l x refl (and_left _ _ t) i.0 (and_left _ _ b))
      (all_owned ls xs (and_right (is_target dims ss l) _ t) i.1
      (and_right (is_beside_on (under ss l.target.dim) (position_of point l.target.dim) (offset_of l.target.offset) 0 0 x) _ b))

-- ---- the whole map

map_tests : (dims : ℕ) (ss : List SpreadDim) (ls : List AlignedDim) → is_none (map_fault dims ss ls) ≡ true
    → (list_all (is_target dims ss) ls ≡ true) × (list_all (is_shadow ss) ls ≡ true)
map_tests dims ss ls h = of_tests (names_fit ls ss 0) (list_all (is_target dims ss) ls) (list_all (is_shadow ss) ls) h
  where
    of_tests : (n t s : Bool) → is_none (if n && t then (if s then None else Some Shadow) else Some Align) ≡ true → (t ≡ true) × (s ≡ true)
    of_tests true true true h = (refl, refl)
    of_tests true true false h = cc
    of_tests true false s h = cc
    of_tests false t s h = cc

module _ (m : ArrayMap) where
  tests : (list_all (is_target m.template.dims m.template.spread) m.aligned ≡ true) × (list_all (is_shadow m.template.spread) m.aligned ≡ true)
  tests = map_tests m.template.dims m.template.spread m.aligned m.fits

  owned : (node : ℕ) (point : List ℤ) (cell : List ℕ) → length point ≡ m.template.dims → IsCell m cell
      → owns_point (unravel m.template.grid.sizes node) m.template.spread point ≡ true → is_at m point cell ≡ true → owns m node cell ≡ true
  owned node point cell l i o b = all_owned m.template.dims m.template.spread (unravel m.template.grid.sizes node) point l o m.aligned cell tests.0 i b

  alone : (node : ℕ) (point : List ℤ) (cell : List ℕ) → length m.aligned ≡ 3 → length m.template.spread ≡ 3 → length m.template.grid.sizes ≡ 3
      → length point ≡ m.template.dims → IsCell m cell → node < node_count m → owns m node cell ≡ true → is_at m point cell ≡ true
      → owns_point (unravel m.template.grid.sizes node) m.template.spread point ≡ true
  alone node point cell la ls lg l i lt own b = of_owner (points_have_owners m.template point l)
    where
      blank : AlignedDim
      blank = record { target = record { dim = None; offset = pos 0 }; extent = 1; low = 0; high = 0 }

      cell_length : length cell ≡ 3
      cell_length =
          let a : length cell ≡ length (extents m) = length_below cell (extents m) (inside_below cell (extents m) i) in
          let b : length (extents m) ≡ length m.aligned = length-map m.aligned (λ l. l.extent) in
          a ∙ b ∙ la

      place : OwnerIs m cell (owner_along m.template.spread m.aligned cell 0 ∷ owner_along m.template.spread m.aligned cell 1 ∷ owner_along m.template.spread m.aligned cell 2 ∷ [])
      place = owner_is m _ _ _ cell _ _ _ (three_of m.aligned blank blank blank la) ls lg cell_length i refl refl refl

      of_owner : OneOwner m.template point → owns_point (unravel m.template.grid.sizes node) m.template.spread point ≡ true
      of_owner one =
          subst (λ at. owns_point at m.template.spread point ≡ true)
          (place.only one.node one.below (owned one.node point cell l i one.owns b) ∙ sym (place.only node lt own)) one.owns

pub points_reach : (m : ArrayMap) → PointsReach m
points_reach m = record {
  held = λ node point cell l i o b. all_held m.template.dims m.template.spread (unravel m.template.grid.sizes node) point l o m.aligned cell (tests m).0 (tests m).1 i b;
  owned = owned m;
  alone = alone m;
}
