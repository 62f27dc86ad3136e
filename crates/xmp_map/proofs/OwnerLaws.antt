-- The owner of a cell.
use Rattle.std.proofs.Common.{◌≡◌, ℕ, zero, suc, ◌+◌, ◌<◌, ◌≤◌, Bool, true, false, List, [], ◌∷◌, refl, sym, ap, ◌∙◌, arith, subst, map, length, get_or, Some, None, Option, drop}
use Rattle.std.specs.Prelude.{slice_get, slice_index, not, ◌&&◌, ◌||◌, ◌==◌, nat_lt, if◌then◌else◌, ℤ, pos, negsuc, unwrap_or}
use Rattle.std.specs.List.{list_all}
use Rattle.std.proofs.lemmas.Bool.Decides.{nat_tests}
use Rattle.xmp_dist.specs.declared.form.Dist.{Dist}
use Rattle.xmp_dist.specs.declared.form.Dist.TheVariants.{Whole, Block, Cyclic, Gblock}
use Rattle.xmp_dist.specs.declared.dimension.Dim.{Dim}
use Rattle.xmp_dist.specs.Table.{owner_by}
use Rattle.xmp_dist.specs.Owner.{owner_inside}
use Rattle.xmp_dist.proofs.Counting.{one_if}
use Rattle.xmp_dist.proofs.Owned.{owner_by_lt}
use Rattle.xmp_map.specs.declared.spread_dim.SpreadDim.{SpreadDim}
use Rattle.xmp_map.specs.declared.aligned.AlignedDim.{AlignedDim}
use Rattle.xmp_map.specs.declared.array_map.ArrayMap.{ArrayMap}
use Rattle.xmp_map.specs.RowMajor.{product, row_major, unravel}
use Rattle.xmp_map.specs.Boxes.{all_pass, IsInside}
use Rattle.xmp_map.specs.Shadow.{holds_at}
use Rattle.xmp_map.specs.Spread.{is_whole, node_along}
use Rattle.xmp_map.specs.Align.{under, positions_fit, target_fits}
use Rattle.xmp_map.specs.Held.{offset_of, owns_over, owns_on, holds_over, holds_on, owns, holds, IsCell}
use Rattle.xmp_map.specs.Axes.{lies_on, owner_over, owner_along}
use Rattle.xmp_map.proofs.Counted.{and_left, and_right}
use Rattle.xmp_map.proofs.Three.{three_of}
use Rattle.xmp_map.proofs.Order.{inside_below, below_at, unravel_below, unravel-row_major, row_major-unravel, length_below}
use Rattle.xmp_map.proofs.HoldLaws.{lies_under}
use Rattle.xmp_map.proofs.SpreadLaws.{grid_at}
use Rattle.xmp_map.proofs.MapLaws.{dims_fit, inside_three}
use Rattle.xmp_map.proofs.AxisLaws.{one_lies}

whole_owner : (size nodes g : ℕ) (dist : Dist) → is_whole dist ≡ true → owner_by dist size nodes g ≡ 0
whole_owner size nodes g Whole h = refl
whole_owner size nodes g Block h = cc
whole_owner size nodes g (Cyclic w) h = cc
whole_owner size nodes g (Gblock ls) h = cc

owner_whole : (d : Dim) (g : ℕ) → is_whole d.dist ≡ true → owner_inside d g ≡ 0
unfolding owner_inside
owner_whole d g h = whole_owner d.size d.nodes g d.dist h

owner_lt : (d : Dim) (g : ℕ) → g < d.size → owner_inside d g < d.nodes
unfolding owner_inside
owner_lt d g h = owner_by_lt d.size d.nodes d.dist g d.valid h

-- a node owns a subscript where it has the owner's number along the axis
pub owns_at : (u : Option SpreadDim) (o x : ℕ) (at : List ℕ) → ((k : ℕ) → k < 3 → lies_on u k ≡ true → get_or at k 0 ≡ owner_over u o x) → owns_over u at o x ≡ true
owns_at None o x at h = refl
owns_at (Some s) o x at h =
    go (is_whole s.dim.dist) (owner_inside s.dim (x + o)) (get_or at s.axis 0) (λ w. owner_whole s.dim (x + o) w)
    (λ w. h s.axis s.small (here (is_whole s.dim.dist) s.axis w))
  where
    go : (w : Bool) (own y : ℕ) → (w ≡ true → own ≡ 0) → (w ≡ false → y ≡ own) → (own == (if w then 0 else y)) ≡ true
    go true own y hw hy = let e = hw refl in grind (arith, nat_tests)
    go false own y hw hy = let e = hy refl in grind (arith, nat_tests)

    here : (w : Bool) (a : ℕ) → w ≡ false → (not w && (a == a)) ≡ true
    here false a h = grind (arith, nat_tests)
    here true a h = cc

-- and has it, where it owns the subscript
pub owned_at : (u : Option SpreadDim) (o x k : ℕ) (at : List ℕ) → owns_over u at o x ≡ true → lies_on u k ≡ true → get_or at k 0 ≡ owner_over u o x
owned_at None o x k at h l = cc
owned_at (Some s) o x k at h l =
    go (is_whole s.dim.dist) s.axis k (owner_inside s.dim (x + o)) at h l
  where
    go : (w : Bool) (a k own : ℕ) (at : List ℕ) → (own == (if w then 0 else get_or at a 0)) ≡ true → (not w && (a == k)) ≡ true → get_or at k 0 ≡ own
    go true a k own at h l = cc
    go false a k own at h l =
        let e : a ≡ k = grind (arith, nat_tests) in
        let f = ap (λ i. get_or at i 0) e in
        let g : own ≡ get_or at a 0 = grind (arith, nat_tests) in
        omega arith

pub owner_over-lt : (u : Option SpreadDim) (sizes : List ℕ) (o x k : ℕ) →
    ((s : SpreadDim) → u ≡ Some s → (is_whole s.dim.dist || (s.dim.nodes == slice_index sizes s.axis)) ≡ true) →
    ((s : SpreadDim) → u ≡ Some s → x + o < s.dim.size) → lies_on u k ≡ true → owner_over u o x < get_or sizes k 0
owner_over-lt None sizes o x k hs hp l = cc
owner_over-lt (Some s) sizes o x k hs hp l =
    go (is_whole s.dim.dist) s.axis k (owner_inside s.dim (x + o)) s.dim.nodes sizes (hs s refl) (owner_lt s.dim (x + o) (hp s refl)) l
  where
    go : (w : Bool) (a k own nodes : ℕ) (sizes : List ℕ) → (w || (nodes == slice_index sizes a)) ≡ true → own < nodes → (not w && (a == k)) ≡ true → own < get_or sizes k 0
    go true a k own nodes sizes h lt l = cc
    go false a k own nodes sizes h lt l =
        let e : a ≡ k = grind (arith, nat_tests) in
        let f = ap (λ i. get_or sizes i 0) e in
        let g : nodes ≡ get_or sizes a 0 = grind (arith, nat_tests) in
        omega arith

-- a subscript lies inside the dimension under it
position_lt : (dims : ℕ) (ss : List SpreadDim) (d : Option ℕ) (offset : ℤ) (extent x : ℕ) (s : SpreadDim) → target_fits dims ss d offset extent ≡ true → under ss d ≡ Some s →
    x < extent → x + offset_of offset < s.dim.size
position_lt dims ss None offset extent x s h e lt = cc
position_lt dims ss (Some d) (pos n) extent x s h e lt =
    let f = and_right (nat_lt d dims) (positions_fit (pos n) extent (slice_get ss d)) h in
    let g : positions_fit (pos n) extent (Some s) ≡ true = sym (ap (λ u. positions_fit (pos n) extent u) e) ∙ f in
    grind (arith, nat_tests)
position_lt dims ss (Some d) (negsuc n) extent x s h e lt =
    let f = and_right (nat_lt d dims) (positions_fit (negsuc n) extent (slice_get ss d)) h in
    let g : positions_fit (negsuc n) extent (Some s) ≡ true = sym (ap (λ u. positions_fit (negsuc n) extent u) e) ∙ f in
    cc

-- the first of three that is there
abbrev pub pick : Bool → Bool → Bool → ℕ → ℕ → ℕ → ℕ
pick b0 b1 b2 v0 v1 v2 = unwrap_or (if b0 then Some v0 else None) (unwrap_or (if b1 then Some v1 else None) (unwrap_or (if b2 then Some v2 else None) 0))

pick_first : (b0 b1 b2 : Bool) (v0 v1 v2 : ℕ) → b0 ≡ true → pick b0 b1 b2 v0 v1 v2 ≡ v0
pick_first true b1 b2 v0 v1 v2 h = refl
pick_first false b1 b2 v0 v1 v2 h = cc

pick_second : (b0 b1 b2 : Bool) (v0 v1 v2 : ℕ) → one_if b0 + one_if b1 + one_if b2 ≤ 1 → b1 ≡ true → pick b0 b1 b2 v0 v1 v2 ≡ v1
pick_second false true b2 v0 v1 v2 s h = refl
pick_second true true b2 v0 v1 v2 s h = absurd (omega arith)
pick_second b0 false b2 v0 v1 v2 s h = cc

pick_third : (b0 b1 b2 : Bool) (v0 v1 v2 : ℕ) → one_if b0 + one_if b1 + one_if b2 ≤ 1 → b2 ≡ true → pick b0 b1 b2 v0 v1 v2 ≡ v2
pick_third false false true v0 v1 v2 s h = refl
pick_third false true true v0 v1 v2 s h = absurd (omega arith)
pick_third true false true v0 v1 v2 s h = absurd (omega arith)
pick_third true true true v0 v1 v2 s h = absurd (omega arith)
pick_third b0 b1 false v0 v1 v2 s h = cc

-- what all that are there have, and what holds where none is, the pick has
pick_has : (P : ℕ → Type 0) (b0 b1 b2 : Bool) (v0 v1 v2 n : ℕ) → one_if b0 + one_if b1 + one_if b2 ≡ n → (b0 ≡ true → P v0) → (b1 ≡ true → P v1) → (b2 ≡ true → P v2) → (n ≡ 0 → P 0) →
    P (pick b0 b1 b2 v0 v1 v2)
pick_has P true b1 b2 v0 v1 v2 n e h0 h1 h2 h = h0 refl
pick_has P false true b2 v0 v1 v2 n e h0 h1 h2 h = h1 refl
pick_has P false false true v0 v1 v2 n e h0 h1 h2 h = h2 refl
pick_has P false false false v0 v1 v2 n e h0 h1 h2 h = h (omega arith)

one_if-le : (b : Bool) → one_if b ≤ 1
one_if-le true = omega arith
one_if-le false = omega arith

one_if-none : (k n : ℕ) → one_if (nat_lt k n) ≡ 0 → n ≤ k
one_if-none k n h = grind (arith, nat_tests)

-- an axis that the grid does not have is of size 1
size_past : (sizes : List ℕ) (n k : ℕ) → list_all (λ s. s == 1) (drop n sizes) ≡ true → n ≤ k → k < length sizes → get_or sizes k 0 ≡ 1
size_past [] n k h le lt = absurd (omega arith)
size_past (s ∷ ss) zero zero h le lt = let e = and_left (s == 1) (list_all (λ s. s == 1) ss) h in grind (arith, nat_tests)
size_past (s ∷ ss) zero (suc k) h le lt = size_past ss zero k (none (list_all (λ s. s == 1) ss) (s == 1) ss h) (omega arith) (omega arith)
  where
    none : (r t : Bool) (ss : List ℕ) → (t && list_all (λ s. s == 1) ss) ≡ true → list_all (λ s. s == 1) (drop 0 ss) ≡ true
    none r t [] h = refl
    none r t (s ∷ ss) h = and_right t (list_all (λ s. s == 1) (s ∷ ss)) h
size_past (s ∷ ss) (suc n) zero h le lt = absurd (omega arith)
size_past (s ∷ ss) (suc n) (suc k) h le lt = size_past ss n k h (omega arith) (omega arith)

-- what stands for an element that a list does not have
none : SpreadDim
none = record { dim = record { size = 1; nodes = 1; dist = Whole; valid = refl }; axis = 0; small = omega arith }

-- what the dimensions of a map, by what is under them, have on the axes of the grid
pub record AxesFit (u0 u1 u2 : Option SpreadDim) (o0 o1 o2 x0 x1 x2 dims : ℕ) (sizes : List ℕ) : Type 0 where
  pub once : (k : ℕ) → one_if (lies_on u0 k) + one_if (lies_on u1 k) + one_if (lies_on u2 k) ≡ one_if (nat_lt k dims)
  pub first : (k : ℕ) → lies_on u0 k ≡ true → owner_over u0 o0 x0 < get_or sizes k 0
  pub second : (k : ℕ) → lies_on u1 k ≡ true → owner_over u1 o1 x1 < get_or sizes k 0
  pub third : (k : ℕ) → lies_on u2 k ≡ true → owner_over u2 o2 x2 < get_or sizes k 0
  pub some : (k : ℕ) → k < 3 → 0 < get_or sizes k 0
  pub past : (k : ℕ) → k < 3 → dims ≤ k → get_or sizes k 0 ≡ 1

abbrev pub owner_at : Option SpreadDim → Option SpreadDim → Option SpreadDim → ℕ → ℕ → ℕ → ℕ → ℕ → ℕ → ℕ → ℕ
owner_at u0 u1 u2 o0 o1 o2 x0 x1 x2 k = pick (lies_on u0 k) (lies_on u1 k) (lies_on u2 k) (owner_over u0 o0 x0) (owner_over u1 o1 x1) (owner_over u2 o2 x2)

abbrev pub owner_place : Option SpreadDim → Option SpreadDim → Option SpreadDim → ℕ → ℕ → ℕ → ℕ → ℕ → ℕ → List ℕ
owner_place u0 u1 u2 o0 o1 o2 x0 x1 x2 =
    owner_at u0 u1 u2 o0 o1 o2 x0 x1 x2 0 ∷ owner_at u0 u1 u2 o0 o1 o2 x0 x1 x2 1 ∷ owner_at u0 u1 u2 o0 o1 o2 x0 x1 x2 2 ∷ []

axes_below : (u0 u1 u2 : Option SpreadDim) (o0 o1 o2 x0 x1 x2 dims : ℕ) (sizes : List ℕ) → AxesFit u0 u1 u2 o0 o1 o2 x0 x1 x2 dims sizes → (k : ℕ) → k < 3 →
    owner_at u0 u1 u2 o0 o1 o2 x0 x1 x2 k < get_or sizes k 0
axes_below u0 u1 u2 o0 o1 o2 x0 x1 x2 dims sizes f k h =
    let P : ℕ → Type 0 = λ v. v < get_or sizes k 0 in
    pick_has P (lies_on u0 k) (lies_on u1 k) (lies_on u2 k) (owner_over u0 o0 x0) (owner_over u1 o1 x1) (owner_over u2 o2 x2) (one_if (nat_lt k dims))
    (f.once k) (f.first k) (f.second k) (f.third k) (λ z. f.some k h)

at_three : (a b c k : ℕ) (P : ℕ → ℕ → Type 0) → P 0 a → P 1 b → P 2 c → k < 3 → P k (get_or (a ∷ b ∷ c ∷ []) k 0)
at_three a b c zero P pa pb pc h = pa
at_three a b c (suc zero) P pa pb pc h = pb
at_three a b c (suc (suc zero)) P pa pb pc h = pc
at_three a b c (suc (suc (suc k))) P pa pb pc h = absurd (omega arith)

place_at : (u0 u1 u2 : Option SpreadDim) (o0 o1 o2 x0 x1 x2 k : ℕ) → k < 3 →
    get_or (owner_place u0 u1 u2 o0 o1 o2 x0 x1 x2) k 0 ≡ owner_at u0 u1 u2 o0 o1 o2 x0 x1 x2 k
place_at u0 u1 u2 o0 o1 o2 x0 x1 x2 k h =
    let P : ℕ → ℕ → Type 0 = λ i v. v ≡ owner_at u0 u1 u2 o0 o1 o2 x0 x1 x2 i in
    at_three (owner_at u0 u1 u2 o0 o1 o2 x0 x1 x2 0) (owner_at u0 u1 u2 o0 o1 o2 x0 x1 x2 1) (owner_at u0 u1 u2 o0 o1 o2 x0 x1 x2 2) k P refl refl refl h

axes_owns : (u0 u1 u2 : Option SpreadDim) (o0 o1 o2 x0 x1 x2 dims : ℕ) (sizes : List ℕ) → AxesFit u0 u1 u2 o0 o1 o2 x0 x1 x2 dims sizes →
    (owns_over u0 (owner_place u0 u1 u2 o0 o1 o2 x0 x1 x2) o0 x0 ≡ true)
    × (owns_over u1 (owner_place u0 u1 u2 o0 o1 o2 x0 x1 x2) o1 x1 ≡ true)
    × (owns_over u2 (owner_place u0 u1 u2 o0 o1 o2 x0 x1 x2) o2 x2 ≡ true)
axes_owns u0 u1 u2 o0 o1 o2 x0 x1 x2 dims sizes f =
    let most = λ (k : ℕ). at_most (one_if (lies_on u0 k)) (one_if (lies_on u1 k)) (one_if (lies_on u2 k)) (one_if (nat_lt k dims)) (f.once k) (one_if-le (nat_lt k dims)) in (
      owns_at u0 o0 x0 (owner_place u0 u1 u2 o0 o1 o2 x0 x1 x2)
          (λ k hk l. place_at u0 u1 u2 o0 o1 o2 x0 x1 x2 k hk ∙ pick_first (lies_on u0 k) (lies_on u1 k) (lies_on u2 k) (owner_over u0 o0 x0) (owner_over u1 o1 x1) (owner_over u2 o2 x2) l),
      owns_at u1 o1 x1 (owner_place u0 u1 u2 o0 o1 o2 x0 x1 x2)
          (λ k hk l. place_at u0 u1 u2 o0 o1 o2 x0 x1 x2 k hk ∙ pick_second (lies_on u0 k) (lies_on u1 k) (lies_on u2 k) (owner_over u0 o0 x0) (owner_over u1 o1 x1) (owner_over u2 o2 x2) (most k) l),
      owns_at u2 o2 x2 (owner_place u0 u1 u2 o0 o1 o2 x0 x1 x2)
          (λ k hk l. place_at u0 u1 u2 o0 o1 o2 x0 x1 x2 k hk ∙ pick_third (lies_on u0 k) (lies_on u1 k) (lies_on u2 k) (owner_over u0 o0 x0) (owner_over u1 o1 x1) (owner_over u2 o2 x2) (most k) l),
    )
  where
    at_most : (a b c n : ℕ) → a + b + c ≡ n → n ≤ 1 → a + b + c ≤ 1
    at_most a b c n e l = omega arith

axes_only : (u0 u1 u2 : Option SpreadDim) (o0 o1 o2 x0 x1 x2 dims : ℕ) (sizes at : List ℕ) → AxesFit u0 u1 u2 o0 o1 o2 x0 x1 x2 dims sizes →
    owns_over u0 at o0 x0 ≡ true → owns_over u1 at o1 x1 ≡ true → owns_over u2 at o2 x2 ≡ true → (k : ℕ) → k < 3 → get_or at k 0 < get_or sizes k 0 →
    get_or at k 0 ≡ owner_at u0 u1 u2 o0 o1 o2 x0 x1 x2 k
axes_only u0 u1 u2 o0 o1 o2 x0 x1 x2 dims sizes at f h0 h1 h2 k hk lt =
    let P : ℕ → Type 0 = λ v. get_or at k 0 ≡ v in
    pick_has P (lies_on u0 k) (lies_on u1 k) (lies_on u2 k) (owner_over u0 o0 x0) (owner_over u1 o1 x1) (owner_over u2 o2 x2) (one_if (nat_lt k dims))
    (f.once k) (owned_at u0 o0 x0 k at h0) (owned_at u1 o1 x1 k at h1) (owned_at u2 o2 x2 k at h2)
    (λ z. let p = f.past k hk (one_if-none k dims z) in omega arith)

axes_fit : (m : ArrayMap) (a b c : AlignedDim) (cell : List ℕ) → m.aligned ≡ (a ∷ b ∷ c ∷ []) → length m.template.spread ≡ 3 → length m.template.grid.sizes ≡ 3 → length cell ≡ 3 → IsCell m cell →
    AxesFit (under m.template.spread a.target.dim) (under m.template.spread b.target.dim) (under m.template.spread c.target.dim)
    (offset_of a.target.offset) (offset_of b.target.offset) (offset_of c.target.offset) (get_or cell 0 0) (get_or cell 1 0) (get_or cell 2 0) m.template.grid.dims m.template.grid.sizes
axes_fit m a b c cell e ls lg lc h =
    let t = m.template in
    let f = dims_fit m a b c e in
    let i = inside_three m a b c cell e lc h in
    record {
      once = λ k. one_lies t a b c (get_or t.spread 0 none) (get_or t.spread 1 none) (get_or t.spread 2 none) k (three_of t.spread none none none ls) f.names;
      first = λ k l. owner_over-lt (under t.spread a.target.dim) t.grid.sizes (offset_of a.target.offset) (get_or cell 0 0) k (λ s es. lies_under t a.target.dim s es)
          (λ s es. position_lt t.dims t.spread a.target.dim a.target.offset a.extent (get_or cell 0 0) s f.targets.0 es i.first) l;
      second = λ k l. owner_over-lt (under t.spread b.target.dim) t.grid.sizes (offset_of b.target.offset) (get_or cell 1 0) k (λ s es. lies_under t b.target.dim s es)
          (λ s es. position_lt t.dims t.spread b.target.dim b.target.offset b.extent (get_or cell 1 0) s f.targets.1 es i.second) l;
      third = λ k l. owner_over-lt (under t.spread c.target.dim) t.grid.sizes (offset_of c.target.offset) (get_or cell 2 0) k (λ s es. lies_under t c.target.dim s es)
          (λ s es. position_lt t.dims t.spread c.target.dim c.target.offset c.extent (get_or cell 2 0) s f.targets.2 es i.third) l;
      some = λ k hk. let g = grid_at t.grid k lg hk in g.0;
      past = λ k hk le. size_past t.grid.sizes t.grid.dims k (grind (arith, nat_tests, t.grid.rest)) le (omega arith);
    }

owns_holds : (u : Option SpreadDim) (at : List ℕ) (o low high x : ℕ) → owns_over u at o x ≡ true → holds_over u at o low high x ≡ true
unfolding holds_at
owns_holds None at o low high x h = refl
owns_holds (Some s) at o low high x h = go (owner_inside s.dim (x + o) == node_along at s) _ h
  where
    go : (b r : Bool) → b ≡ true → (b || r) ≡ true
    go true r h = refl
    go false r h = cc

owns_are : (m : ArrayMap) (node : ℕ) (a b c : AlignedDim) (cell at : List ℕ) → m.aligned ≡ (a ∷ b ∷ c ∷ []) → length cell ≡ 3 → unravel m.template.grid.sizes node ≡ at →
    owns m node cell ≡ (owns_on m.template.spread at a (get_or cell 0 0) && (owns_on m.template.spread at b (get_or cell 1 0) && (owns_on m.template.spread at c (get_or cell 2 0) && true)))
unfolding all_pass
owns_are m node a b c cell at e l ea =
    ap (λ xs. owns m node xs) (three_of cell 0 0 0 l)
    ∙ ap (λ ls. all_pass (map (λ l. owns_on m.template.spread (unravel m.template.grid.sizes node) l) ls) (get_or cell 0 0 ∷ get_or cell 1 0 ∷ get_or cell 2 0 ∷ [])) e
    ∙ ap (λ t. all_pass (map (λ l. owns_on m.template.spread t l) (a ∷ b ∷ c ∷ [])) (get_or cell 0 0 ∷ get_or cell 1 0 ∷ get_or cell 2 0 ∷ [])) ea

holds_are : (m : ArrayMap) (node : ℕ) (a b c : AlignedDim) (cell at : List ℕ) → m.aligned ≡ (a ∷ b ∷ c ∷ []) → length cell ≡ 3 → unravel m.template.grid.sizes node ≡ at →
    holds m node cell ≡ (holds_on m.template.spread at a (get_or cell 0 0) && (holds_on m.template.spread at b (get_or cell 1 0) && (holds_on m.template.spread at c (get_or cell 2 0) && true)))
unfolding all_pass
holds_are m node a b c cell at e l ea =
    ap (λ xs. holds m node xs) (three_of cell 0 0 0 l)
    ∙ ap (λ ls. all_pass (map (λ l. holds_on m.template.spread (unravel m.template.grid.sizes node) l) ls) (get_or cell 0 0 ∷ get_or cell 1 0 ∷ get_or cell 2 0 ∷ [])) e
    ∙ ap (λ t. all_pass (map (λ l. holds_on m.template.spread t l) (a ∷ b ∷ c ∷ [])) (get_or cell 0 0 ∷ get_or cell 1 0 ∷ get_or cell 2 0 ∷ [])) ea

all_true : (x y z : Bool) → x ≡ true → y ≡ true → z ≡ true → (x && (y && (z && true))) ≡ true
all_true true true true h i j = refl
all_true false y z h i j = cc
all_true true false z h i j = cc
all_true true true false h i j = cc

each_true : (x y z : Bool) → (x && (y && (z && true))) ≡ true → (x ≡ true) × (y ≡ true) × (z ≡ true)
each_true true true true h = (refl, refl, refl)
each_true true true false h = cc
each_true true false z h = cc
each_true false y z h = cc

inside_of : (x y z : ℕ) (sizes : List ℕ) → length sizes ≡ 3 → x < get_or sizes 0 0 → y < get_or sizes 1 0 → z < get_or sizes 2 0 → IsInside (x ∷ y ∷ z ∷ []) sizes
unfolding IsInside
inside_of x y z sizes l hx hy hz =
    let P : List ℕ → Type 0 = λ es. IsInside (x ∷ y ∷ z ∷ []) es in
    subst P (sym (three_of sizes 0 0 0 l)) (hx, (hy, (hz, tt)))

-- the owner along each axis
pub owner_along-is : (m : ArrayMap) (a b c : AlignedDim) (cell : List ℕ) (k : ℕ) → m.aligned ≡ (a ∷ b ∷ c ∷ []) → length cell ≡ 3 →
    owner_along m.template.spread m.aligned cell k
    ≡ owner_at (under m.template.spread a.target.dim) (under m.template.spread b.target.dim) (under m.template.spread c.target.dim)
    (offset_of a.target.offset) (offset_of b.target.offset) (offset_of c.target.offset) (get_or cell 0 0) (get_or cell 1 0) (get_or cell 2 0) k
owner_along-is m a b c cell k e l =
    ap (λ xs. owner_along m.template.spread m.aligned xs k) (three_of cell 0 0 0 l)
    ∙ ap (λ ls. owner_along m.template.spread ls (get_or cell 0 0 ∷ get_or cell 1 0 ∷ get_or cell 2 0 ∷ []) k) e

-- where the owner of a cell stands in the grid
pub record OwnerIs (m : ArrayMap) (cell at : List ℕ) : Type 0 where
  pub inside : IsInside at m.template.grid.sizes
  pub owner : (node : ℕ) → unravel m.template.grid.sizes node ≡ at → owns m node cell ≡ true
  pub holder : (node : ℕ) → unravel m.template.grid.sizes node ≡ at → holds m node cell ≡ true
  pub only : (other : ℕ) → other < product m.template.grid.sizes → owns m other cell ≡ true → unravel m.template.grid.sizes other ≡ at

owner_is_at : (m : ArrayMap) (a b c : AlignedDim) (cell : List ℕ) → m.aligned ≡ (a ∷ b ∷ c ∷ []) → length m.template.spread ≡ 3 → length m.template.grid.sizes ≡ 3 → length cell ≡ 3 → IsCell m cell →
    OwnerIs m cell (owner_place (under m.template.spread a.target.dim) (under m.template.spread b.target.dim) (under m.template.spread c.target.dim)
    (offset_of a.target.offset) (offset_of b.target.offset) (offset_of c.target.offset) (get_or cell 0 0) (get_or cell 1 0) (get_or cell 2 0))
owner_is_at m a b c cell e ls lg lc h =
    let ss = m.template.spread in
    let sizes = m.template.grid.sizes in
    let u0 = under m.template.spread a.target.dim in
    let u1 = under m.template.spread b.target.dim in
    let u2 = under m.template.spread c.target.dim in
    let o0 = offset_of a.target.offset in
    let o1 = offset_of b.target.offset in
    let o2 = offset_of c.target.offset in
    let x0 = get_or cell 0 0 in
    let x1 = get_or cell 1 0 in
    let x2 = get_or cell 2 0 in
    let f = axes_fit m a b c cell e ls lg lc h in
    let at = owner_place u0 u1 u2 o0 o1 o2 x0 x1 x2 in
    let own = axes_owns u0 u1 u2 o0 o1 o2 x0 x1 x2 m.template.grid.dims sizes f in
    let below = axes_below u0 u1 u2 o0 o1 o2 x0 x1 x2 m.template.grid.dims sizes f in
    record {
      inside = inside_of _ _ _ sizes lg (below 0 (omega arith)) (below 1 (omega arith)) (below 2 (omega arith));
      owner = λ node en. owns_are m node a b c cell at e lc en ∙ all_true _ _ _ own.0 own.1 own.2;
      holder = λ node en. holds_are m node a b c cell at e lc en
          ∙ all_true _ _ _ (owns_holds u0 at o0 a.low a.high x0 own.0) (owns_holds u1 at o1 b.low b.high x1 own.1) (owns_holds u2 at o2 c.low c.high x2 own.2);
      only = λ other lt ho.
          let there = unravel sizes other in
          let each = each_true _ _ _ (sym (owns_are m other a b c cell (unravel sizes other) e lc refl) ∙ ho) in
          let b = unravel_below sizes other lt in
          let same = λ (k : ℕ) (hk : k < 3). axes_only u0 u1 u2 o0 o1 o2 x0 x1 x2 m.template.grid.dims sizes (unravel sizes other) f each.0 each.1 each.2 k hk (below_at (unravel sizes other) sizes k b (omega arith)) in
          three_of (unravel sizes other) 0 0 0 (omega (arith, length_below (unravel sizes other) sizes b)) ∙ three_same _ _ _ _ _ _ (same 0 (omega arith)) (same 1 (omega arith)) (same 2 (omega arith));
    }
  where
    three_same : (a b c x y z : ℕ) → a ≡ x → b ≡ y → c ≡ z → (a ∷ b ∷ c ∷ []) ≡ (x ∷ y ∷ z ∷ [])
    three_same a b c x y z h i j = cc

pub owner_is : (m : ArrayMap) (a b c : AlignedDim) (cell : List ℕ) (x y z : ℕ) → m.aligned ≡ (a ∷ b ∷ c ∷ []) → length m.template.spread ≡ 3 → length m.template.grid.sizes ≡ 3 → length cell ≡ 3 → IsCell m cell →
    x ≡ owner_along m.template.spread m.aligned cell 0 → y ≡ owner_along m.template.spread m.aligned cell 1 → z ≡ owner_along m.template.spread m.aligned cell 2 → OwnerIs m cell (x ∷ y ∷ z ∷ [])
owner_is m a b c cell x y z e ls lg lc h ex ey ez =
    let k0 = ex ∙ owner_along-is m a b c cell 0 e lc in
    let k1 = ey ∙ owner_along-is m a b c cell 1 e lc in
    let k2 = ez ∙ owner_along-is m a b c cell 2 e lc in
    rw (k0, k1, k2) (owner_is_at m a b c cell e ls lg lc h)

-- the number of that place
pub owner_number : (m : ArrayMap) (cell at : List ℕ) (node other : ℕ) → OwnerIs m cell at → node ≡ row_major m.template.grid.sizes at → other < product m.template.grid.sizes → owns m other cell ≡ true → other ≡ node
owner_number m cell at node other o e lt h =
    sym (row_major-unravel m.template.grid.sizes other lt) ∙ ap (λ t. row_major m.template.grid.sizes t) (o.only other lt h) ∙ sym e

pub owner_place-is : (m : ArrayMap) (cell at : List ℕ) (node : ℕ) → OwnerIs m cell at → node ≡ row_major m.template.grid.sizes at → unravel m.template.grid.sizes node ≡ at
owner_place-is m cell at node o e =
    ap (λ n. unravel m.template.grid.sizes n) e ∙ unravel-row_major at m.template.grid.sizes (inside_below at m.template.grid.sizes o.inside)
