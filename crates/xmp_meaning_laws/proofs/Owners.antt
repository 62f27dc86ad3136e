-- Each point of a template has one owner.
use Rattle.std.proofs.Common.{◌≡◌, ◌≢◌, ◌<◌, ◌≤◌, ◌+◌, ◌==◌, ◌&&◌, ◌||◌, not, ℕ, zero, suc, ℤ, pos, negsuc, Bool, true, false, true≢false, List, [], ◌∷◌, map, length, get_or, drop, refl, sym, subst, ap, ◌∙◌, if◌then◌else◌, arith, eq-eqb}
use Rattle.std.specs.Prelude.{nat_le, slice_index}
use Rattle.std.specs.List.{list_all}
use Rattle.std.proofs.lemmas.Bool.{eqb-true, ne_eqb, leb-true, leb-false}
use Rattle.xmp_dist.specs.declared.form.Dist.{Dist}
use Rattle.xmp_dist.specs.declared.form.Dist.TheVariants.{Whole, Block, Cyclic, Gblock}
use Rattle.xmp_dist.specs.declared.dimension.Dim.{Dim}
use Rattle.xmp_dist.specs.Table.{owner_by}
use Rattle.xmp_dist.specs.Owner.{owner_inside, nearest, owner}
use Rattle.xmp_dist.proofs.Owned.{dim_fits, owner_by_lt}
use Rattle.xmp_map.specs.declared.spread_dim.SpreadDim.{SpreadDim}
use Rattle.xmp_map.specs.declared.template.Template.{Template}
use Rattle.xmp_map.specs.RowMajor.{product, row_major, unravel}
use Rattle.xmp_map.specs.Spread.{is_whole, spread, spreads, lies_over, node_along, owns_point}
use Rattle.xmp_map.proofs.Counted.{and_left, and_right}
use Rattle.xmp_map.proofs.Order.{AllBelow, none_below, more_below, row_major-lt, unravel-row_major, unravel_below, row_major-unravel}
use Rattle.xmp_meaning_laws.specs.Laws.{PointsHaveOwners}
use Rattle.xmp_meaning_laws.proofs.CountedLoops.{both_true}

-- ---- the owner of one number

owner_of_whole : (dist : Dist) (size nodes x : ℕ) → is_whole dist ≡ true → owner_by dist size nodes x ≡ 0
owner_of_whole Whole size nodes x e = refl
owner_of_whole Block size nodes x e = absurd (true≢false (sym e))
owner_of_whole (Cyclic w) size nodes x e = absurd (true≢false (sym e))
owner_of_whole (Gblock ls) size nodes x e = absurd (true≢false (sym e))

owner_whole : (d : Dim) (g : ℤ) → is_whole d.dist ≡ true → owner d g ≡ 0
unfolding owner_inside
owner_whole d g e = owner_of_whole d.dist d.size d.nodes (nearest d.size g) e

nearest_lt : (size : ℕ) (g : ℤ) → 0 < size → nearest size g < size
nearest_lt size (pos g) h = omega (arith, h)
nearest_lt size (negsuc g) h = h

owner_lt : (d : Dim) (g : ℤ) → owner d g < d.nodes
unfolding owner_inside
owner_lt d g = owner_by_lt d.size d.nodes d.dist (nearest d.size g) d.valid (nearest_lt d.size g (dim_fits d.size d.nodes d.dist d.valid).size_pos)

-- ---- the owner along each axis

abbrev dists : List SpreadDim → List Dist
dists ss = map (λ s. s.dim.dist) ss

-- the number along axis `j` of the owner of a point; 0 where no dimension lies on it
abbrev at_axis : List SpreadDim → List ℤ → ℕ → ℕ
at_axis [] gs j = 0
at_axis (s ∷ ss) [] j = 0
at_axis (s ∷ ss) (g ∷ gs) j = if not (is_whole s.dim.dist) && (s.axis == j) then owner s.dim g else at_axis ss gs j

abbrev Lies : SpreadDim → List ℕ → ℕ → Bool
Lies s sizes k = (s.axis == k) && (is_whole s.dim.dist || (s.dim.nodes == slice_index sizes k))

axis_is : (s : SpreadDim) (sizes : List ℕ) (k : ℕ) → Lies s sizes k ≡ true → s.axis ≡ k
axis_is s sizes k h = eqb-true s.axis k (and_left (s.axis == k) (is_whole s.dim.dist || (s.dim.nodes == slice_index sizes k)) h)

nodes_are : (s : SpreadDim) (sizes : List ℕ) (k : ℕ) → Lies s sizes k ≡ true → is_whole s.dim.dist ≡ false → s.dim.nodes ≡ get_or sizes k 0
nodes_are s sizes k h e = eqb-true s.dim.nodes (get_or sizes k 0)
    (other (is_whole s.dim.dist) e (and_right (s.axis == k) (is_whole s.dim.dist || (s.dim.nodes == slice_index sizes k)) h))
  where
    other : (b : Bool) → b ≡ false → (b || (s.dim.nodes == get_or sizes k 0)) ≡ true → (s.dim.nodes == get_or sizes k 0) ≡ true
    other true e h = absurd (true≢false e)
    other false e h = h

module _ (sizes : List ℕ) where
  -- the place has the owners' numbers from axis `k` on
  abbrev Follows : List ℕ → ℕ → (ℕ → ℕ) → Type 0
  Follows at k f = (j : ℕ) → k ≤ j → 0 < get_or sizes j 0 → get_or at j 0 ≡ f j

  here_owned : (w : Bool) (axis k own : ℕ) (rest : ℕ → ℕ) (at : List ℕ) → axis ≡ k → (w ≡ true → own ≡ 0) → (w ≡ false → 0 < get_or sizes k 0)
      → Follows at k (λ j. if not w && (axis == j) then own else rest j) → (own == (if w then 0 else get_or at axis 0)) ≡ true
  here_owned true axis k own rest at ax z p h = eq-eqb own 0 (z refl)
  here_owned false axis k own rest at ax z p h =
      eq-eqb own (get_or at axis 0) (sym (subst (λ a. get_or at a 0 ≡ own) (sym ax)
      (h k (let q : k ≤ k = omega arith in q) (p refl) ∙ ap (λ b. if b then own else rest k) (eq-eqb axis k ax))))

  later_follows : (w : Bool) (axis k own : ℕ) (rest : ℕ → ℕ) (at : List ℕ) → axis ≡ k
      → Follows at k (λ j. if not w && (axis == j) then own else rest j) → Follows at (k + (if w then 0 else 1)) rest
  later_follows true axis k own rest at ax h j le p = h j (let q : k ≤ j = omega (arith, le) in q) p
  later_follows false axis k own rest at ax h j le p =
      h j (let q : k ≤ j = omega (arith, le) in q) p ∙ ap (λ b. if b then own else rest j) (ne_eqb axis j (λ e. absurd (omega (arith, le, e, ax))))

  owns_from : (ss : List SpreadDim) (gs : List ℤ) (k : ℕ) (at : List ℕ) → lies_over ss sizes k ≡ true → Follows at k (at_axis ss gs) → owns_point at ss gs ≡ true
  owns_from [] gs k at l h = refl
  owns_from (s ∷ ss) [] k at l h = refl
  owns_from (s ∷ ss) (g ∷ gs) k at l h =
      let first : Lies s sizes k ≡ true = and_left (Lies s sizes k) (lies_over ss sizes (k + spread s.dim.dist)) l in
      both_true (owner s.dim g == node_along at s) (owns_point at ss gs)
      (here_owned (is_whole s.dim.dist) s.axis k (owner s.dim g) (at_axis ss gs) at (axis_is s sizes k first) (owner_whole s.dim g)
      (λ e. subst (λ n. 0 < n) (nodes_are s sizes k first e) (dim_fits s.dim.size s.dim.nodes s.dim.dist s.dim.valid).nodes_pos) h)
      (owns_from ss gs (k + spread s.dim.dist) at (and_right (Lies s sizes k) (lies_over ss sizes (k + spread s.dim.dist)) l)
      (later_follows (is_whole s.dim.dist) s.axis k (owner s.dim g) (at_axis ss gs) at (axis_is s sizes k first) h))

  -- ---- the only owner

  only_here : (w : Bool) (axis k own m : ℕ) (rest : ℕ → ℕ) (at : List ℕ) → axis ≡ k → (own == (if w then 0 else get_or at axis 0)) ≡ true
      → ((j : ℕ) → k + (if w then 0 else 1) ≤ j → j < (k + (if w then 0 else 1)) + m → get_or at j 0 ≡ rest j)
      → (j : ℕ) → k ≤ j → j < k + ((if w then 0 else 1) + m) → get_or at j 0 ≡ (if not w && (axis == j) then own else rest j)
  only_here true axis k own m rest at ax o h j le lt = h j (let q : k + 0 ≤ j = omega (arith, le) in q) (let q : j < (k + 0) + m = omega (arith, lt) in q)
  only_here false axis k own m rest at ax o h j le lt = at_test (axis == j) refl
    where
      at_test : (b : Bool) → (axis == j) ≡ b → get_or at j 0 ≡ (if b then own else rest j)
      at_test true e = subst (λ a. get_or at a 0 ≡ own) (eqb-true axis j e) (sym (eqb-true own (get_or at axis 0) o))
      at_test false e =
          let ne : axis ≢ j = λ s. true≢false (sym (eq-eqb axis j s) ∙ e) in
          h j (let q : k + 1 ≤ j = omega (arith, le, ne, ax) in q) (let q : j < (k + 1) + m = omega (arith, lt) in q)

  none_spread : (ss : List SpreadDim) → list_all (λ s. is_whole s.dim.dist) ss ≡ true → spreads (dists ss) ≡ 0
  none_spread [] h = refl
  none_spread (s ∷ ss) h =
      ap (λ b. (if b then 0 else 1) + spreads (dists ss)) (and_left (is_whole s.dim.dist) (list_all (λ s. is_whole s.dim.dist) ss) h)
      ∙ (let q : 0 + spreads (dists ss) ≡ spreads (dists ss) = omega arith in q) ∙ none_spread ss (and_right (is_whole s.dim.dist) (list_all (λ s. is_whole s.dim.dist) ss) h)

  only_from : (ss : List SpreadDim) (gs : List ℤ) (k : ℕ) (at : List ℕ) → lies_over ss sizes k ≡ true → list_all (λ s. is_whole s.dim.dist) (drop (length gs) ss) ≡ true
      → owns_point at ss gs ≡ true → (j : ℕ) → k ≤ j → j < k + spreads (dists ss) → get_or at j 0 ≡ at_axis ss gs j
  only_from [] gs k at l past o j le lt = absurd (omega (arith, le, lt))
  only_from (s ∷ ss) [] k at l past o j le lt =
      let nothing : spreads (dists (s ∷ ss)) ≡ 0 = none_spread (s ∷ ss) past in absurd (omega (arith, le, lt, nothing))
  only_from (s ∷ ss) (g ∷ gs) k at l past o j le lt =
      let first : Lies s sizes k ≡ true = and_left (Lies s sizes k) (lies_over ss sizes (k + spread s.dim.dist)) l in
      only_here (is_whole s.dim.dist) s.axis k (owner s.dim g) (spreads (dists ss)) (at_axis ss gs) at (axis_is s sizes k first)
      (and_left (owner s.dim g == node_along at s) (owns_point at ss gs) o)
      (only_from ss gs (k + spread s.dim.dist) at (and_right (Lies s sizes k) (lies_over ss sizes (k + spread s.dim.dist)) l) past
      (and_right (owner s.dim g == node_along at s) (owns_point at ss gs) o)) j le lt

  -- ---- the owners' numbers are below the sizes

  below_here : (w : Bool) (axis j own rest n : ℕ) → (w ≡ false → axis ≡ j → own < n) → rest < n → (if not w && (axis == j) then own else rest) < n
  below_here true axis j own rest n h i = i
  below_here false axis j own rest n h i = at_test (axis == j) refl
    where
      at_test : (b : Bool) → (axis == j) ≡ b → (if b then own else rest) < n
      at_test true e = h refl (eqb-true axis j e)
      at_test false e = i

  axis_below : (ss : List SpreadDim) (gs : List ℤ) (k : ℕ) → lies_over ss sizes k ≡ true → (j : ℕ) → 0 < get_or sizes j 0 → at_axis ss gs j < get_or sizes j 0
  axis_below [] gs k l j p = p
  axis_below (s ∷ ss) [] k l j p = p
  axis_below (s ∷ ss) (g ∷ gs) k l j p =
      let first : Lies s sizes k ≡ true = and_left (Lies s sizes k) (lies_over ss sizes (k + spread s.dim.dist)) l in
      below_here (is_whole s.dim.dist) s.axis j (owner s.dim g) (at_axis ss gs j) (get_or sizes j 0)
      (λ e ax. subst (λ i. owner s.dim g < get_or sizes i 0) (sym (axis_is s sizes k first) ∙ ax) (subst (λ n. owner s.dim g < n) (nodes_are s sizes k first e) (owner_lt s.dim g)))
      (axis_below ss gs (k + spread s.dim.dist) (and_right (Lies s sizes k) (lies_over ss sizes (k + spread s.dim.dist)) l) j p)

-- ---- a place with given numbers

abbrev place : (ℕ → ℕ) → List ℕ → List ℕ
place f [] = []
place f (e ∷ es) = f 0 ∷ place (λ j. f (suc j)) es

place_at : (f : ℕ → ℕ) (es : List ℕ) (j : ℕ) → 0 < get_or es j 0 → get_or (place f es) j 0 ≡ f j
place_at f [] j p = absurd (omega (arith, p))
place_at f (e ∷ es) zero p = refl
place_at f (e ∷ es) (suc j) p = place_at (λ j. f (suc j)) es j p

place_below : (f : ℕ → ℕ) (es : List ℕ) → list_all (λ s. nat_le 1 s) es ≡ true → ((j : ℕ) → 0 < get_or es j 0 → f j < get_or es j 0) → AllBelow (place f es) es
place_below f [] a h = none_below
place_below f (e ∷ es) a h =
    more_below (f 0) e (place (λ j. f (suc j)) es) es (h 0 (leb-true 1 e (and_left (nat_le 1 e) (list_all (λ s. nat_le 1 s) es) a)))
    (place_below (λ j. f (suc j)) es (and_right (nat_le 1 e) (list_all (λ s. nat_le 1 s) es) a) (λ j. h (suc j)))

place_is : (f : ℕ → ℕ) (xs es : List ℕ) → AllBelow xs es → ((j : ℕ) → 0 < get_or es j 0 → get_or xs j 0 ≡ f j) → xs ≡ place f es
place_is f xs es none_below h = refl
place_is f xs es (more_below x e xs' es' lt b) h =
    ap (λ n. n ∷ xs') (h 0 (let q : 0 < e = omega (arith, lt) in q)) ∙ ap (λ ns. f 0 ∷ ns) (place_is (λ j. f (suc j)) xs' es' b (λ j. h (suc j)))

below_at : (xs es : List ℕ) → AllBelow xs es → (j : ℕ) → 0 < get_or es j 0 → get_or xs j 0 < get_or es j 0
below_at xs es none_below j p = p
below_at xs es (more_below x e xs' es' lt b) zero p = lt
below_at xs es (more_below x e xs' es' lt b) (suc j) p = below_at xs' es' b j p

ones : (es : List ℕ) (n j : ℕ) → list_all (λ s. s == 1) (drop n es) ≡ true → n ≤ j → 0 < get_or es j 0 → get_or es j 0 ≡ 1
ones [] n j h le p = absurd (omega (arith, p))
ones (e ∷ es) zero zero h le p = eqb-true e 1 (and_left (e == 1) (list_all (λ s. s == 1) es) h)
ones (e ∷ es) zero (suc j) h le p = ones es zero j (and_right (e == 1) (list_all (λ s. s == 1) es) h) (omega arith) p
ones (e ∷ es) (suc n) zero h le p = absurd (omega (arith, le))
ones (e ∷ es) (suc n) (suc j) h le p = ones es n j h (let q : n ≤ j = omega (arith, le) in q) p

pub points_have_owners : (t : Template) → PointsHaveOwners t
points_have_owners t gs l = record {
  node = row_major t.grid.sizes at;
  below = row_major-lt at t.grid.sizes at_below;
  owns = owns_from t.grid.sizes t.spread gs 0 (unravel t.grid.sizes (row_major t.grid.sizes at)) t.lies
      (λ j le p. ap (λ xs. get_or xs j 0) (unravel-row_major at t.grid.sizes at_below) ∙ place_at f t.grid.sizes j p);
  only = λ other lt o. sym (row_major-unravel t.grid.sizes other lt) ∙ ap (row_major t.grid.sizes) (place_is f (unravel t.grid.sizes other) t.grid.sizes (unravel_below t.grid.sizes other lt)
      (numbers (unravel t.grid.sizes other) (unravel_below t.grid.sizes other lt) o));
}
  where
    f : ℕ → ℕ
    f = at_axis t.spread gs

    at : List ℕ
    at = place f t.grid.sizes

    f_below : (j : ℕ) → 0 < get_or t.grid.sizes j 0 → f j < get_or t.grid.sizes j 0
    f_below = axis_below t.grid.sizes t.spread gs 0 t.lies

    at_below : AllBelow at t.grid.sizes
    at_below = place_below f t.grid.sizes (and_left (list_all (λ s. nat_le 1 s) t.grid.sizes) (nat_le (product t.grid.sizes) 16) t.grid.valid) f_below

    past : list_all (λ s. is_whole s.dim.dist) (drop (length gs) t.spread) ≡ true
    past = subst (λ n. list_all (λ s. is_whole s.dim.dist) (drop n t.spread) ≡ true) (sym l) t.rest

    -- an axis on which a dimension lies has its owner's number, and one behind them has one node
    numbers : (xs : List ℕ) → AllBelow xs t.grid.sizes → owns_point xs t.spread gs ≡ true → (j : ℕ) → 0 < get_or t.grid.sizes j 0 → get_or xs j 0 ≡ f j
    numbers xs b o j p = at_test (nat_le (suc j) t.grid.dims) refl
      where
        at_test : (c : Bool) → nat_le (suc j) t.grid.dims ≡ c → get_or xs j 0 ≡ f j
        at_test true e = only_from t.grid.sizes t.spread gs 0 xs t.lies past o j (omega arith)
            (let lt : suc j ≤ t.grid.dims = leb-true (suc j) t.grid.dims e in let n : spreads (dists t.spread) ≡ t.grid.dims = t.covers in omega (arith, lt, n))
        at_test false e =
            let le : t.grid.dims ≤ j = omega (arith, leb-false (suc j) t.grid.dims e) in
            let one : get_or t.grid.sizes j 0 ≡ 1 = ones t.grid.sizes t.grid.dims j t.grid.rest le p in
            let x : _ = below_at xs t.grid.sizes b j p in
            let y : _ = f_below j p in
            omega (arith, one, x, y)
