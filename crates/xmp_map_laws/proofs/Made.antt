-- Where nothing is wrong with their parts, there is a grid, a template and a map.
use Rattle.std.proofs.Common.{◌≡◌, ◌≤◌, ◌<◌, ◌+◌, ◌==◌, ◌&&◌, ◌||◌, ℕ, zero, suc, Bool, true, false, List, [], ◌∷◌, length, map, drop, refl, ap, ◌∙◌, arith, Option, None, Some, is_none, if◌then◌else◌, eqb-true}
use Rattle.std.specs.Prelude.{slice_index}
use Rattle.std.specs.List.{list_all}
use Rattle.std.proofs.lemmas.Bool.Decides.{nat_tests}
use Rattle.xmp_base.specs.Limits.{cell_limit}
use Rattle.xmp_dist.specs.declared.form.Dist.{Dist}
use Rattle.xmp_dist.specs.declared.form.Dist.TheVariants.{Whole, Block, Cyclic, Gblock}
use Rattle.xmp_dist.specs.Valid.{is_extent, is_dim}
use Rattle.xmp_map.specs.declared.grid.Grid.{Grid}
use Rattle.xmp_map.specs.declared.spread_dim.SpreadDim.{SpreadDim}
use Rattle.xmp_map.specs.declared.template.Template.{Template}
use Rattle.xmp_map.specs.declared.aligned.Target.{Target}
use Rattle.xmp_map.specs.declared.aligned.AlignedDim.{AlignedDim}
use Rattle.xmp_map.specs.declared.array_map.ArrayMap.{ArrayMap}
use Rattle.xmp_map.specs.declared.fault.MapError.{MapError}
use Rattle.xmp_map.specs.declared.fault.MapError.TheVariants as fault
use Rattle.xmp_map.specs.RowMajor.{product}
use Rattle.xmp_map.specs.Nodes.{makes_grid, filled}
use Rattle.xmp_map.specs.Spread.{is_whole, spread, spreads, lies_over, sizes_fit, chunk_fits, chunks_fit, template_fault}
use Rattle.xmp_map.specs.Align.{aligned_dims, is_unused, map_fault}
use Rattle.xmp_map.proofs.SpreadLaws.{grid_at}

-- ---- a grid

abbrev pub SomeGrid : List ℕ → Type 0
SomeGrid sizes = (g : Grid) × (g.sizes ≡ filled 1 sizes) × (g.dims ≡ length sizes)

pub some_grid : (sizes : List ℕ) → makes_grid sizes ≡ true → SomeGrid sizes
unfolding product
some_grid [] h = cc
some_grid (a ∷ []) h = (record { sizes = a ∷ 1 ∷ 1 ∷ []; dims = 1; valid = grind (arith, nat_tests); most = omega arith; rest = refl }, refl, refl)
some_grid (a ∷ b ∷ []) h = (record { sizes = a ∷ b ∷ 1 ∷ []; dims = 2; valid = grind (arith, nat_tests); most = omega arith; rest = refl }, refl, refl)
some_grid (a ∷ b ∷ c ∷ []) h = (record { sizes = a ∷ b ∷ c ∷ []; dims = 3; valid = grind (arith, nat_tests); most = omega arith; rest = refl }, refl, refl)
some_grid (a ∷ b ∷ c ∷ d ∷ more) h = absurd (grind (arith, nat_tests))

-- ---- a dimension of a template

-- how many nodes a dimension over an axis of so many has
abbrev nodes_on : Dist → ℕ → ℕ
nodes_on Whole n = 1
nodes_on _ n = n

dim_right : (s n : ℕ) (d : Dist) → is_extent s ≡ true → (0 < n) × (n ≤ 16) → chunk_fits d s n ≡ true → is_dim s (nodes_on d n) d ≡ true
dim_right s n Whole e h c = grind (arith, nat_tests)
dim_right s n Block e h c = grind (arith, nat_tests)
dim_right s n (Cyclic w) e h c = grind (arith, nat_tests)
dim_right s n (Gblock ls) e h c = grind (arith, nat_tests)

as_many_nodes : (d : Dist) (n : ℕ) → (is_whole d || (nodes_on d n == n)) ≡ true
as_many_nodes Whole n = refl
as_many_nodes Block n = grind (arith, nat_tests)
as_many_nodes (Cyclic w) n = grind (arith, nat_tests)
as_many_nodes (Gblock ls) n = grind (arith, nat_tests)

-- the dimension of this size and form on an axis of a grid
on_axis : (g : Grid) (s : ℕ) (d : Dist) (k : ℕ) → length g.sizes ≡ 3 → k < 3 → is_extent s ≡ true → chunk_fits d s (slice_index g.sizes k) ≡ true
    → SpreadDim
on_axis g s d k l h e c = record {
  dim = record { size = s; nodes = nodes_on d (slice_index g.sizes k); dist = d; valid = dim_right s (slice_index g.sizes k) d e (grid_at g k l h) c };
  axis = k;
  small = h;
}

-- ---- a template

spread_at_most : (d : Dist) → spread d ≤ 1
spread_at_most Whole = omega arith
spread_at_most Block = omega arith
spread_at_most (Cyclic w) = omega arith
spread_at_most (Gblock ls) = omega arith

record Parts (g : Grid) (s0 s1 s2 : ℕ) (d0 d1 d2 : Dist) : Type 0 where
  all : List SpreadDim
  sizes : map (λ s. s.dim.size) all ≡ s0 ∷ s1 ∷ s2 ∷ []
  forms : map (λ s. s.dim.dist) all ≡ d0 ∷ d1 ∷ d2 ∷ []
  lie : lies_over all g.sizes 0 ≡ true

both : (a b : Bool) → a && b ≡ true → (a ≡ true) × (b ≡ true)
both true b h = (refl, h)
both false b h = cc

from_both : (a b : Bool) → a ≡ true → b ≡ true → a && b ≡ true
from_both true b h k = k
from_both false b h k = h

same_number : (n : ℕ) → (n == n) ≡ true
same_number n = grind (arith, nat_tests)

-- the three dimensions on their axes
three : (g : Grid) (s0 s1 s2 : ℕ) (d0 d1 d2 : Dist) → length g.sizes ≡ 3 → is_extent s0 ≡ true → is_extent s1 ≡ true → is_extent s2 ≡ true
    → chunks_fit (s0 ∷ s1 ∷ s2 ∷ []) (d0 ∷ d1 ∷ d2 ∷ []) g.sizes 0 ≡ true → Parts g s0 s1 s2 d0 d1 d2
unfolding on_axis
three g s0 s1 s2 d0 d1 d2 l e0 e1 e2 c =
    let a = both (chunk_fits d0 s0 (slice_index g.sizes 0)) _ c in
    let b = both (chunk_fits d1 s1 (slice_index g.sizes (0 + spread d0))) _ a.1 in
    let f = both (chunk_fits d2 s2 (slice_index g.sizes (0 + spread d0 + spread d1))) true b.1 in
    let m0 = spread_at_most d0 in
    let m1 = spread_at_most d1 in
    let k1 : 0 + spread d0 < 3 = omega arith in
    let k2 : 0 + spread d0 + spread d1 < 3 = omega arith in
    record {
      all = on_axis g s0 d0 0 l (omega arith) e0 a.0 ∷ on_axis g s1 d1 (0 + spread d0) l k1 e1 b.0 ∷ on_axis g s2 d2 (0 + spread d0 + spread d1) l k2 e2 f.0 ∷ [];
      sizes = refl;
      forms = refl;
      lie = from_both _ _ (from_both _ _ (same_number 0) (as_many_nodes d0 (slice_index g.sizes 0)))
          (from_both _ _ (from_both _ _ (same_number (0 + spread d0)) (as_many_nodes d1 (slice_index g.sizes (0 + spread d0))))
          (from_both _ _ (from_both _ _ (same_number (0 + spread d0 + spread d1)) (as_many_nodes d2 (slice_index g.sizes (0 + spread d0 + spread d1)))) refl));
    }

abbrev pub SomeTemplate : Grid → List ℕ → List Dist → Type 0
SomeTemplate g sizes dists =
    (t : Template) × (t.grid ≡ g) × (t.dims ≡ length sizes) × (map (λ s. s.dim.size) t.spread ≡ filled 1 sizes) × (map (λ s. s.dim.dist) t.spread ≡ filled Whole dists)

-- what is known where a template has no fault
record Faultless (dims : ℕ) (grid sizes : List ℕ) (dists : List Dist) : Type 0 where
  sizes_right : sizes_fit sizes ≡ true
  as_many : length dists ≡ length sizes
  on_grid : spreads dists ≡ dims
  chunks : chunks_fit sizes dists grid 0 ≡ true

faultless : (dims : ℕ) (grid sizes : List ℕ) (dists : List Dist) → template_fault dims grid sizes dists ≡ None → Faultless dims grid sizes dists
faultless dims grid sizes dists h = by (sizes_fit sizes) refl (length dists == length sizes) refl (spreads dists == dims) refl (chunks_fit sizes dists grid 0) refl h where
  by : (a : Bool) → sizes_fit sizes ≡ a → (b : Bool) → (length dists == length sizes) ≡ b → (c : Bool) → (spreads dists == dims) ≡ c → (d : Bool)
      → chunks_fit sizes dists grid 0 ≡ d
      → (if a then (if b && c then (if d then None else Some fault.Chunk) else Some fault.Spread) else Some fault.Size) ≡ None
      → Faultless dims grid sizes dists
  by true e true f true k true m q = record { sizes_right = e; as_many = eqb-true (length dists) (length sizes) f; on_grid = eqb-true (spreads dists) dims k; chunks = m }
  by true e true f true k false m q = cc
  by true e true f false k d m q = cc
  by true e false f c k d m q = cc
  by false e b f c k d m q = cc

whole_dims : (n : ℕ) (xs : List SpreadDim) → list_all (λ s. is_whole s.dim.dist) (drop n xs) ≡ list_all is_whole (drop n (map (λ s. s.dim.dist) xs))
whole_dims zero [] = refl
whole_dims (suc n) [] = refl
whole_dims zero (x ∷ xs) = ap (λ b. is_whole x.dim.dist && b) (whole_dims zero xs)
whole_dims (suc n) (x ∷ xs) = whole_dims n xs

-- a template of n dimensions, from its three
assembled : (g : Grid) (n s0 s1 s2 : ℕ) (d0 d1 d2 : Dist) → Parts g s0 s1 s2 d0 d1 d2 → n ≤ 3
    → list_all is_whole (drop n (d0 ∷ d1 ∷ d2 ∷ [])) ≡ true → spreads (d0 ∷ d1 ∷ d2 ∷ []) ≡ g.dims
    → (t : Template) × (t.grid ≡ g) × (t.dims ≡ n) × (map (λ s. s.dim.size) t.spread ≡ s0 ∷ s1 ∷ s2 ∷ []) × (map (λ s. s.dim.dist) t.spread ≡ d0 ∷ d1 ∷ d2 ∷ [])
assembled g n s0 s1 s2 d0 d1 d2 q h w c = (
  record {
    grid = g;
    spread = q.all;
    dims = n;
    most = h;
    rest = whole_dims n q.all ∙ ap (λ ds. list_all is_whole (drop n ds)) q.forms ∙ w;
    lies = q.lie;
    covers = ap spreads q.forms ∙ c;
  },
  refl,
  refl,
  q.sizes,
  q.forms,
)

-- one to three sizes, and as many forms
first_of : (b c : Bool) → b && c ≡ true → b ≡ true
first_of b c h = (both b c h).0

one : (b : Bool) → b ≡ true → b && true ≡ true
one b h = from_both b true h refl

chunk_whole : (n : ℕ) → chunk_fits Whole 1 n ≡ true
chunk_whole n = refl

three_chunks : (a b c : Bool) → a ≡ true → b ≡ true → c ≡ true → a && (b && (c && true)) ≡ true
three_chunks a b c h k l = from_both a _ h (from_both b _ k (one c l))

too_many : (a b c d : ℕ) (ss : List ℕ) → sizes_fit (a ∷ b ∷ c ∷ d ∷ ss) ≡ true → ⊥
too_many a b c d ss h = grind (arith, nat_tests)

by_shape : (g : Grid) → length g.sizes ≡ 3 → (ss : List ℕ) (ds : List Dist) → Faultless g.dims g.sizes ss ds → SomeTemplate g ss ds
by_shape g l [] ds f = let z = f.sizes_right in cc
by_shape g l (a ∷ []) [] f = let z = f.as_many in absurd (omega arith)
by_shape g l (a ∷ []) (x ∷ []) f =
    let e : is_extent a ≡ true = first_of (is_extent a) true f.sizes_right in
    let k : chunk_fits x a (slice_index g.sizes 0) ≡ true = first_of _ true f.chunks in
    let q = three g a 1 1 x Whole Whole l e refl refl (three_chunks _ _ _ k refl refl) in
    assembled g 1 a 1 1 x Whole Whole q (omega arith) refl (let z = f.on_grid in omega arith)
by_shape g l (a ∷ []) (x ∷ y ∷ ds) f = let z = f.as_many in absurd (omega arith)
by_shape g l (a ∷ b ∷ []) [] f = let z = f.as_many in absurd (omega arith)
by_shape g l (a ∷ b ∷ []) (x ∷ []) f = let z = f.as_many in absurd (omega arith)
by_shape g l (a ∷ b ∷ []) (x ∷ y ∷ []) f =
    let e = both (is_extent a) _ f.sizes_right in
    let d = both (is_extent b) true e.1 in
    let k = both (chunk_fits x a (slice_index g.sizes 0)) _ f.chunks in
    let j = both (chunk_fits y b (slice_index g.sizes (0 + spread x))) true k.1 in
    let q = three g a b 1 x y Whole l e.0 d.0 refl (three_chunks _ _ _ k.0 j.0 refl) in
    assembled g 2 a b 1 x y Whole q (omega arith) refl (let z = f.on_grid in omega arith)
by_shape g l (a ∷ b ∷ []) (x ∷ y ∷ w ∷ ds) f = let z = f.as_many in absurd (omega arith)
by_shape g l (a ∷ b ∷ c ∷ []) [] f = let z = f.as_many in absurd (omega arith)
by_shape g l (a ∷ b ∷ c ∷ []) (x ∷ []) f = let z = f.as_many in absurd (omega arith)
by_shape g l (a ∷ b ∷ c ∷ []) (x ∷ y ∷ []) f = let z = f.as_many in absurd (omega arith)
by_shape g l (a ∷ b ∷ c ∷ []) (x ∷ y ∷ w ∷ []) f =
    let e = both (is_extent a) _ f.sizes_right in
    let d = both (is_extent b) _ e.1 in
    let h = both (is_extent c) true d.1 in
    let q = three g a b c x y w l e.0 d.0 h.0 f.chunks in
    assembled g 3 a b c x y w q (omega arith) refl f.on_grid
by_shape g l (a ∷ b ∷ c ∷ []) (x ∷ y ∷ w ∷ u ∷ ds) f = let z = f.as_many in absurd (omega arith)
by_shape g l (a ∷ b ∷ c ∷ d ∷ ss) ds f = absurd (too_many a b c d ss f.sizes_right)

pub some_template : (g : Grid) (sizes : List ℕ) (dists : List Dist) → length g.sizes ≡ 3 → template_fault g.dims g.sizes sizes dists ≡ None
    → SomeTemplate g sizes dists
some_template g sizes dists l h = by_shape g l sizes dists (faultless g.dims g.sizes sizes dists h)

-- ---- a map

abbrev pub SomeMap : Template → List ℕ → List Target → List (ℕ × ℕ) → Type 0
SomeMap t extents targets widths = (m : ArrayMap) × (m.template ≡ t) × (m.dims ≡ length extents) × (m.aligned ≡ aligned_dims extents targets widths)

none_is : (o : Option MapError) → o ≡ None → is_none o ≡ true
none_is None h = refl
none_is (Some e) h = cc

-- a map of n dimensions, from its three
of_three : (t : Template) (x y z : AlignedDim) (n : ℕ) → n ≤ 3 → list_all is_unused (drop n (x ∷ y ∷ z ∷ [])) ≡ true
    → list_all (λ l. is_extent l.extent) (x ∷ y ∷ z ∷ []) ≡ true → product (x.extent ∷ y.extent ∷ z.extent ∷ []) ≤ cell_limit
    → map_fault t.dims t.spread (x ∷ y ∷ z ∷ []) ≡ None → (m : ArrayMap) × (m.template ≡ t) × (m.dims ≡ n) × (m.aligned ≡ x ∷ y ∷ z ∷ [])
of_three t x y z n h w e p f =
    (record { template = t; aligned = x ∷ y ∷ z ∷ []; dims = n; most = h; rest = w; fits = none_is _ f; extents = e; small = p }, refl, refl, refl)

pub some_map : (t : Template) (extents : List ℕ) (targets : List Target) (widths : List (ℕ × ℕ)) → length targets ≡ length extents
    → length widths ≡ length extents → sizes_fit extents ≡ true
    → product extents ≤ cell_limit → map_fault t.dims t.spread (aligned_dims extents targets widths) ≡ None → SomeMap t extents targets widths
unfolding product
some_map t [] ts ws h k s p f = cc
some_map t (a ∷ []) [] ws h k s p f = absurd (omega arith)
some_map t (a ∷ []) (x ∷ []) [] h k s p f = absurd (omega arith)
some_map t (a ∷ []) (x ∷ []) (u ∷ []) h k s p f =
    let e = both (is_extent a) true s in
    of_three t _ _ _ 1 (omega arith) refl (from_both _ _ e.0 refl) (omega arith) f
some_map t (a ∷ []) (x ∷ []) (u ∷ v ∷ ws) h k s p f = absurd (omega arith)
some_map t (a ∷ []) (x ∷ y ∷ ts) ws h k s p f = absurd (omega arith)
some_map t (a ∷ b ∷ []) [] ws h k s p f = absurd (omega arith)
some_map t (a ∷ b ∷ []) (x ∷ []) ws h k s p f = absurd (omega arith)
some_map t (a ∷ b ∷ []) (x ∷ y ∷ []) [] h k s p f = absurd (omega arith)
some_map t (a ∷ b ∷ []) (x ∷ y ∷ []) (u ∷ []) h k s p f = absurd (omega arith)
some_map t (a ∷ b ∷ []) (x ∷ y ∷ []) (u ∷ v ∷ []) h k s p f =
    let e = both (is_extent a) _ s in
    let d = both (is_extent b) true e.1 in
    of_three t _ _ _ 2 (omega arith) refl (from_both _ _ e.0 (from_both _ _ d.0 refl)) (omega arith) f
some_map t (a ∷ b ∷ []) (x ∷ y ∷ []) (u ∷ v ∷ w ∷ ws) h k s p f = absurd (omega arith)
some_map t (a ∷ b ∷ []) (x ∷ y ∷ z ∷ ts) ws h k s p f = absurd (omega arith)
some_map t (a ∷ b ∷ c ∷ []) [] ws h k s p f = absurd (omega arith)
some_map t (a ∷ b ∷ c ∷ []) (x ∷ []) ws h k s p f = absurd (omega arith)
some_map t (a ∷ b ∷ c ∷ []) (x ∷ y ∷ []) ws h k s p f = absurd (omega arith)
some_map t (a ∷ b ∷ c ∷ []) (x ∷ y ∷ z ∷ []) [] h k s p f = absurd (omega arith)
some_map t (a ∷ b ∷ c ∷ []) (x ∷ y ∷ z ∷ []) (u ∷ []) h k s p f = absurd (omega arith)
some_map t (a ∷ b ∷ c ∷ []) (x ∷ y ∷ z ∷ []) (u ∷ v ∷ []) h k s p f = absurd (omega arith)
some_map t (a ∷ b ∷ c ∷ []) (x ∷ y ∷ z ∷ []) (u ∷ v ∷ w ∷ []) h k s p f =
    let e = both (is_extent a) _ s in
    let d = both (is_extent b) _ e.1 in
    let g = both (is_extent c) true d.1 in
    of_three t _ _ _ 3 (omega arith) refl (from_both _ _ e.0 (from_both _ _ d.0 (from_both _ _ g.0 refl))) (omega arith) f
some_map t (a ∷ b ∷ c ∷ []) (x ∷ y ∷ z ∷ []) (u ∷ v ∷ w ∷ q ∷ ws) h k s p f = absurd (omega arith)
some_map t (a ∷ b ∷ c ∷ []) (x ∷ y ∷ z ∷ q ∷ ts) ws h k s p f = absurd (omega arith)
some_map t (a ∷ b ∷ c ∷ d ∷ es) ts ws h k s p f = absurd (too_many a b c d es s)
