-- What a template gives of a dimension of an array.
use Rattle.std.proofs.Common.{◌≡◌, ℕ, zero, suc, ◌+◌, ◌*◌, ◌<◌, ◌≤◌, Bool, true, false, List, [], ◌∷◌, refl, ap, ◌∙◌, arith, length, get_or, subst, Some, None, Option, map, drop}
use Rattle.std.specs.Prelude.{slice_get, slice_index, ◌&&◌, ◌||◌, ◌==◌, is_none, if◌then◌else◌}
use Rattle.std.specs.List.{list_all}
use Rattle.std.proofs.lemmas.Bool.Decides.{nat_tests}
use Rattle.xmp_dist.specs.Count.{count_below}
use Rattle.xmp_dist.specs.Valid.{is_extent}
use Rattle.xmp_dist.proofs.Counting.{one_if, count_below-is}
use Rattle.xmp_dist.proofs.Owned.{dim_fits}
use Rattle.xmp_map.specs.declared.fault.MapError.TheVariants.{Align, Shadow}
use Rattle.xmp_map.specs.declared.spread_dim.SpreadDim.{SpreadDim}
use Rattle.xmp_map.specs.declared.template.Template.{Template}
use Rattle.xmp_map.specs.declared.aligned.Target.{Target}
use Rattle.xmp_map.specs.declared.aligned.AlignedDim.{AlignedDim}
use Rattle.xmp_map.specs.RowMajor.{product}
use Rattle.xmp_map.specs.Boxes.{IsInside}
use Rattle.xmp_map.specs.Nodes.{filled}
use Rattle.xmp_map.specs.Spread.{is_whole, lies_over, node_along}
use Rattle.xmp_map.specs.Align.{under, names_fit, is_target, is_shadow, map_fault, dims_of, unused, is_unused, aligned_dims}
use Rattle.xmp_map.specs.Held.{offset_of, holds_over, holds_on}
use Rattle.xmp_map.proofs.Counted.{and_left, and_right}
use Rattle.xmp_map.proofs.Order.{inside_below, below_at}

lies_here : (w : Bool) (a k n : ℕ) (sizes : List ℕ) (rest : Bool) → (((a == k) && (w || (n == slice_index sizes k))) && rest) ≡ true →
    (w || (n == slice_index sizes a)) ≡ true
lies_here w a k n sizes rest h =
    let both = and_left ((a == k) && (w || (n == slice_index sizes k))) rest h in
    let t : (a == k) ≡ true = and_left (a == k) (w || (n == slice_index sizes k)) both in
    let e : a ≡ k = grind (arith, nat_tests) in
    ap (λ i. w || (n == slice_index sizes i)) e ∙ and_right (a == k) (w || (n == slice_index sizes k)) both

-- each dimension of a template has as many nodes as its axis
pub lies_at : (ss : List SpreadDim) (sizes : List ℕ) (k d : ℕ) (s : SpreadDim) → lies_over ss sizes k ≡ true → slice_get ss d ≡ Some s →
    (is_whole s.dim.dist || (s.dim.nodes == slice_index sizes s.axis)) ≡ true
lies_at [] sizes k d s h e = cc
lies_at (x ∷ xs) sizes k zero s h e =
    let same : x ≡ s = cc in
    let P : SpreadDim → Type 0 = λ y. (is_whole y.dim.dist || (y.dim.nodes == slice_index sizes y.axis)) ≡ true in
    subst P same (lies_here (is_whole x.dim.dist) x.axis k x.dim.nodes sizes (lies_over xs sizes (k + (if is_whole x.dim.dist then 0 else 1))) h)
lies_at (x ∷ xs) sizes k (suc d) s h e =
    lies_at xs sizes (k + (if is_whole x.dim.dist then 0 else 1)) d s
    (and_right ((x.axis == k) && (is_whole x.dim.dist || (x.dim.nodes == slice_index sizes k))) (lies_over xs sizes (k + (if is_whole x.dim.dist then 0 else 1))) h) e

-- and so has the dimension under one of an array
pub lies_under : (t : Template) (d : Option ℕ) (s : SpreadDim) → under t.spread d ≡ Some s →
    (is_whole s.dim.dist || (s.dim.nodes == slice_index t.grid.sizes s.axis)) ≡ true
lies_under t None s e = cc
lies_under t (Some d) s e = lies_at t.spread t.grid.sizes 0 d s (grind (arith, nat_tests)) e

pub node_lt : (t : Template) (d : Option ℕ) (at : List ℕ) (s : SpreadDim) → length t.grid.sizes ≡ 3 → IsInside at t.grid.sizes → under t.spread d ≡ Some s →
    node_along at s < s.dim.nodes
node_lt t d at s l i e =
    let f = dim_fits s.dim.size s.dim.nodes s.dim.dist s.dim.valid in
    let small = s.small in
    go (is_whole s.dim.dist) (get_or at s.axis 0) (get_or t.grid.sizes s.axis 0) s.dim.nodes f.nodes_pos
    (below_at at t.grid.sizes s.axis (inside_below at t.grid.sizes i) (omega arith)) (lies_under t d s e)
  where
    go : (w : Bool) (x s n : ℕ) → 0 < n → x < s → (w || (n == s)) ≡ true → (if w then 0 else x) < n
    go true x s n p b h = p
    go false x s n p b h = grind (arith, nat_tests)

-- a dimension with nothing under it is held whole
pub holds_whole : (ss : List SpreadDim) (at : List ℕ) (l : AlignedDim) (x : ℕ) → under ss l.target.dim ≡ None → holds_on ss at l x ≡ true
holds_whole ss at l x e = ap (λ u. holds_over u at (offset_of l.target.offset) l.low l.high x) e

pub count_below-all : (p : ℕ → Bool) (n : ℕ) → ((x : ℕ) → p x ≡ true) → count_below p n ≡ n
count_below-all p n h = count_below-is p (λ k. k) n refl (λ x _. let e = ap one_if (h x) in omega arith)

-- a valid map, dimension by dimension
pub record MapFits (dims : ℕ) (ss : List SpreadDim) (a b c : AlignedDim) : Type 0 where
  pub names : names_fit (a ∷ b ∷ c ∷ []) ss 0 ≡ true
  pub targets : (is_target dims ss a ≡ true) × (is_target dims ss b ≡ true) × (is_target dims ss c ≡ true)
  pub shadows : (is_shadow ss a ≡ true) × (is_shadow ss b ≡ true) × (is_shadow ss c ≡ true)

pub all_three : {A : Type 0} (p : A → Bool) (a b c : A) → list_all p (a ∷ b ∷ c ∷ []) ≡ true → (p a ≡ true) × (p b ≡ true) × (p c ≡ true)
all_three p a b c h = go (p a) (p b) (p c) h
  where
    go : (x y z : Bool) → (x && (y && (z && true))) ≡ true → (x ≡ true) × (y ≡ true) × (z ≡ true)
    go true true true h = (refl, refl, refl)
    go true true false h = cc
    go true false z h = cc
    go false y z h = cc

pub map_fits : (dims : ℕ) (ss : List SpreadDim) (a b c : AlignedDim) → is_none (map_fault dims ss (a ∷ b ∷ c ∷ [])) ≡ true → MapFits dims ss a b c
map_fits dims ss a b c h =
    let k = go (names_fit (a ∷ b ∷ c ∷ []) ss 0) (list_all (is_target dims ss) (a ∷ b ∷ c ∷ [])) (list_all (is_shadow ss) (a ∷ b ∷ c ∷ [])) h in
    record { names = k.0; targets = all_three (is_target dims ss) a b c k.1; shadows = all_three (is_shadow ss) a b c k.2 }
  where
    go : (n t s : Bool) → is_none (if n && t then (if s then None else Some Shadow) else Some Align) ≡ true → (n ≡ true) × (t ≡ true) × (s ≡ true)
    go true true true h = (refl, refl, refl)
    go true true false h = cc
    go true false s h = cc
    go false t s h = cc

-- the dimensions of an array, made from its parts
dims_extents : (es : List ℕ) (ts : List Target) (ws : List (ℕ × ℕ)) → list_all is_extent es ≡ true → list_all (λ l. is_extent l.extent) (dims_of es ts ws) ≡ true
dims_extents [] ts ws h = refl
dims_extents (e ∷ es) [] ws h = refl
dims_extents (e ∷ es) (t ∷ ts) [] h = refl
dims_extents (e ∷ es) (t ∷ ts) (w ∷ ws) h =
    both (is_extent e) (list_all (λ l. is_extent l.extent) (dims_of es ts ws)) (and_left (is_extent e) (list_all is_extent es) h)
    (dims_extents es ts ws (and_right (is_extent e) (list_all is_extent es) h))
  where
    both : (a b : Bool) → a ≡ true → b ≡ true → (a && b) ≡ true
    both true b h k = k
    both false b h k = h

filled_extents : (ls : List AlignedDim) → list_all (λ l. is_extent l.extent) ls ≡ true → list_all (λ l. is_extent l.extent) (filled unused ls) ≡ true
filled_extents [] h = refl
filled_extents (a ∷ []) h = go (is_extent a.extent) h
  where
    go : (x : Bool) → (x && true) ≡ true → (x && (true && (true && true))) ≡ true
    go true h = refl
    go false h = h
filled_extents (a ∷ b ∷ []) h = go (is_extent a.extent) (is_extent b.extent) h
  where
    go : (x y : Bool) → (x && (y && true)) ≡ true → (x && (y && (true && true))) ≡ true
    go true true h = refl
    go true false h = h
    go false y h = h
filled_extents (a ∷ b ∷ c ∷ ls) h = go (is_extent a.extent) (is_extent b.extent) (is_extent c.extent) (list_all (λ l. is_extent l.extent) ls) h
  where
    go : (x y z r : Bool) → (x && (y && (z && r))) ≡ true → (x && (y && (z && true))) ≡ true
    go true true true r h = refl
    go true true false r h = h
    go true false z r h = h
    go false y z r h = h

pub aligned_extents : (es : List ℕ) (ts : List Target) (ws : List (ℕ × ℕ)) → list_all is_extent es ≡ true → list_all (λ l. is_extent l.extent) (aligned_dims es ts ws) ≡ true
aligned_extents es ts ws h = filled_extents (dims_of es ts ws) (dims_extents es ts ws h)

dims_product : (es : List ℕ) (ts : List Target) (ws : List (ℕ × ℕ)) → length ts ≡ length es → length ws ≡ length es → product (map (λ l. l.extent) (dims_of es ts ws)) ≡ product es
unfolding product
dims_product [] ts ws h k = refl
dims_product (e ∷ es) [] ws h k = absurd (omega arith)
dims_product (e ∷ es) (t ∷ ts) [] h k = absurd (omega arith)
dims_product (e ∷ es) (t ∷ ts) (w ∷ ws) h k = ap (λ n. e * n) (dims_product es ts ws (omega arith) (omega arith))

dims_length : (es : List ℕ) (ts : List Target) (ws : List (ℕ × ℕ)) → length (dims_of es ts ws) ≤ length es
dims_length [] ts ws = omega arith
dims_length (e ∷ es) [] ws = omega arith
dims_length (e ∷ es) (t ∷ ts) [] = omega arith
dims_length (e ∷ es) (t ∷ ts) (w ∷ ws) = let i = dims_length es ts ws in omega arith

filled_product : (ls : List AlignedDim) → length ls ≤ 3 → product (map (λ l. l.extent) (filled unused ls)) ≡ product (map (λ l. l.extent) ls)
unfolding product
filled_product [] h = omega arith
filled_product (a ∷ []) h = omega arith
filled_product (a ∷ b ∷ []) h = omega arith
filled_product (a ∷ b ∷ c ∷ []) h = refl
filled_product (a ∷ b ∷ c ∷ d ∷ ls) h = absurd (omega arith)

pub aligned_product : (es : List ℕ) (ts : List Target) (ws : List (ℕ × ℕ)) → length ts ≡ length es → length ws ≡ length es → length es ≤ 3 →
    product (map (λ l. l.extent) (aligned_dims es ts ws)) ≡ product es
aligned_product es ts ws h k m =
    let l = dims_length es ts ws in
    filled_product (dims_of es ts ws) (omega arith) ∙ dims_product es ts ws h k

pub extents_most : (a b c : AlignedDim) → list_all (λ l. is_extent l.extent) (a ∷ b ∷ c ∷ []) ≡ true → (a.extent ≤ 4194304) × (b.extent ≤ 4194304) × (c.extent ≤ 4194304)
extents_most a b c h =
    let k = all_three (λ l. is_extent l.extent) a b c h in
    let h0 = k.0 in let h1 = k.1 in let h2 = k.2 in
    (grind (arith, nat_tests), grind (arith, nat_tests), grind (arith, nat_tests))

-- the dimensions past those of the array are unused
pub aligned_rest : (es : List ℕ) (ts : List Target) (ws : List (ℕ × ℕ)) → length ts ≡ length es → length ws ≡ length es → length es ≤ 3 →
    list_all is_unused (drop (length es) (aligned_dims es ts ws)) ≡ true
aligned_rest [] ts ws h k m = refl
aligned_rest (e ∷ []) (t ∷ []) (w ∷ []) h k m = refl
aligned_rest (e ∷ f ∷ []) (t ∷ u ∷ []) (w ∷ v ∷ []) h k m = refl
aligned_rest (e ∷ f ∷ g ∷ []) (t ∷ u ∷ x ∷ []) (w ∷ v ∷ y ∷ []) h k m = refl
aligned_rest (e ∷ es) [] ws h k m = absurd (omega arith)
aligned_rest (e ∷ es) (t ∷ ts) [] h k m = absurd (omega arith)
aligned_rest (e ∷ []) (t ∷ u ∷ ts) ws h k m = absurd (omega arith)
aligned_rest (e ∷ []) ts (w ∷ v ∷ ws) h k m = absurd (omega arith)
aligned_rest (e ∷ f ∷ es) (t ∷ []) ws h k m = absurd (omega arith)
aligned_rest (e ∷ f ∷ es) ts (w ∷ []) h k m = absurd (omega arith)
aligned_rest (e ∷ f ∷ []) (t ∷ u ∷ x ∷ ts) ws h k m = absurd (omega arith)
aligned_rest (e ∷ f ∷ []) ts (w ∷ v ∷ y ∷ ws) h k m = absurd (omega arith)
aligned_rest (e ∷ f ∷ g ∷ es) (t ∷ u ∷ []) ws h k m = absurd (omega arith)
aligned_rest (e ∷ f ∷ g ∷ es) ts (w ∷ v ∷ []) h k m = absurd (omega arith)
aligned_rest (e ∷ f ∷ g ∷ []) (t ∷ u ∷ x ∷ z ∷ ts) ws h k m = absurd (omega arith)
aligned_rest (e ∷ f ∷ g ∷ []) ts (w ∷ v ∷ y ∷ z ∷ ws) h k m = absurd (omega arith)
aligned_rest (e ∷ f ∷ g ∷ i ∷ es) ts ws h k m = absurd (omega arith)
