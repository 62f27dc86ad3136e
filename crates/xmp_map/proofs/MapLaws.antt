-- An array's map, by its three dimensions.
use Rattle.std.proofs.Common.{◌≡◌, ℕ, zero, suc, ◌*◌, ◌<◌, ◌≤◌, Bool, true, false, List, [], ◌∷◌, refl, sym, ◌∙◌, ap, arith, length, get_or, IsTrue, subst, map, Some, None, Option}
use Rattle.std.proofs.lemmas.List.{length-map}
use Rattle.std.specs.Prelude.{if◌then◌else◌, ◌&&◌, is_none, slice_get, pos, IfSome}
use Rattle.std.specs.List.{list_all}
use Rattle.std.proofs.lemmas.Bool.Decides.{nat_tests}
use Rattle.std.proofs.Math.Nat.{mul-le-mul}
use Rattle.xmp_dist.specs.Count.{count_below}
use Rattle.xmp_dist.specs.Valid.{is_extent}
use Rattle.xmp_map.specs.declared.spread_dim.SpreadDim.{SpreadDim}
use Rattle.xmp_map.specs.declared.aligned.AlignedDim.{AlignedDim}
use Rattle.xmp_map.specs.declared.array_map.ArrayMap.{ArrayMap}
use Rattle.xmp_map.specs.RowMajor.{product, row_major, unravel}
use Rattle.xmp_map.specs.Boxes.{all_pass, counts_below, count_before, IsInside}
use Rattle.xmp_map.specs.Align.{is_target, is_shadow, map_fault, names_fit}
use Rattle.xmp_map.specs.Held.{holds_on, holds_dim, extents, tests, holds, words, held_counts, local_positions, slot, IsCell}
use Rattle.xmp_map.proofs.Three.{three_of}
use Rattle.xmp_map.proofs.Order.{AllBelow, inside_below, below_inside, length_below}
use Rattle.xmp_map.proofs.GridLaws.{factors}
use Rattle.xmp_map.proofs.Counted.{locals_below, slot_lt, slot_unique, words_are, rank_is}
use Rattle.xmp_map.proofs.HoldLaws.{map_fits, all_three}

-- what stands for an element that a list does not have
abbrev pub blank : AlignedDim
blank = record { target = record { dim = None; offset = pos 0 }; extent = 0; low = 0; high = 0 }

-- what a map's dimensions have
pub record DimsFit (m : ArrayMap) (a b c : AlignedDim) : Type 0 where
  pub names : names_fit (a ∷ b ∷ c ∷ []) m.template.spread 0 ≡ true
  pub targets : (is_target m.template.dims m.template.spread a ≡ true) × (is_target m.template.dims m.template.spread b ≡ true) × (is_target m.template.dims m.template.spread c ≡ true)
  pub shadows : (is_shadow m.template.spread a ≡ true) × (is_shadow m.template.spread b ≡ true) × (is_shadow m.template.spread c ≡ true)
  pub sizes : (is_extent a.extent ≡ true) × (is_extent b.extent ≡ true) × (is_extent c.extent ≡ true)
  pub cells : a.extent * b.extent * c.extent ≤ 4194304

pub dims_fit : (m : ArrayMap) (a b c : AlignedDim) → m.aligned ≡ (a ∷ b ∷ c ∷ []) → DimsFit m a b c
unfolding product
dims_fit m a b c e =
    let P : List AlignedDim → Type 0 = λ ls. IsTrue (is_none (map_fault m.template.dims m.template.spread ls)) in
    let Q : List AlignedDim → Type 0 = λ ls. IsTrue (list_all (λ l. is_extent l.extent) ls) in
    let R : List AlignedDim → Type 0 = λ ls. product (map (λ l. l.extent) ls) ≤ 4194304 in
    let f = map_fits m.template.dims m.template.spread a b c (grind (arith, nat_tests, subst P e m.fits)) in
    let h : a.extent * (b.extent * (c.extent * 1)) ≤ 4194304 = subst R e m.small in
    record {
      names = f.names;
      targets = f.targets;
      shadows = f.shadows;
      sizes = all_three (λ l. is_extent l.extent) a b c (grind (arith, nat_tests, subst Q e m.extents));
      cells = omega arith;
    }

pub counts_are : (m : ArrayMap) (node : ℕ) (a b c : AlignedDim) (x y z : ℕ) → m.aligned ≡ (a ∷ b ∷ c ∷ []) →
    counts_below (tests m node) (x ∷ y ∷ z ∷ [])
    ≡ (count_below (holds_on m.template.spread (unravel m.template.grid.sizes node) a) x
    ∷ count_below (holds_on m.template.spread (unravel m.template.grid.sizes node) b) y
    ∷ count_below (holds_on m.template.spread (unravel m.template.grid.sizes node) c) z ∷ [])
unfolding counts_below
counts_are m node a b c x y z e =
    ap (λ ls. counts_below (map (λ l. holds_on m.template.spread (unravel m.template.grid.sizes node) l) ls) (x ∷ y ∷ z ∷ [])) e

pub extents_are : (m : ArrayMap) (a b c : AlignedDim) → m.aligned ≡ (a ∷ b ∷ c ∷ []) → extents m ≡ (a.extent ∷ b.extent ∷ c.extent ∷ [])
extents_are m a b c e = ap (λ ls. map (λ l. l.extent) ls) e

pub sides_are : (m : ArrayMap) (node : ℕ) (a b c : AlignedDim) → m.aligned ≡ (a ∷ b ∷ c ∷ []) →
    held_counts m node
    ≡ (count_below (holds_on m.template.spread (unravel m.template.grid.sizes node) a) a.extent
    ∷ count_below (holds_on m.template.spread (unravel m.template.grid.sizes node) b) b.extent
    ∷ count_below (holds_on m.template.spread (unravel m.template.grid.sizes node) c) c.extent ∷ [])
sides_are m node a b c e =
    ap (λ es. counts_below (tests m node) es) (extents_are m a b c e) ∙ counts_are m node a b c a.extent b.extent c.extent e

-- extents are at least 1, so no product of held counts is too great
pub record SidesFit (s0 s1 s2 most : ℕ) : Type 0 where
  pub pair : s0 * s1 ≤ most
  pub all : s0 * s1 * s2 ≤ most

pub sides_fit : (s0 s1 s2 a b c most : ℕ) → s0 ≤ a → s1 ≤ b → s2 ≤ c → is_extent a ≡ true → is_extent b ≡ true → is_extent c ≡ true → a * b * c ≤ most → SidesFit s0 s1 s2 most
sides_fit s0 s1 s2 a b c most h0 h1 h2 ha hb hc m =
    let f = factors a b c (grind (arith, nat_tests)) (grind (arith, nat_tests)) (grind (arith, nat_tests)) in
    let p = f.pair in
    let k : s0 * s1 ≤ a * b = mul-le-mul {n₁ = s0} {m₁ = s1} {n₂ = a} {m₂ = b} h0 h1 in
    let l : s0 * s1 * s2 ≤ a * b * c = mul-le-mul {n₁ = s0 * s1} {m₁ = s2} {n₂ = a * b} {m₂ = c} k h2 in
    record { pair = omega arith; all = omega arith }

pub side_is : (ss : List SpreadDim) (sizes : List ℕ) (node : ℕ) (l : AlignedDim) (at : List ℕ) (r n : ℕ) → at ≡ unravel sizes node →
    r ≡ count_below (holds_on ss at l) n → r ≡ count_below (holds_on ss (unravel sizes node) l) n
side_is ss sizes node l at r n ea er = er ∙ ap (λ t. count_below (holds_on ss t l) n) ea

-- the count of one dimension among all
pub counts_at : (ss : List SpreadDim) (at : List ℕ) (ls : List AlignedDim) (d : ℕ) → d < length ls →
    get_or (counts_below (map (λ l. holds_on ss at l) ls) (map (λ l. l.extent) ls)) d 0
    ≡ count_below (holds_dim ss at (slice_get ls d)) (get_or (map (λ l. l.extent) ls) d 0)
unfolding counts_below
counts_at ss at [] d h = absurd (omega arith)
counts_at ss at (l ∷ ls) zero h = refl
counts_at ss at (l ∷ ls) (suc d) h = counts_at ss at ls d (omega arith)

-- a cell's local positions, by the three dimensions
pub locals_are : (m : ArrayMap) (node : ℕ) (a b c : AlignedDim) (cell : List ℕ) → m.aligned ≡ (a ∷ b ∷ c ∷ []) → length cell ≡ 3 →
    (if holds m node cell then Some (local_positions m node cell) else None)
    ≡ (if holds_on m.template.spread (unravel m.template.grid.sizes node) a (get_or cell 0 0) && (holds_on m.template.spread (unravel m.template.grid.sizes node) b (get_or cell 1 0) && (holds_on m.template.spread (unravel m.template.grid.sizes node) c (get_or cell 2 0) && true))
    then Some (count_below (holds_on m.template.spread (unravel m.template.grid.sizes node) a) (get_or cell 0 0) ∷ count_below (holds_on m.template.spread (unravel m.template.grid.sizes node) b) (get_or cell 1 0) ∷ count_below (holds_on m.template.spread (unravel m.template.grid.sizes node) c) (get_or cell 2 0) ∷ [])
    else None)
unfolding all_pass counts_below
locals_are m node a b c cell e l =
    ap (λ x. if holds m node x then Some (local_positions m node x) else None) (three_of cell 0 0 0 l)
    ∙ ap (λ ls. if all_pass (map (λ l. holds_on m.template.spread (unravel m.template.grid.sizes node) l) ls) (get_or cell 0 0 ∷ get_or cell 1 0 ∷ get_or cell 2 0 ∷ [])
    then Some (counts_below (map (λ l. holds_on m.template.spread (unravel m.template.grid.sizes node) l) ls) (get_or cell 0 0 ∷ get_or cell 1 0 ∷ get_or cell 2 0 ∷ []))
    else None) e

-- what a dimension answered, read as its test
pub none_if : (b : Bool) (v : ℕ) → None ≡ (if b then Some v else None) → b ≡ false
none_if true v h = cc
none_if false v h = refl

pub some_if : (b : Bool) (v r : ℕ) → Some r ≡ (if b then Some v else None) → (b ≡ true) × (r ≡ v)
some_if true v r h = (refl, cc)
some_if false v r h = cc

pub none_first : (x y z : Bool) (v : List ℕ) → x ≡ false → None ≡ (if x && (y && (z && true)) then Some v else None)
none_first false y z v h = refl
none_first true y z v h = cc

pub none_second : (x y z : Bool) (v : List ℕ) → y ≡ false → None ≡ (if x && (y && (z && true)) then Some v else None)
none_second false false z v h = refl
none_second true false z v h = refl
none_second x true z v h = cc

pub none_third : (x y z : Bool) (v : List ℕ) → z ≡ false → None ≡ (if x && (y && (z && true)) then Some v else None)
none_third false false false v h = refl
none_third false true false v h = refl
none_third true false false v h = refl
none_third true true false v h = refl
none_third x y true v h = cc

pub some_all : (x y z : Bool) (v w : List ℕ) → x ≡ true → y ≡ true → z ≡ true → w ≡ v → Some w ≡ (if x && (y && (z && true)) then Some v else None)
some_all true true true v w hx hy hz e = ap (λ u. Some u) e
some_all false y z v w hx hy hz e = cc
some_all true false z v w hx hy hz e = cc
some_all true true false v w hx hy hz e = cc

pub some_list : (b : Bool) (v r : List ℕ) → Some r ≡ (if b then Some v else None) → (b ≡ true) × (r ≡ v)
some_list true v r h = (refl, cc)
some_list false v r h = cc

pub tests_fit : (m : ArrayMap) (node : ℕ) → length m.aligned ≡ 3 → length (tests m node) ≡ length (extents m)
tests_fit m node l = simp length-map

pub record Inside3 (x y z a b c : ℕ) : Type 0 where
  pub first : x < a
  pub second : y < b
  pub third : z < c

pub inside_three : (m : ArrayMap) (a b c : AlignedDim) (cell : List ℕ) → m.aligned ≡ (a ∷ b ∷ c ∷ []) → length cell ≡ 3 → IsCell m cell →
    Inside3 (get_or cell 0 0) (get_or cell 1 0) (get_or cell 2 0) a.extent b.extent c.extent
unfolding IsInside
inside_three m a b c cell e l h =
    let P : List ℕ → Type 0 = λ es. IsInside cell es in
    let Q : List ℕ → Type 0 = λ xs. IsInside xs (a.extent ∷ b.extent ∷ c.extent ∷ []) in
    let k = subst Q (three_of cell 0 0 0 l) (subst P (extents_are m a b c e) h) in
    record { first = k.0; second = k.1.0; third = k.1.1.0 }

-- what the slot of a held cell needs and keeps
pub record SlotFits (m : ArrayMap) (node : ℕ) (cell locals sides : List ℕ) : Type 0 where
  pub inside : IsInside locals sides
  pub same : row_major sides locals ≡ slot m node cell
  pub below : slot m node cell < words m node
  pub rank : slot m node cell ≡ count_before (extents m) (holds m node) cell
  pub only : (other : List ℕ) → IsCell m other → holds m node other ≡ true → slot m node other ≡ slot m node cell → other ≡ cell

pub slot_fits : (m : ArrayMap) (node : ℕ) (cell locals sides : List ℕ) → length m.aligned ≡ 3 → IsCell m cell → holds m node cell ≡ true →
    locals ≡ local_positions m node cell → sides ≡ held_counts m node → SlotFits m node cell locals sides
slot_fits m node cell locals sides l i h el es =
    let fit = tests_fit m node l in
    let b = inside_below cell (extents m) i in
    let below : AllBelow (local_positions m node cell) (held_counts m node) = locals_below (tests m node) cell (extents m) fit b h in
    let P : List ℕ → Type 0 = λ xs. AllBelow xs (held_counts m node) in
    let Q : List ℕ → Type 0 = λ ys. AllBelow locals ys in
    let here : AllBelow locals sides = subst Q (sym es) (subst P (sym el) below) in
    record {
      inside = below_inside locals sides here;
      same = rw (el, es) refl;
      below = rw (words_are (tests m node) (extents m) fit) (slot_lt (tests m node) cell (extents m) fit b h);
      rank = rank_is (tests m node) (extents m) cell fit (length_below cell (extents m) b) h;
      only = λ other io ho e. slot_unique (tests m node) other cell (extents m) fit (inside_below other (extents m) io) b ho h e;
    }

some_count : (b : Bool) (r : Option ℕ) (v : ℕ) → r ≡ (if b then Some v else None) → IfSome r (λ k. k ≡ v)
some_count true r v e = let P : Option ℕ → Type 0 = λ o. IfSome o (λ k. k ≡ v) in subst P (sym e) refl
some_count false r v e = let P : Option ℕ → Type 0 = λ o. IfSome o (λ k. k ≡ v) in subst P (sym e) tt

pub position_is : (ss : List SpreadDim) (at at' : List ℕ) (ls : List AlignedDim) (d x : ℕ) (l : AlignedDim) (r : Option ℕ) → at ≡ at' → slice_get ls d ≡ Some l →
    r ≡ (if holds_on ss at l x then Some (count_below (holds_on ss at l) x) else None) → IfSome r (λ k. k ≡ count_below (holds_dim ss at' (slice_get ls d)) x)
position_is ss at at' ls d x l r ea eg e =
    let P : Option AlignedDim → Type 0 = λ o. IfSome r (λ k. k ≡ count_below (holds_dim ss at' o) x) in
    subst P (sym eg) (some_count (holds_on ss at' l x) r (count_below (holds_on ss at' l) x) (e ∙ ap (λ t. if holds_on ss t l x then Some (count_below (holds_on ss t l) x) else None) ea))
