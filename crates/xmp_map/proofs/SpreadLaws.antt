-- Why a dimension of a template is refused.
use Rattle.std.proofs.Common.{◌≡◌, ℕ, zero, suc, ◌+◌, ◌*◌, ◌<◌, ◌≤◌, Bool, true, false, List, [], ◌∷◌, refl, ap, ◌∙◌, arith, subst, length, get_or, IsTrue, Some, None, eq-eqb}
use Rattle.std.specs.List.{list_all}
use Rattle.std.specs.Prelude.{drop, map, ◌&&◌, ◌==◌, slice_index, if◌then◌else◌}
use Rattle.std.proofs.lemmas.Bool.Decides.{nat_tests}
use Rattle.xmp_dist.specs.declared.form.Dist.{Dist}
use Rattle.xmp_dist.specs.declared.form.Dist.TheVariants.{Whole, Block, Cyclic, Gblock}
use Rattle.xmp_dist.specs.declared.form.DimError.{DimError}
use Rattle.xmp_dist.specs.declared.form.DimError.TheVariants.{BadSize, BadChunk, BadSum}
use Rattle.xmp_dist.specs.Valid.{is_extent, nodes_fit, width_fits, lengths_fit, dim_fault}
use Rattle.xmp_map.specs.declared.grid.Grid.{Grid}
use Rattle.xmp_map.specs.declared.spread_dim.SpreadDim.{SpreadDim}
use Rattle.xmp_map.specs.RowMajor.{product}
use Rattle.xmp_map.specs.Nodes.{is_grid}
use Rattle.xmp_map.specs.Spread.{is_whole}
use Rattle.xmp_map.specs.Spread.{chunk_fits, chunks_fit, spread, spreads, sizes_fit, template_fault}
use Rattle.xmp_map.specs.Nodes.{filled}
use Rattle.xmp_map.specs.declared.fault.MapError.TheVariants.{Size, Spread, Chunk}
use Rattle.xmp_map.proofs.Three.{three}
use Rattle.xmp_map.proofs.GridLaws.{factors}

fault_go : (a w l : Bool) (e : DimError) → a ≡ true →
    (if a then (if w then (if l then None else Some BadSum) else Some BadChunk) else Some BadSize) ≡ Some e → (w && l) ≡ false
fault_go false w l e h f = cc
fault_go true false l e h f = refl
fault_go true true false e h f = refl
fault_go true true true e h f = cc

grid_each : (a b c : ℕ) → IsTrue (is_grid (a ∷ b ∷ c ∷ [])) → (0 < a) × (a ≤ 16) × (0 < b) × (b ≤ 16) × (0 < c) × (c ≤ 16)
unfolding product
grid_each a b c h =
    let ha : 0 < a = grind (arith, nat_tests) in
    let hb : 0 < b = grind (arith, nat_tests) in
    let hc : 0 < c = grind (arith, nat_tests) in
    let f = factors a b c ha hb hc in
    let p : a * (b * (c * 1)) ≤ 16 = grind (arith, nat_tests) in
    let one = f.one in let two = f.two in let three = f.three in
    (ha, omega arith, hb, omega arith, hc, omega arith)

pub grid_at : (g : Grid) (k : ℕ) → length g.sizes ≡ 3 → k < 3 → (0 < slice_index g.sizes k) × (slice_index g.sizes k ≤ 16)
grid_at g k l h =
    let P : List ℕ → Type 0 = λ xs. IsTrue (is_grid xs) in
    let f = grid_each (get_or g.sizes 0 0) (get_or g.sizes 1 0) (get_or g.sizes 2 0) (subst P (three g.sizes 0 l) g.valid) in
    go k h (get_or g.sizes 0 0) (get_or g.sizes 1 0) (get_or g.sizes 2 0) g.sizes refl refl refl f
  where
    go : (k : ℕ) → k < 3 → (a b c : ℕ) (xs : List ℕ) → get_or xs 0 0 ≡ a → get_or xs 1 0 ≡ b → get_or xs 2 0 ≡ c →
        (0 < a) × (a ≤ 16) × (0 < b) × (b ≤ 16) × (0 < c) × (c ≤ 16) → (0 < get_or xs k 0) × (get_or xs k 0 ≤ 16)
    go zero h a b c xs ea eb ec f = (omega arith, omega arith)
    go (suc zero) h a b c xs ea eb ec f = (omega arith, omega arith)
    go (suc (suc zero)) h a b c xs ea eb ec f = (omega arith, omega arith)
    go (suc (suc (suc k))) h a b c xs ea eb ec f = absurd (omega arith)

pub fault_chunk : (size nodes : ℕ) (dist : Dist) (e : DimError) → is_extent size ≡ true → 0 < nodes → nodes ≤ 16 → is_whole dist ≡ false →
    dim_fault size nodes dist ≡ Some e → chunk_fits dist size nodes ≡ false
fault_chunk size nodes Whole e hs hp hn hw f = cc
fault_chunk size nodes Block e hs hp hn hw f = fault_go (is_extent size && nodes_fit Block nodes) true true e (grind (arith, nat_tests)) f
fault_chunk size nodes (Cyclic w) e hs hp hn hw f =
    fault_go (is_extent size && nodes_fit (Cyclic w) nodes) (width_fits (Cyclic w)) true e (grind (arith, nat_tests)) f
fault_chunk size nodes (Gblock ls) e hs hp hn hw f =
    fault_go (is_extent size && nodes_fit (Gblock ls) nodes) true (lengths_fit (Gblock ls) size nodes) e (grind (arith, nat_tests)) f

pub fault_whole : (size : ℕ) (e : DimError) → is_extent size ≡ true → dim_fault size 1 Whole ≡ Some e → ⊥
fault_whole size e hs f = let k = fault_go (is_extent size && nodes_fit Whole 1) true true e (grind (arith, nat_tests)) f in cc

pub whole_unless : (dist : Dist) → (dist ≡ Whole → ⊥) → is_whole dist ≡ false
whole_unless Whole h = absurd (h refl)
whole_unless Block h = refl
whole_unless (Cyclic w) h = refl
whole_unless (Gblock ls) h = refl

too_many : (a b c z : ℕ) (zs : List ℕ) → sizes_fit (a ∷ b ∷ c ∷ z ∷ zs) ≡ true → ⊥
too_many a b c z zs h = grind (arith, nat_tests)

pub fits_three : (sizes : List ℕ) → sizes_fit sizes ≡ true → length sizes ≤ 3
fits_three sizes h = grind (arith, nat_tests)

-- undistributed dimensions take no axis
pub spreads-filled : (dists : List Dist) → length dists ≤ 3 → spreads (filled Whole dists) ≡ spreads dists
spreads-filled [] h = refl
spreads-filled (a ∷ []) h = omega arith
spreads-filled (a ∷ b ∷ []) h = omega arith
spreads-filled (a ∷ b ∷ c ∷ []) h = refl
spreads-filled (a ∷ b ∷ c ∷ d ∷ ds) h = absurd (omega arith)

-- with sizes and forms that are as many as they must be, what is left is that each form's parts fit
pub fault_is : (many : ℕ) (grid sizes : List ℕ) (dists : List Dist) → sizes_fit sizes ≡ true → length dists ≡ length sizes → spreads dists ≡ many →
    template_fault many grid sizes dists ≡ (if chunks_fit (filled 1 sizes) (filled Whole dists) grid 0 then None else Some Chunk)
fault_is many grid sizes dists hs hl hm =
    test_go (sizes_fit sizes) (length dists == length sizes) (spreads dists == many) (chunks_fit sizes dists grid 0) hs (eq-eqb (length dists) (length sizes) hl) (eq-eqb (spreads dists) many hm)
    ∙ ap (λ b. if b then None else Some Chunk) (filled_same sizes dists grid hs hl)
  where
    test_go : (a b c d : Bool) → a ≡ true → b ≡ true → c ≡ true →
        (if a then (if b && c then (if d then None else Some Chunk) else Some Spread) else Some Size) ≡ (if d then None else Some Chunk)
    test_go true true true d ha hb hc = refl
    test_go false b c d ha hb hc = cc
    test_go true false c d ha hb hc = cc
    test_go true true false d ha hb hc = cc

    filled_same : (sizes : List ℕ) (dists : List Dist) (grid : List ℕ) → sizes_fit sizes ≡ true → length dists ≡ length sizes →
        chunks_fit sizes dists grid 0 ≡ chunks_fit (filled 1 sizes) (filled Whole dists) grid 0
    filled_same [] ds grid hs hl = cc
    filled_same (a ∷ []) [] grid hs hl = absurd (omega arith)
    filled_same (a ∷ []) (d ∷ []) grid hs hl = refl
    filled_same (a ∷ []) (d ∷ e ∷ ds) grid hs hl = absurd (omega arith)
    filled_same (a ∷ b ∷ []) [] grid hs hl = absurd (omega arith)
    filled_same (a ∷ b ∷ []) (d ∷ []) grid hs hl = absurd (omega arith)
    filled_same (a ∷ b ∷ []) (d ∷ e ∷ []) grid hs hl = refl
    filled_same (a ∷ b ∷ []) (d ∷ e ∷ f ∷ ds) grid hs hl = absurd (omega arith)
    filled_same (a ∷ b ∷ c ∷ []) [] grid hs hl = absurd (omega arith)
    filled_same (a ∷ b ∷ c ∷ []) (d ∷ []) grid hs hl = absurd (omega arith)
    filled_same (a ∷ b ∷ c ∷ []) (d ∷ e ∷ []) grid hs hl = absurd (omega arith)
    filled_same (a ∷ b ∷ c ∷ []) (d ∷ e ∷ f ∷ []) grid hs hl = refl
    filled_same (a ∷ b ∷ c ∷ []) (d ∷ e ∷ f ∷ g ∷ ds) grid hs hl = absurd (omega arith)
    filled_same (a ∷ b ∷ c ∷ z ∷ zs) ds grid hs hl = absurd (too_many a b c z zs hs)

-- the three forms at once, where the axes are what the code counted
pub three_fit : (s0 s1 s2 k1 k2 : ℕ) (d0 d1 d2 : Dist) (grid : List ℕ) → k1 ≡ spread d0 → k2 ≡ spread d0 + spread d1 →
    chunks_fit (s0 ∷ s1 ∷ s2 ∷ []) (d0 ∷ d1 ∷ d2 ∷ []) grid 0
    ≡ (chunk_fits d0 s0 (slice_index grid 0) && (chunk_fits d1 s1 (slice_index grid k1) && (chunk_fits d2 s2 (slice_index grid k2) && true)))
three_fit s0 s1 s2 k1 k2 d0 d1 d2 grid e1 e2 =
    let f1 : 0 + spread d0 ≡ k1 = omega arith in
    let f2 : 0 + spread d0 + spread d1 ≡ k2 = omega arith in
    ap (λ k. chunk_fits d0 s0 (slice_index grid 0) && (chunk_fits d1 s1 (slice_index grid k) && (chunk_fits d2 s2 (slice_index grid (0 + spread d0 + spread d1)) && true))) f1
    ∙ ap (λ k. chunk_fits d0 s0 (slice_index grid 0) && (chunk_fits d1 s1 (slice_index grid k1) && (chunk_fits d2 s2 (slice_index grid k) && true))) f2

pub false_first : (x y z : Bool) → x ≡ false → (x && (y && (z && true))) ≡ false
false_first false y z h = refl
false_first true y z h = cc

pub false_second : (x y z : Bool) → y ≡ false → (x && (y && (z && true))) ≡ false
false_second false y z h = refl
false_second true false z h = refl
false_second true true z h = cc

pub false_third : (x y z : Bool) → z ≡ false → (x && (y && (z && true))) ≡ false
false_third false y z h = refl
false_third true false z h = refl
false_third true true false h = refl
false_third true true true h = cc

pub true_all : (x y z : Bool) → x ≡ true → y ≡ true → z ≡ true → (x && (y && (z && true))) ≡ true
true_all true true true h i j = refl
true_all false y z h i j = cc
true_all true false z h i j = cc
true_all true true false h i j = cc

-- the fault of a template whose filled sizes and forms are known
pub fault_of : (many : ℕ) (grid sizes : List ℕ) (dists : List Dist) (s0 s1 s2 : ℕ) (d0 d1 d2 : Dist) → sizes_fit sizes ≡ true → length dists ≡ length sizes → spreads dists ≡ many →
    filled 1 sizes ≡ (s0 ∷ s1 ∷ s2 ∷ []) → filled Whole dists ≡ (d0 ∷ d1 ∷ d2 ∷ []) →
    template_fault many grid sizes dists ≡ (if chunks_fit (s0 ∷ s1 ∷ s2 ∷ []) (d0 ∷ d1 ∷ d2 ∷ []) grid 0 then None else Some Chunk)
fault_of many grid sizes dists s0 s1 s2 d0 d1 d2 hs hl hm es ed =
    fault_is many grid sizes dists hs hl hm
    ∙ ap (λ ss. if chunks_fit ss (filled Whole dists) grid 0 then None else Some Chunk) es
    ∙ ap (λ ds. if chunks_fit (s0 ∷ s1 ∷ s2 ∷ []) ds grid 0 then None else Some Chunk) ed

whole_map : (ss : List SpreadDim) → list_all (λ s. is_whole s.dim.dist) ss ≡ list_all is_whole (map (λ s. s.dim.dist) ss)
whole_map [] = refl
whole_map (s ∷ ss) = ap (λ b. is_whole s.dim.dist && b) (whole_map ss)

whole_drop : (n : ℕ) (ss : List SpreadDim) → list_all (λ s. is_whole s.dim.dist) (drop n ss) ≡ list_all is_whole (drop n (map (λ s. s.dim.dist) ss))
whole_drop zero [] = refl
whole_drop (suc n) [] = refl
whole_drop zero (s ∷ ss) = whole_map (s ∷ ss)
whole_drop (suc n) (s ∷ ss) = whole_drop n ss

whole_filled : (dists : List Dist) → length dists ≤ 3 → list_all is_whole (drop (length dists) (filled Whole dists)) ≡ true
whole_filled [] h = refl
whole_filled (a ∷ []) h = refl
whole_filled (a ∷ b ∷ []) h = refl
whole_filled (a ∷ b ∷ c ∷ []) h = refl
whole_filled (a ∷ b ∷ c ∷ d ∷ ds) h = absurd (omega arith)

-- the dimensions past those of the template are undistributed
pub whole_rest : (dists : List Dist) (ss : List SpreadDim) (n : ℕ) → map (λ s. s.dim.dist) ss ≡ filled Whole dists → n ≡ length dists → length dists ≤ 3 →
    list_all (λ s. is_whole s.dim.dist) (drop n ss) ≡ true
whole_rest dists ss n e l h =
    whole_drop n ss ∙ ap (λ ds. list_all is_whole (drop n ds)) e ∙ ap (λ k. list_all is_whole (drop k (filled Whole dists))) l ∙ whole_filled dists h
