-- What a dimension's validity gives, and the closed form of `owned_below` for each form.
use Rattle.std.proofs.Common.{◌≡◌, ℕ, ◌+◌, ◌-◌, ◌/◌, ◌%◌, ◌<◌, ◌≤◌, inl, inr, true, refl, sym, ◌∙◌, ap, arith, min, sum, take, IsTrue, subst, length-take, add-one, eq-eqb, ◌↔◌}
use Rattle.std.specs.Prelude.{nat_lt, nat_le, ◌&&◌, ◌==◌}
use Rattle.std.proofs.lemmas.Bool.{cases_lt}
use Rattle.std.proofs.lemmas.Bool.Decides.{nat_tests}
use Rattle.xmp_dist.specs.declared.form.Dist.{Dist}
use Rattle.xmp_dist.specs.declared.form.Dist.TheVariants.{Whole, Block, Cyclic, Gblock}
use Rattle.xmp_dist.specs.declared.form.Lengths.{Lengths}
use Rattle.xmp_dist.specs.declared.dimension.Dim.{Dim}
use Rattle.xmp_dist.specs.Valid.{is_dim}
use Rattle.std.specs.Int.{div_ceil}
use Rattle.xmp_dist.specs.Table.{owner_by, is_chunked, chunk_start, chunk_end}
use Rattle.xmp_dist.specs.Owner.{owner_inside, owned_below, count, local}
use Rattle.xmp_dist.proofs.Counting.{count_below-lt, count_below-unique, count_below-mono, count_below-same, count_below-span}
use Rattle.xmp_dist.proofs.Cyclic.{cyclic_count, cyclic_is, cyclic_global, cyclic_global-owner, cyclic_global-count}
use Rattle.xmp_dist.proofs.Spans.{block_test, chunk_test, chunk_lt, sum_take_mono, sum_take_le, block_lt, div_ceil_pos}

pub record DimFits (size nodes : ℕ) : Type 0 where
  pub size_pos : 0 < size
  pub size_le : size ≤ 4194304
  pub nodes_pos : 0 < nodes
  pub nodes_le : nodes ≤ 16

pub dim_fits : (size nodes : ℕ) (dist : Dist) → IsTrue (is_dim size nodes dist) → DimFits size nodes
dim_fits size nodes Whole h = record { size_pos = grind (arith, nat_tests); size_le = grind (arith, nat_tests); nodes_pos = grind (arith, nat_tests); nodes_le = grind (arith, nat_tests) }
dim_fits size nodes Block h = record { size_pos = grind (arith, nat_tests); size_le = grind (arith, nat_tests); nodes_pos = grind (arith, nat_tests); nodes_le = grind (arith, nat_tests) }
dim_fits size nodes (Cyclic w) h = record { size_pos = grind (arith, nat_tests); size_le = grind (arith, nat_tests); nodes_pos = grind (arith, nat_tests); nodes_le = grind (arith, nat_tests) }
dim_fits size nodes (Gblock ls) h = record { size_pos = grind (arith, nat_tests); size_le = grind (arith, nat_tests); nodes_pos = grind (arith, nat_tests); nodes_le = grind (arith, nat_tests) }

pub whole_fits : (size nodes : ℕ) → IsTrue (is_dim size nodes Whole) → nodes ≡ 1
whole_fits size nodes h = grind (arith, nat_tests)

pub cyclic_fits : (size nodes w : ℕ) → IsTrue (is_dim size nodes (Cyclic w)) → (0 < w) × (w ≤ 4194304)
cyclic_fits size nodes w h = (grind (arith, nat_tests), grind (arith, nat_tests))

pub gblock_fits : (size nodes : ℕ) (ls : Lengths) → IsTrue (is_dim size nodes (Gblock ls)) → (ls.count ≡ nodes) × (sum (take ls.count ls.values) ≡ size)
gblock_fits size nodes ls h = (grind (arith, nat_tests), grind (arith, nat_tests))

pub owner_by_lt : (size nodes : ℕ) (dist : Dist) (x : ℕ) → IsTrue (is_dim size nodes dist) → x < size → owner_by dist size nodes x < nodes
owner_by_lt size nodes Whole x h hx = let e = whole_fits size nodes h in omega arith
owner_by_lt size nodes Block x h hx = let f = dim_fits size nodes Block h in block_lt size nodes x f.nodes_pos hx
owner_by_lt size nodes (Cyclic w) x h hx = let f = dim_fits size nodes (Cyclic w) h in let p = f.nodes_pos in omega arith
owner_by_lt size nodes (Gblock ls) x h hx =
    let f = gblock_fits size nodes ls h in
    let l = length-take ls.count ls.values in
    let k = chunk_lt (take ls.count ls.values) x (omega arith) in
    omega arith

-- each node's positions, in a form that has chunks, are its chunk
pub chunk_owner : (size nodes : ℕ) (dist : Dist) (c x : ℕ) → IsTrue (is_dim size nodes dist) → is_chunked dist ≡ true → c < nodes → x < size →
    (owner_by dist size nodes x == c) ≡ (nat_le (chunk_start dist size nodes c) x && nat_lt x (chunk_end dist size nodes c))
chunk_owner size nodes Whole c x h k hc hx = let e = whole_fits size nodes h in let z : c ≡ 0 = omega arith in grind (arith, nat_tests)
chunk_owner size nodes Block c x h k hc hx =
    let f = dim_fits size nodes Block h in
    block_test (div_ceil size nodes) c size x (div_ceil_pos size nodes f.size_pos f.nodes_pos) hx
chunk_owner size nodes (Cyclic w) c x h k hc hx = cc
chunk_owner size nodes (Gblock ls) c x h k hc hx =
    let f = gblock_fits size nodes ls h in
    rw (add-one c) (chunk_test (take ls.count ls.values) c x (omega arith))

pub chunk_order : (size nodes : ℕ) (dist : Dist) (c : ℕ) → IsTrue (is_dim size nodes dist) →
    (chunk_start dist size nodes c ≤ chunk_end dist size nodes c) × (chunk_end dist size nodes c ≤ size)
chunk_order size nodes Whole c h = (omega arith, omega arith)
chunk_order size nodes Block c h = (omega arith, omega arith)
chunk_order size nodes (Cyclic w) c h = (omega arith, omega arith)
chunk_order size nodes (Gblock ls) c h =
    let f = gblock_fits size nodes ls h in
    (sum_take_mono (take ls.count ls.values) c, omega (arith, sum_take_le (take ls.count ls.values) (c + 1)))

-- the closed forms
pub owned_below-chunked : (d : Dim) (c n : ℕ) → is_chunked d.dist ≡ true → c < d.nodes → n ≤ d.size →
    owned_below d c n ≡ min n (chunk_end d.dist d.size d.nodes c) - min n (chunk_start d.dist d.size d.nodes c)
unfolding owner_inside
owned_below-chunked d c n k hc hn =
    count_below-span (λ x. owner_inside d x == c) (chunk_start d.dist d.size d.nodes c) (chunk_end d.dist d.size d.nodes c) n
    (chunk_order d.size d.nodes d.dist c d.valid).0
    (λ x hx. chunk_owner d.size d.nodes d.dist c x d.valid k hc (omega arith))

pub owned_below-cyclic : (d : Dim) (w c n : ℕ) → d.dist ≡ Cyclic w → c < d.nodes →
    owned_below d c n ≡ cyclic_count w d.nodes c n
unfolding owner_inside
owned_below-cyclic d w c n e hc =
    let v : IsTrue (is_dim d.size d.nodes (Cyclic w)) = let P : Dist → Type 0 = λ t. IsTrue (is_dim d.size d.nodes t) in subst P e d.valid in
    let f = cyclic_fits d.size d.nodes w v in
    count_below-same (λ x. owner_inside d x == c) (λ x. ((x / w) % d.nodes) == c) n (λ x _. ap (λ t. owner_by t d.size d.nodes x == c) e)
    ∙ cyclic_is w d.nodes c n f.0 hc

pub owns_true : (d : Dim) (c x : ℕ) → owner_inside d x ≡ c → (owner_inside d x == c) ≡ true
owns_true d c x e = eq-eqb (owner_inside d x) c e

pub local_of : (d : Dim) (c x l : ℕ) → owner_inside d x ≡ c → owned_below d c x ≡ l → local d x ≡ l
local_of d c x l e h = ap (λ k. owned_below d k x) e ∙ h

pub local_lt : (d : Dim) (x : ℕ) → x < d.size → local d x < count d (owner_inside d x)
local_lt d x h = count_below-lt (λ y. owner_inside d y == owner_inside d x) x d.size (owns_true d (owner_inside d x) x refl) h

pub chunked_unless : (dist : Dist) → ((w : ℕ) → dist ≡ Cyclic w → ⊥) → is_chunked dist ≡ true
chunked_unless Whole h = refl
chunked_unless Block h = refl
chunked_unless (Cyclic w) h = absurd (h w refl)
chunked_unless (Gblock ls) h = refl

pub span_iff : (a c lo hi x : ℕ) → (a == c) ≡ (nat_le lo x && nat_lt x hi) → (a ≡ c) ↔ ((lo ≤ x) × (x < hi))
span_iff a c lo hi x e = (λ h. grind (arith, nat_tests), λ h. grind (arith, nat_tests))

pub interval_owned : (d : Dim) (c x : ℕ) → IsTrue (is_chunked d.dist) → c < d.nodes → x < d.size →
    (owner_inside d x ≡ c) ↔ ((chunk_start d.dist d.size d.nodes c ≤ x) × (x < chunk_end d.dist d.size d.nodes c))
unfolding owner_inside
interval_owned d c x k hc hx =
    span_iff (owner_inside d x) c (chunk_start d.dist d.size d.nodes c) (chunk_end d.dist d.size d.nodes c) x
    (chunk_owner d.size d.nodes d.dist c x d.valid (grind (arith, nat_tests)) hc hx)

-- what `global` ensures of its answer
pub record IsGlobal (d : Dim) (c l g : ℕ) : Type 0 where
  pub inside : g < d.size
  pub inverse : (x : ℕ) → owner_inside d x ≡ c → local d x ≡ l → g ≡ x
  pub owner : owner_inside d g ≡ c
  pub local : local d g ≡ l

-- a position is known by its owner and its number
pub same_local : (d : Dim) (c l x g : ℕ) → owner_inside d x ≡ c → local d x ≡ l → owner_inside d g ≡ c → local d g ≡ l → x ≡ g
same_local d c l x g ox lx og lg =
    let ex = ap (λ k. owned_below d k x) ox in
    let eg = ap (λ k. owned_below d k g) og in
    count_below-unique (λ y. owner_inside d y == c) x g (owns_true d c x ox) (owns_true d c g og) (omega arith)

pub global_cyclic : (d : Dim) (w c l : ℕ) → d.dist ≡ Cyclic w → c < d.nodes → l < count d c → IsGlobal d c l (cyclic_global w d.nodes c l)
unfolding owner_inside
global_cyclic d w c l e hc hl =
    let v : IsTrue (is_dim d.size d.nodes (Cyclic w)) = let P : Dist → Type 0 = λ t. IsTrue (is_dim d.size d.nodes t) in subst P e d.valid in
    let f = cyclic_fits d.size d.nodes w v in
    let g = cyclic_global w d.nodes c l in
    let o : owner_inside d (cyclic_global w d.nodes c l) ≡ c = ap (λ t. owner_by t d.size d.nodes (cyclic_global w d.nodes c l)) e ∙ cyclic_global-owner w d.nodes c l f.0 hc in
    let k : owned_below d c (cyclic_global w d.nodes c l) ≡ l = owned_below-cyclic d w c (cyclic_global w d.nodes c l) e hc ∙ cyclic_global-count w d.nodes c l f.0 hc in
    record {
      inside = elim (cases_lt (cyclic_global w d.nodes c l) d.size) [
        | inl lt ↦ lt
        | inr ge ↦ let m = count_below-mono (λ x. owner_inside d x == c) d.size (cyclic_global w d.nodes c l) ge in absurd (omega arith)
      ];
      owner = o;
      local = local_of d c (cyclic_global w d.nodes c l) l o k;
      inverse = λ x ox lx. sym (same_local d c l x (cyclic_global w d.nodes c l) ox lx o (local_of d c (cyclic_global w d.nodes c l) l o k));
    }

pub global_chunked : (d : Dim) (c l : ℕ) → is_chunked d.dist ≡ true → c < d.nodes → l < count d c → IsGlobal d c l (chunk_start d.dist d.size d.nodes c + l)
unfolding owner_inside
global_chunked d c l k hc hl =
    let start = chunk_start d.dist d.size d.nodes c in
    let order = chunk_order d.size d.nodes d.dist c d.valid in
    let all = owned_below-chunked d c d.size k hc (omega arith) in
    let g = chunk_start d.dist d.size d.nodes c + l in
    let inside : chunk_start d.dist d.size d.nodes c + l < chunk_end d.dist d.size d.nodes c = omega arith in
    let inside' : chunk_start d.dist d.size d.nodes c + l < d.size = omega arith in
    let part = owned_below-chunked d c (chunk_start d.dist d.size d.nodes c + l) k hc (omega arith) in
    let o : owner_inside d (chunk_start d.dist d.size d.nodes c + l) ≡ c =
    (span_iff (owner_inside d (chunk_start d.dist d.size d.nodes c + l)) c (chunk_start d.dist d.size d.nodes c) (chunk_end d.dist d.size d.nodes c) (chunk_start d.dist d.size d.nodes c + l)
    (chunk_owner d.size d.nodes d.dist c (chunk_start d.dist d.size d.nodes c + l) d.valid k hc inside')).1 (omega arith, inside) in
    let here = local_of d c (chunk_start d.dist d.size d.nodes c + l) l o (omega arith) in
    record { inside = inside'; owner = o; local = here; inverse = λ x ox lx. sym (same_local d c l x (chunk_start d.dist d.size d.nodes c + l) ox lx o here) }
