-- Each axis of the grid has one distributed dimension of the array on it.
use Rattle.std.proofs.Common.{◌≡◌, ℕ, zero, suc, ◌+◌, ◌*◌, Bool, true, false, List, [], ◌∷◌, refl, sym, ◌∙◌, arith, IsTrue, subst, map, Some, None, Option, cond}
use Rattle.std.specs.Prelude.{not, ◌&&◌, ◌||◌, ◌==◌, nat_lt, if◌then◌else◌}
use Rattle.std.specs.List.{count_by}
use Rattle.std.proofs.lemmas.Bool.Decides.{nat_tests}
use Rattle.std.proofs.lemmas.List.Recursion.{is_count_by}
use Rattle.xmp_dist.proofs.Counting.{one_if}
use Rattle.xmp_map.specs.declared.spread_dim.SpreadDim.{SpreadDim}
use Rattle.xmp_map.specs.declared.template.Template.{Template}
use Rattle.xmp_map.specs.declared.aligned.AlignedDim.{AlignedDim}
use Rattle.xmp_map.specs.Spread.{is_whole, spread, spreads, lies_over}
use Rattle.xmp_map.specs.Align.{under, names, named, names_fit}
use Rattle.xmp_map.specs.Axes.{lies_on}
use Rattle.xmp_map.proofs.Counted.{and_left, and_right}

abbrev my_count : {X : Type 0} → (X → Bool) → List X → ℕ
my_count p [] = 0
my_count p (x ∷ xs) = cond (p x) (1 + my_count p xs) (my_count p xs)

count_three : {X : Type 0} (p : X → Bool) (a b c : X) → count_by p (a ∷ b ∷ c ∷ []) ≡ one_if (p a) + one_if (p b) + one_if (p c)
count_three p a b c = sym (is_count_by (my_count p) p refl (λ x xs. refl) (a ∷ b ∷ c ∷ [])) ∙ go (p a) (p b) (p c)
  where
    go : (x y z : Bool) → cond x (1 + cond y (1 + cond z (1 + 0) 0) (cond z (1 + 0) 0)) (cond y (1 + cond z (1 + 0) 0) (cond z (1 + 0) 0)) ≡ one_if x + one_if y + one_if z
    go true true true = refl
    go true true false = refl
    go true false true = refl
    go true false false = refl
    go false true true = refl
    go false true false = refl
    go false false true = refl
    go false false false = refl

from_one : (a k : ℕ) → a ≡ 0 + k → a ≡ k
from_one a k h = omega arith

from_two : (a k l : ℕ) → a ≡ 0 + k + l → a ≡ k + l
from_two a k l h = omega arith

-- a dimension of the array lies on an axis where it names a dimension of the template that does
lies_named : (s0 s1 s2 : SpreadDim) (d : Option ℕ) (k : ℕ) →
    one_if (lies_on (under (s0 ∷ s1 ∷ s2 ∷ []) d) k)
    ≡ one_if (names d 0) * one_if (lies_on (Some s0) k) + one_if (names d 1) * one_if (lies_on (Some s1) k) + one_if (names d 2) * one_if (lies_on (Some s2) k)
lies_named s0 s1 s2 None k = omega arith
lies_named s0 s1 s2 (Some zero) k = omega arith
lies_named s0 s1 s2 (Some (suc zero)) k = omega arith
lies_named s0 s1 s2 (Some (suc (suc zero))) k = omega arith
lies_named s0 s1 s2 (Some (suc (suc (suc d)))) k =
    let n0 : (suc (suc (suc d)) == 0) ≡ false = grind (arith, nat_tests) in
    let n1 : (suc (suc (suc d)) == 1) ≡ false = grind (arith, nat_tests) in
    let n2 : (suc (suc (suc d)) == 2) ≡ false = grind (arith, nat_tests) in
    rw (n0, n1, n2) (omega arith)

-- a distributed dimension of the template is named once
named_once : (w x : Bool) (n : ℕ) → (w || (n == 1)) ≡ true → n * one_if (not w && x) ≡ one_if (not w && x)
named_once true x n h = omega arith
named_once false x n h = let e : n ≡ 1 = grind (arith, nat_tests) in rw e (omega arith)

names_each : (n0 n1 n2 a0 a1 a2 : Bool) → ((a0 && n0) && ((a1 && n1) && ((a2 && n2) && true))) ≡ true → (n0 ≡ true) × (n1 ≡ true) × (n2 ≡ true)
names_each n0 n1 n2 true true true h = go n0 n1 n2 h
  where
    go : (n0 n1 n2 : Bool) → (n0 && (n1 && (n2 && true))) ≡ true → (n0 ≡ true) × (n1 ≡ true) × (n2 ≡ true)
    go true true true h = (refl, refl, refl)
    go true true false h = cc
    go true false n2 h = cc
    go false n1 n2 h = cc
names_each n0 n1 n2 false a1 a2 h = cc
names_each true n1 n2 true false a2 h = cc
names_each false n1 n2 true false a2 h = cc
names_each true true n2 true true false h = cc
names_each true false n2 true true false h = cc
names_each false n1 n2 true true false h = cc

-- the distributed dimensions of a template lie on the axes one after the other
axes_once : (w0 w1 w2 : Bool) (a0 a1 a2 n k : ℕ) → a0 ≡ 0 → a1 ≡ (if w0 then 0 else 1) → a2 ≡ (if w0 then 0 else 1) + (if w1 then 0 else 1) →
    (if w0 then 0 else 1) + ((if w1 then 0 else 1) + ((if w2 then 0 else 1) + 0)) ≡ n →
    one_if (not w0 && (a0 == k)) + one_if (not w1 && (a1 == k)) + one_if (not w2 && (a2 == k)) ≡ one_if (nat_lt k n)
axes_once true true true a0 a1 a2 n k e0 e1 e2 en = grind (arith, nat_tests)
axes_once true true false a0 a1 a2 n k e0 e1 e2 en = grind (arith, nat_tests)
axes_once true false true a0 a1 a2 n k e0 e1 e2 en = grind (arith, nat_tests)
axes_once true false false a0 a1 a2 n k e0 e1 e2 en = grind (arith, nat_tests)
axes_once false true true a0 a1 a2 n k e0 e1 e2 en = grind (arith, nat_tests)
axes_once false true false a0 a1 a2 n k e0 e1 e2 en = grind (arith, nat_tests)
axes_once false false true a0 a1 a2 n k e0 e1 e2 en = grind (arith, nat_tests)
axes_once false false false a0 a1 a2 n k e0 e1 e2 en = grind (arith, nat_tests)

axes_are : (a0 a1 a2 k1 k2 : ℕ) (r0 r1 r2 : Bool) → (((a0 == 0) && r0) && (((a1 == k1) && r1) && (((a2 == k2) && r2) && true))) ≡ true → (a0 ≡ 0) × (a1 ≡ k1) × (a2 ≡ k2)
axes_are a0 a1 a2 k1 k2 r0 r1 r2 h =
    let l0 = and_left ((a0 == 0) && r0) (((a1 == k1) && r1) && (((a2 == k2) && r2) && true)) h in
    let h1 = and_right ((a0 == 0) && r0) (((a1 == k1) && r1) && (((a2 == k2) && r2) && true)) h in
    let l1 = and_left ((a1 == k1) && r1) (((a2 == k2) && r2) && true) h1 in
    let h2 = and_right ((a1 == k1) && r1) (((a2 == k2) && r2) && true) h1 in
    let l2 = and_left ((a2 == k2) && r2) true h2 in
    let t0 = and_left (a0 == 0) r0 l0 in
    let t1 = and_left (a1 == k1) r1 l1 in
    let t2 = and_left (a2 == k2) r2 l2 in
    (grind (arith, nat_tests), grind (arith, nat_tests), grind (arith, nat_tests))

sum_up : (x0 x1 x2 y0 y1 y2 z0 z1 z2 b0 b1 b2 p q r n : ℕ) → p ≡ x0 * b0 + x1 * b1 + x2 * b2 → q ≡ y0 * b0 + y1 * b1 + y2 * b2 → r ≡ z0 * b0 + z1 * b1 + z2 * b2 →
    (x0 + y0 + z0) * b0 ≡ b0 → (x1 + y1 + z1) * b1 ≡ b1 → (x2 + y2 + z2) * b2 ≡ b2 → b0 + b1 + b2 ≡ n → p + q + r ≡ n
sum_up x0 x1 x2 y0 y1 y2 z0 z1 z2 b0 b1 b2 p q r n hp hq hr h0 h1 h2 hn = omega arith

one_lies_in : (a b c : AlignedDim) (s0 s1 s2 : SpreadDim) (dims k : ℕ) (sizes : List ℕ) → names_fit (a ∷ b ∷ c ∷ []) (s0 ∷ s1 ∷ s2 ∷ []) 0 ≡ true →
    lies_over (s0 ∷ s1 ∷ s2 ∷ []) sizes 0 ≡ true → spreads (map (λ s. s.dim.dist) (s0 ∷ s1 ∷ s2 ∷ [])) ≡ dims →
    one_if (lies_on (under (s0 ∷ s1 ∷ s2 ∷ []) a.target.dim) k) + one_if (lies_on (under (s0 ∷ s1 ∷ s2 ∷ []) b.target.dim) k) + one_if (lies_on (under (s0 ∷ s1 ∷ s2 ∷ []) c.target.dim) k)
    ≡ one_if (nat_lt k dims)
one_lies_in a b c s0 s1 s2 dims k sizes h l n =
    let each = names_each _ _ _ _ _ _ h in
    let axes = axes_are s0.axis s1.axis s2.axis (0 + spread s0.dim.dist) (0 + spread s0.dim.dist + spread s1.dim.dist) _ _ _ l in
    let la = lies_named s0 s1 s2 a.target.dim k in
    let lb = lies_named s0 s1 s2 b.target.dim k in
    let lc = lies_named s0 s1 s2 c.target.dim k in
    let n0 = count_three (λ l. names l.target.dim 0) a b c in
    let n1 = count_three (λ l. names l.target.dim 1) a b c in
    let n2 = count_three (λ l. names l.target.dim 2) a b c in
    let o0 = named_once (is_whole s0.dim.dist) (s0.axis == k) (named (a ∷ b ∷ c ∷ []) 0) each.0 in
    let o1 = named_once (is_whole s1.dim.dist) (s1.axis == k) (named (a ∷ b ∷ c ∷ []) 1) each.1 in
    let o2 = named_once (is_whole s2.dim.dist) (s2.axis == k) (named (a ∷ b ∷ c ∷ []) 2) each.2 in
    let once = axes_once (is_whole s0.dim.dist) (is_whole s1.dim.dist) (is_whole s2.dim.dist) s0.axis s1.axis s2.axis dims k axes.0 (from_one _ _ axes.1) (from_two _ _ _ axes.2) n in
    sum_up _ _ _ _ _ _ _ _ _ (one_if (lies_on (Some s0) k)) (one_if (lies_on (Some s1) k)) (one_if (lies_on (Some s2) k)) _ _ _ _ la lb lc (rw n0 at o0) (rw n1 at o1) (rw n2 at o2) once

-- each axis of the grid, and no other number, has one dimension of the array on it
pub one_lies : (t : Template) (a b c : AlignedDim) (s0 s1 s2 : SpreadDim) (k : ℕ) → t.spread ≡ (s0 ∷ s1 ∷ s2 ∷ []) → names_fit (a ∷ b ∷ c ∷ []) t.spread 0 ≡ true →
    one_if (lies_on (under t.spread a.target.dim) k) + one_if (lies_on (under t.spread b.target.dim) k) + one_if (lies_on (under t.spread c.target.dim) k)
    ≡ one_if (nat_lt k t.grid.dims)
one_lies t a b c s0 s1 s2 k e h =
    let P : List SpreadDim → Type 0 = λ ss. names_fit (a ∷ b ∷ c ∷ []) ss 0 ≡ true in
    let Q : List SpreadDim → Type 0 = λ ss. IsTrue (lies_over ss t.grid.sizes 0) in
    let R : List SpreadDim → Type 0 = λ ss. spreads (map (λ s. s.dim.dist) ss) ≡ t.grid.dims in
    let S : List SpreadDim → Type 0 = λ ss. one_if (lies_on (under ss a.target.dim) k) + one_if (lies_on (under ss b.target.dim) k) + one_if (lies_on (under ss c.target.dim) k)
    ≡ one_if (nat_lt k t.grid.dims) in
    subst S (sym e) (one_lies_in a b c s0 s1 s2 t.grid.dims k t.grid.sizes (subst P e h) (grind (arith, nat_tests, subst Q e t.lies)) (subst R e t.covers))
