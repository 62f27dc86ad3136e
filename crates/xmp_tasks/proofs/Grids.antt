-- Sizes and subscripts of a grid.
use Rattle.std.proofs.Math.Nat.{mul-le-mul}
use Rattle.std.proofs.Common.{◌≡◌, ℕ, ◌*◌, ◌^◌, ◌+◌, ◌<◌, ◌≤◌, List, [], ◌∷◌, arith, subst, ap₂, length, get_or, IsTrue}
use Rattle.std.proofs.lemmas.Bool.Decides.{nat_tests}
use Rattle.xmp_map.specs.RowMajor.{product}
use Rattle.xmp_map.specs.Nodes.{is_grid, in_box}
use Rattle.xmp_map.proofs.Three.{three}
use Rattle.xmp_map.proofs.GridLaws.{factors}

-- What the sizes of a grid are.
pub record Sizes (b c : ℕ) : Type 0 where
  pub rows : b ≤ 16
  pub columns : c ≤ 16
  pub some_rows : 0 < b
  pub some_columns : 0 < c

three_sizes : (a b c : ℕ) → IsTrue (is_grid (a ∷ b ∷ c ∷ [])) → Sizes b c
unfolding product
three_sizes a b c h =
    let f = factors a b c (grind (arith, nat_tests)) (grind (arith, nat_tests)) (grind (arith, nat_tests)) in
    record { rows = grind (arith, nat_tests); columns = grind (arith, nat_tests); some_rows = grind (arith, nat_tests); some_columns = grind (arith, nat_tests) }

pub sizes_of : (s : List ℕ) → length s ≡ 3 → IsTrue (is_grid s) → Sizes (get_or s 1 0) (get_or s 2 0)
sizes_of s l h = three_sizes (get_or s 0 0) (get_or s 1 0) (get_or s 2 0) (subst (λ xs. IsTrue (is_grid xs)) (three s 0 l) h)

pub box_of : (first many : List ℕ) (x y z : ℕ) → length first ≡ 3 → length many ≡ 3
    → in_box first many (x ∷ y ∷ z ∷ []) ≡ in_box (get_or first 0 0 ∷ get_or first 1 0 ∷ get_or first 2 0 ∷ []) (get_or many 0 0 ∷ get_or many 1 0 ∷ get_or many 2 0 ∷ []) (x ∷ y ∷ z ∷ [])
box_of first many x y z l k = ap₂ (λ f m. in_box f m (x ∷ y ∷ z ∷ [])) (three first 0 l) (three many 0 k)

pub leader_small : (x y z b c : ℕ) → x < 2 ^ 32 → y < 2 ^ 32 → z < 2 ^ 32 → Sizes b c → (x * b + y) * c + z ≤ 2 ^ 50
leader_small x y z b c hx hy hz s =
    let xs : x ≤ 2 ^ 32 = omega arith in
    let xb : x * b ≤ 2 ^ 32 * 16 = mul-le-mul xs s.rows in
    let ys : x * b + y ≤ 2 ^ 32 * 17 = omega arith in
    let all : (x * b + y) * c ≤ (2 ^ 32 * 17) * 16 = mul-le-mul ys s.columns in
    omega arith
