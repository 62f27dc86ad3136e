-- What a grid's validity gives.
use Rattle.std.proofs.Common.{◌≡◌, ℕ, ◌*◌, ◌<◌, ◌≤◌, List, [], ◌∷◌, arith, subst, length, get_or, IsTrue}
use Rattle.std.specs.Prelude.{slice_index}
use Rattle.std.proofs.lemmas.Bool.Decides.{nat_tests}
use Rattle.xmp_map.specs.RowMajor.{product}
use Rattle.xmp_map.specs.Nodes.{is_grid}
use Rattle.xmp_map.specs.declared.grid.Grid.{Grid}
use Rattle.xmp_map.proofs.Three.{le_times, three}

pub record Factors (a b c : ℕ) : Type 0 where
  pub one : a ≤ a * b * c
  pub two : b ≤ a * b * c
  pub three : c ≤ a * b * c
  pub pair : a * b ≤ a * b * c

pub factors : (a b c : ℕ) → 0 < a → 0 < b → 0 < c → Factors a b c
factors a b c ha hb hc =
    let ab = le_times a b ha in
    let ba = le_times b a hb in
    let abc = le_times c (a * b) hc in
    let p = positive' a b ha hb in
    let cab = le_times (a * b) c p in
    record { one = omega arith; two = omega arith; three = omega arith; pair = omega arith }
  where
    positive' : (a b : ℕ) → 0 < a → 0 < b → 0 < a * b
    positive' a b ha hb = let k = le_times a b ha in omega arith

-- a product beyond what a test allows
pub big_factor : (a b c : ℕ) → 0 < a → 0 < b → 0 < c → (a ≤ a * b * c) × (b ≤ a * b * c) × (c ≤ a * b * c) × (a * b ≤ a * b * c)
big_factor a b c ha hb hc = let f = factors a b c ha hb hc in (f.one, f.two, f.three, f.pair)

pub ruleset grid_tests = (nat_tests, big_factor)

pub grid_three : (a b c : ℕ) → IsTrue (is_grid (a ∷ b ∷ c ∷ [])) → a * b ≤ 16
unfolding product
grid_three a b c h =
    let f = factors a b c (grind (arith, nat_tests)) (grind (arith, nat_tests)) (grind (arith, nat_tests)) in
    grind (arith, nat_tests)

pub grid_pair : (g : Grid) → length g.sizes ≡ 3 → slice_index g.sizes 0 * slice_index g.sizes 1 ≤ 16
grid_pair g l =
    let P : List ℕ → Type 0 = λ xs. IsTrue (is_grid xs) in
    grid_three (get_or g.sizes 0 0) (get_or g.sizes 1 0) (get_or g.sizes 2 0) (subst P (three g.sizes 0 l) g.valid)

pub grid_small : (g : Grid) → product g.sizes ≤ 4194304
grid_small g =
    let h = g.valid in
    grind (arith, nat_tests)
