-- The sizes of a grid.
use Rattle.std.proofs.Common.{◌≡◌, ℕ, ◌*◌, ◌<◌, ◌≤◌, List, [], ◌∷◌, arith, subst, length, get_or, IsTrue}
use Rattle.std.proofs.lemmas.Bool.Decides.{nat_tests}
use Rattle.xmp_map.specs.RowMajor.{product}
use Rattle.xmp_map.specs.Nodes.{is_grid}
use Rattle.xmp_map.specs.declared.grid.Grid.{Grid}
use Rattle.xmp_map.proofs.Three.{le_times, three}

-- rows and columns of a grid
pub record RowsFit (b c : ℕ) : Type 0 where
  pub columns : 0 < c
  pub rows : 0 < b * c
  pub fit : b * c ≤ 16

rows_of : (a b c : ℕ) → IsTrue (is_grid (a ∷ b ∷ c ∷ [])) → RowsFit b c
unfolding product
rows_of a b c h =
    let ha : 0 < a = grind (arith, nat_tests) in
    let hb : 0 < b = grind (arith, nat_tests) in
    let hc : 0 < c = grind (arith, nat_tests) in
    let all : a * (b * (c * 1)) ≤ 16 = grind (arith, nat_tests) in
    let e : b * (c * 1) ≡ b * c = omega arith in
    let k = le_times a (b * (c * 1)) ha in
    let m = le_times b c hb in
    record { columns = hc; rows = omega arith; fit = omega arith }

pub rows_fit : (g : Grid) → length g.sizes ≡ 3 → RowsFit (get_or g.sizes 1 0) (get_or g.sizes 2 0)
rows_fit g l =
    let P : List ℕ → Type 0 = λ xs. IsTrue (is_grid xs) in
    rows_of (get_or g.sizes 0 0) (get_or g.sizes 1 0) (get_or g.sizes 2 0) (subst P (three g.sizes 0 l) g.valid)
