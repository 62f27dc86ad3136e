-- Grids of the same sizes are the same: each fact that they keep has one proof at most.
use Rattle.std.proofs.Common.{◌≡◌, ◌≤◌, ◌==◌, ◌&&◌, Bool, true, false, drop, refl, IsTrue}
use Rattle.std.proofs.Props.{props}
use mathlib.Core.HLevel.{is_prop→PathP}
use Rattle.std.specs.List.{list_all}
use Rattle.std.specs.Cmp.Lexicographic.{pointwise}
use Rattle.std.proofs.Math.Dec.{eqb}
use Rattle.std.proofs.lemmas.Bool.{eqb-true}
use Rattle.std.proofs.lemmas.Bool.Decides.{Decides-eqb}
use Rattle.std.proofs.lemmas.Slice.Eq.{slice_eq-Decides}
use Rattle.xmp_map.specs.declared.grid.Grid.{Grid}
use Rattle.xmp_map.specs.Nodes.{is_grid}

same_fields : (a b : Grid) → a.sizes ≡ b.sizes → a.dims ≡ b.dims → a ≡ b
same_fields a b s d = λ i. record {
  sizes = s i;
  dims = d i;
  valid = is_prop→PathP (λ j. IsTrue (is_grid (s j))) (λ j. hlevel props) a.valid b.valid i;
  most = is_prop→PathP (λ j. d j ≤ 3) (λ j. hlevel props) a.most b.most i;
  rest = is_prop→PathP (λ j. IsTrue (list_all (λ n. n == 1) (drop (d j) (s j)))) (λ j. hlevel props) a.rest b.rest i;
}

both_true : (a b : Bool) → (a && b) ≡ true → (a ≡ true) × (b ≡ true)
both_true true b e = (refl, e)
both_true false b e = cc

-- where the test of the code holds
pub same_grids : (a b : Grid) → (pointwise eqb a.sizes b.sizes && eqb a.dims b.dims) ≡ true → a ≡ b
same_grids a b e =
    let t = both_true (pointwise eqb a.sizes b.sizes) (eqb a.dims b.dims) e in
    same_fields a b ((slice_eq-Decides Decides-eqb a.sizes b.sizes (pointwise eqb a.sizes b.sizes) refl).0 t.0) (eqb-true a.dims b.dims t.1)
