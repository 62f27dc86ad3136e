-- Grids, templates and maps with the same fields are the same: each fact that they keep has one proof at most.
use Rattle.std.proofs.Common.{◌≡◌, ◌≤◌, ◌<◌, ◌==◌, map, drop, IsTrue}
use Rattle.std.proofs.Props.{props}
use mathlib.Core.HLevel.{is_prop→PathP}
use Rattle.std.specs.List.{list_all}
use Rattle.std.specs.Prelude.{is_none}
use Rattle.xmp_dist.specs.declared.dimension.Dim.{Dim}
use Rattle.xmp_dist.specs.Valid.{is_dim, is_extent}
use Rattle.xmp_map.specs.declared.array_map.ArrayMap.{ArrayMap}
use Rattle.xmp_map.specs.declared.grid.Grid.{Grid}
use Rattle.xmp_map.specs.declared.spread_dim.SpreadDim.{SpreadDim}
use Rattle.xmp_map.specs.declared.template.Template.{Template}
use Rattle.xmp_map.specs.Align.{is_unused, map_fault}
use Rattle.xmp_map.specs.Nodes.{is_grid}
use Rattle.xmp_map.specs.RowMajor.{product}
use Rattle.xmp_map.specs.Spread.{is_whole, lies_over, spreads}

-- grids of the same sizes are the same
pub same_grid : (a b : Grid) → a.sizes ≡ b.sizes → a.dims ≡ b.dims → a ≡ b
same_grid a b s d = λ i. record {
  sizes = s i;
  dims = d i;
  valid = is_prop→PathP (λ j. IsTrue (is_grid (s j))) (λ j. hlevel props) a.valid b.valid i;
  most = is_prop→PathP (λ j. d j ≤ 3) (λ j. hlevel props) a.most b.most i;
  rest = is_prop→PathP (λ j. IsTrue (list_all (λ n. n == 1) (drop (d j) (s j)))) (λ j. hlevel props) a.rest b.rest i;
}

-- dimensions of the same size, nodes and form are the same
pub same_dim : (a b : Dim) → a.size ≡ b.size → a.nodes ≡ b.nodes → a.dist ≡ b.dist → a ≡ b
same_dim a b s n d = λ i. record {
  size = s i;
  nodes = n i;
  dist = d i;
  valid = is_prop→PathP (λ j. IsTrue (is_dim (s j) (n j) (d j))) (λ j. hlevel props) a.valid b.valid i;
}

-- so are two that lie on the same axis
pub same_spread_dim : (a b : SpreadDim) → a.dim ≡ b.dim → a.axis ≡ b.axis → a ≡ b
same_spread_dim a b d k = λ i. record {
  dim = d i;
  axis = k i;
  small = is_prop→PathP (λ j. k j < 3) (λ j. hlevel props) a.small b.small i;
}

-- templates over one grid with the same dimensions are the same
pub same_template : (a b : Template) → a.grid ≡ b.grid → a.spread ≡ b.spread → a.dims ≡ b.dims → a ≡ b
same_template a b g s d = λ i. record {
  grid = g i;
  spread = s i;
  dims = d i;
  most = is_prop→PathP (λ j. d j ≤ 3) (λ j. hlevel props) a.most b.most i;
  rest = is_prop→PathP (λ j. IsTrue (list_all (λ x. is_whole x.dim.dist) (drop (d j) (s j)))) (λ j. hlevel props) a.rest b.rest i;
  lies = is_prop→PathP (λ j. IsTrue (lies_over (s j) (g j).sizes 0)) (λ j. hlevel props) a.lies b.lies i;
  covers = is_prop→PathP (λ j. spreads (map (λ x. x.dim.dist) (s j)) ≡ (g j).dims) (λ j. hlevel props) a.covers b.covers i;
}

-- maps over one template with the same dimensions are the same
pub same_map : (a b : ArrayMap) → a.template ≡ b.template → a.aligned ≡ b.aligned → a.dims ≡ b.dims → a ≡ b
same_map a b t l d = λ i. record {
  template = t i;
  aligned = l i;
  dims = d i;
  most = is_prop→PathP (λ j. d j ≤ 3) (λ j. hlevel props) a.most b.most i;
  rest = is_prop→PathP (λ j. IsTrue (list_all is_unused (drop (d j) (l j)))) (λ j. hlevel props) a.rest b.rest i;
  fits = is_prop→PathP (λ j. IsTrue (is_none (map_fault (t j).dims (t j).spread (l j)))) (λ j. hlevel props) a.fits b.fits i;
  extents = is_prop→PathP (λ j. IsTrue (list_all (λ x. is_extent x.extent) (l j))) (λ j. hlevel props) a.extents b.extents i;
  small = is_prop→PathP (λ j. product (map (λ x. x.extent) (l j)) ≤ 4194304) (λ j. hlevel props) a.small b.small i;
}
