use Rattle.std.proofs.Common.{◌≡◌, ◌≤◌, length, rules, ap, ◌∙◌, arith, get_or}
use Rattle.xmp_map.specs.RowMajor.{unravel}
use Rattle.xmp_map.proofs.MapLaws.{counts_at}
use Rattle.xmp_map.proofs.array_map.ArrayMap.held.Goals as goal

pub returns : goal.returns
returns c =
    let m = c.args.self.now in
    let l : length m.aligned ≡ 3 = search rules in
    let k : m.dims ≤ 3 = m.most in
    ap (λ xs. get_or xs c.args.d 0) c.sides.ensures.sides ∙ counts_at m.template.spread (unravel m.template.grid.sizes c.args.node) m.aligned c.args.d (omega (arith, c.requires.dimension))
