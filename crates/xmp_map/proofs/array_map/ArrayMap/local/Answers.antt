use Rattle.std.proofs.Common.{◌≡◌, ◌≤◌, length, rules, arith, get_or}
use Rattle.xmp_map.specs.RowMajor.{unravel}
use Rattle.xmp_map.proofs.MapLaws.{blank, position_is}
use Rattle.std.proofs.lemmas.Option.{slice_get-get_or}
use Rattle.xmp_map.proofs.array_map.ArrayMap.local.Goals as goal

pub returns-clause-position : goal.returns-clause-position
returns-clause-position c =
    let m = c.args.self.now in
    let l : length m.aligned ≡ 3 = search rules in
    let k : m.dims ≤ 3 = m.most in
    let g = slice_get-get_or m.aligned c.args.d blank (omega (arith, c.requires.dimension)) in
    position_is m.template.spread c.grid_place.result (unravel m.template.grid.sizes c.args.node) m.aligned c.args.d c.args.x (get_or m.aligned c.args.d blank) c.local.result c.grid_place.ensures.place g c.local.ensures
