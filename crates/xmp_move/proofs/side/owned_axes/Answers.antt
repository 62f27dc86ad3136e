use Rattle.std.proofs.Common.{◌≡◌, rules, length, subst, sym, ◌∙◌, ap}
use Rattle.xmp_map.specs.RowMajor.{unravel}
use Rattle.xmp_map.specs.Held.{owns_on}
use Rattle.xmp_move.specs.Ends.{HomeFits, IsAxes, owned_tests}
use Rattle.xmp_move.proofs.EndLaws.{spread_axes, whole_axes, whole_tests}
use Rattle.xmp_move.proofs.side.owned_axes.Goals as goal

pub returns-in-Spread : goal.returns-in-Spread
returns-in-Spread c =
    let m = c.in-Spread.map in
    let l : length m.aligned ≡ 3 = search rules in
    let fits = subst (λ h. HomeFits h c.args.extents.now c.args.node) c.in-Spread.is c.requires in
    let all = spread_axes m.aligned (λ l. owns_on m.template.spread (unravel m.template.grid.sizes c.args.node) l) c.args.picks.now _ _ _
    c.owned_axis.result c.owned_axis-in-Spread.result c.owned_axis-in-Spread-2.result l c.told-picks c.owned_axis.ensures c.owned_axis-in-Spread.ensures c.owned_axis-in-Spread-2.ensures in
    rw (c.in-Spread.is, fits.0) all

pub returns-in_default : goal.returns-in_default
returns-in_default c =
    whole_axes (owned_tests c.args.home.now c.args.node) c.args.extents.now c.args.picks.now _ _ _ _ _ _ c.whole.result c.whole-in_default.result c.whole-in_default-2.result
    (whole_tests c.args.home.now c.args.node c.in_default.not-Spread).0 c.told-extents c.told-picks c.whole.ensures c.whole-in_default.ensures c.whole-in_default-2.ensures
