use Rattle.std.proofs.Common.{◌≤◌, ◌∙◌, sym, length}
use Rattle.std.proofs.lemmas.Bool.{ltb-false}
use Rattle.xmp_directives.proofs.NodeRanges.{right_past}
use Rattle.xmp_directives.proofs.directives.ranges_right.Goals as goal

pub returns-in_default : goal.returns-in_default
returns-in_default c =
    let h = c.in_default.ensures.lookup.0 in
    let le : length c.args.ranges.now ≤ c.sizes.i = ltb-false _ _ (sym h) in
    sym (c.sizes.invariant ∙ right_past c.args.sizes.now c.args.ranges.now c.sizes.i le)
