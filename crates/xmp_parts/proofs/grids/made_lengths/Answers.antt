use Rattle.std.proofs.Common.{◌≡◌, ◌∙◌, ap, arith, rules, get_or, pos}
use Rattle.std.proofs.lemmas.Int.{ints}
use Rattle.xmp_names.specs.Sizes.{natural}
use Rattle.xmp_parts.proofs.MadeLists.{set_made}
use Rattle.xmp_parts.proofs.grids.made_lengths.Goals as goal
use mir.Syntax.{w64}
use mir.Val.{SFits, of_z, to_z}

pub list-preserved : goal.list-preserved
list-preserved c =
    let f : SFits w64 (get_or c.args.list.now c.list.i (pos 0)) = search rules in
    let e : to_z w64 (of_z w64 (get_or c.args.list.now c.list.i (pos 0))) ≡ get_or c.args.list.now c.list.i (pos 0) = omega (arith, ints) in
    set_made 16 natural c.args.list.now c.list.values c.list.i c.narrowed.result (pos 0) c.list-test.true c.requires.few c.list.invariant (c.narrowed.ensures ∙ ap natural e)
