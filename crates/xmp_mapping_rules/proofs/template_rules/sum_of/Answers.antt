use Rattle.std.proofs.Common.{◌≡◌, ◌∙◌, ap, arith, rules, get_or, pos}
use Rattle.std.proofs.lemmas.Int.{ints}
use Rattle.xmp_names.specs.Sizes.{natural}
use Rattle.xmp_mapping_rules.proofs.Limits.{sum_step, sum_end}
use Rattle.xmp_mapping_rules.proofs.template_rules.sum_of.Goals as goal
use mir.Syntax.{w64}
use mir.Val.{SFits, of_z, to_z}

pub lengths-preserved : goal.lengths-preserved
lengths-preserved c =
    let f : SFits w64 (get_or c.args.lengths.now c.lengths.n-index (pos 0)) = search rules in
    let e : to_z w64 (of_z w64 (get_or c.args.lengths.now c.lengths.n-index (pos 0))) ≡ get_or c.args.lengths.now c.lengths.n-index (pos 0) = omega (arith, ints) in (
      omega arith,
      sum_step c.args.lengths.now c.lengths.n-index c.lengths.total c.natural.result c.saturating_add-total.result _ 18446744073709551615 c.lengths-test.true
          (c.natural.ensures ∙ ap natural e) c.saturating_add-total.ensures c.lengths.invariant.1,
    )

pub returns : goal.returns
returns c = sum_end c.args.lengths.now c.lengths.n-index c.lengths.total 18446744073709551615 c.lengths-test.false c.lengths.invariant.0 c.lengths.invariant.1
