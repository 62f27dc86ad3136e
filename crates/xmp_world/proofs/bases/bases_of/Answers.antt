use Rattle.std.proofs.Common.{◌≡◌, ◌+◌, ◌++◌, ◌∷◌, [], ap, ◌∙◌, rules}
use Rattle.xmp_world.specs.Gathering.{array_base}
use Rattle.xmp_world.proofs.ReportLaws.{read_there}
use Rattle.xmp_world.proofs.GatherLaws.{listed_more, base_more}
use Rattle.xmp_world.proofs.bases.bases_of.Goals as goal

pub arrays-preserved : goal.arrays-preserved
arrays-preserved c =
    let pushed : c.push.new.self ≡ c.arrays.bases ++ c.arrays.next ∷ [] = search rules in
    let item = read_there c.as_slice-arrays.result.now c.args.p.now.arrays c.arrays.a-index c.a-item.result c.as_slice-arrays.ensures c.arrays-test.true c.a-item.is in
    let sum : c.in-Some-checked_add.behind ≡ c.arrays.next + c.in-Some.words = c.in-Some-checked_add.ensures.1 in (
      listed_more (array_base c.args.p.now c.args.node) c.arrays.a-index c.arrays.next c.arrays.bases c.push.new.self c.arrays.invariant.0 c.arrays.invariant.1 pushed,
      sum ∙ (ap (λ n. n + c.in-Some.words) c.arrays.invariant.1 ∙ base_more c.args.p.now c.args.node c.arrays.a-index c.in-Some.words c.a-item.result item c.in-Some.ensures),
    )
