use Rattle.indexmap.proofs.MapLemmas.{OnOk-map}
use Rattle.xmp_spots.proofs.SummaryLaws.{absorbed_where}
use Rattle.xmp_spots.proofs.summary.absorb_where.Goals as goal

pub returns-then-test : goal.returns-then-test
returns-then-test c =
    OnOk-map c.absorb.result _ _ (absorbed_where c.args.set.now c.args.more c.absorb.new.self c.args.test c.if-test.true) c.absorb.ensures.ok
