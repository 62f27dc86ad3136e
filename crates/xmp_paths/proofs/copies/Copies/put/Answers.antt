use Rattle.std.proofs.Common.{◌∙◌}
use Rattle.xmp_paths.proofs.TrailLaws.{put_step, returns_then}
use Rattle.xmp_paths.proofs.copies.Copies.put.Goals as goal

pub changes-preserved : goal.changes-preserved
changes-preserved c = record {
  sets = λ object. c.changes.invariant.sets object
      ∙ put_step object c.args.changes.now c.changes.change-index _ c.changes-test.true _ _ (c.in_ok-write.ensures.sets object);
  returns = returns_then _ _ _ _ c.changes.invariant.returns c.in_ok-write.ensures.returns;
}
