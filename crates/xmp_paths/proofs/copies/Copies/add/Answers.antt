use Rattle.std.proofs.Common.{◌∙◌}
use Rattle.xmp_paths.proofs.TrailLaws.{add_step, returns_then}
use Rattle.xmp_paths.proofs.copies.Copies.add.Goals as goal

pub changes-preserved : goal.changes-preserved
changes-preserved c = record {
  sets = λ object. c.changes.invariant.sets object
      ∙ add_step c.changes.self object c.args.changes.now c.changes.change-index _ c.changes-test.true _ _
      c.get-nodes.ensures (c.in_ok-write.ensures.sets object);
  returns = returns_then _ _ _ _ c.changes.invariant.returns c.in_ok-write.ensures.returns;
}
