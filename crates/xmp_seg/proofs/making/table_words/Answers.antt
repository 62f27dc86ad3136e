use Rattle.std.proofs.Common.{◌≡◌, ◌∷◌, ◌++◌, [], ◌+◌, ◌∙◌, ℕ, ℤ, List, ap, map, take}
use Rattle.xmp_seg.specs.Rule.{bits}
use Rattle.xmp_seg.proofs.Closing.{bits_grow, range_grows}
use Rattle.xmp_seg.proofs.making.table_words.Goals as goal

pub loop-e-preserved : goal.loop-e-preserved
loop-e-preserved c = record {
  items = c.in_ok-add_word-2.ensures ∙ bits_grow c.args.start.now c.loop-e.e c.loop-e-test.true _ _ c.loop-e.invariant.items c.bits_at.ensures.bits;
  range = range_grows c.args.start.now c.loop-e.e c.loop-e-test.true c.loop-e.invariant.range c.bits_at.ensures.range;
}
