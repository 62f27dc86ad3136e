use Rattle.std.proofs.Common.{◌≡◌, length}
use Rattle.std.specs.Mem.Slots.{slots_items}
use Rattle.xmp_seg.specs.Rule.{value_behind}
use Rattle.xmp_seg.specs.Seats.{AreWords}
use Rattle.xmp_seg.proofs.making.data_words.Given as goal

-- the words so far have their values
abbrev pub invariant-loop-e : goal.invariant-loop-e
invariant-loop-e l = (length l.words ≡ l.e) × AreWords l.words (value_behind (slots_items l.closed.words))
