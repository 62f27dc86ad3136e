use Rattle.std.proofs.Common.{◌≡◌, map}
use Rattle.std.specs.List.{range_with_len}
use Rattle.xmp_world.specs.Gathering.{cell_word, kept_before}
use Rattle.xmp_world.proofs.gather.Gathering.row.Given as goal

abbrev pub invariant-loop-n : goal.invariant-loop-n
invariant-loop-n l =
    (l.row.items ≡ map (cell_word l.self.parts.now l.self.world.now l.array) (range_with_len 0 l.n))
    × (l.last.kept ≡ kept_before l.map l.last.node l.n)
