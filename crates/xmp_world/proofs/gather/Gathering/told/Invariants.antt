use Rattle.std.proofs.Common.{◌≡◌, ◌++◌, ◌-◌, drop, length, map}
use Rattle.std.specs.List.{range_with_len}
use Rattle.xmp_meaning.specs.Programs.{told}
use Rattle.xmp_nodes.specs.Answers.{gathered, gathered_row}
use Rattle.xmp_world.proofs.gather.Gathering.told.Given as goal

abbrev pub invariant-loop-array : goal.invariant-loop-array
invariant-loop-array l =
    told l.self.parts.now l.self.parts.now.arrays (gathered l.self.parts.now l.self.world.now)
    ≡ l.all ++ told l.self.parts.now (drop l.array l.self.parts.now.arrays)
    (map (gathered_row l.self.parts.now l.self.world.now) (range_with_len l.array (length l.self.parts.now.arrays - l.array)))
