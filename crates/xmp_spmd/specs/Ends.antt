-- What a world is, by how a run of all nodes came out.
use Rattle.std.specs.Prelude.{◌≡◌, Result, Ok, Err}
use Rattle.xmp_meaning.specs.declared.ends.Flow.{Flow}
use Rattle.xmp_meaning.specs.declared.ends.Halt.{Halt}
use Rattle.xmp_meaning.specs.declared.ends.Halt.TheVariants as halt
use Rattle.xmp_meaning.specs.Runs.{Gave, Ended}
use Rattle.xmp_nodes.specs.Nodes.{Nodes}
use Rattle.xmp_nodes.specs.Worlds.{World, world_after}

abbrev pub IsWorld : Result Flow Halt → Nodes → World → Type 0
IsWorld (Ok flow) nodes w = w ≡ world_after (Gave flow nodes)
IsWorld (Err (halt.End e)) nodes w = w ≡ world_after (Ended e nodes)
IsWorld (Err halt.NoMemory) nodes w = ⊥
