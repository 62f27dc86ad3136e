-- What an object that is told of worlds keeps of them (this project): it tells nothing, or has had no world yet, or the
-- last.
use Rattle.std.specs.Prelude.{Option, Some, None}
use Rattle.xmp_nodes.specs.Worlds.{World}

-- what is kept after a world more
abbrev pub noted : Option (Option World) → World → Option (Option World)
noted None world = None
noted (Some before) world = Some (Some world)
