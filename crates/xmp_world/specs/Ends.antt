-- How a run of all nodes ends (this project).
use Rattle.std.specs.Prelude.{Option, Some, None}
use Rattle.xmp_meaning.specs.declared.ends.End as meaning
use Rattle.xmp_meaning.specs.declared.ends.End.TheVariants as early
use Rattle.xmp_world.specs.declared.ended.End.{End}
use Rattle.xmp_world.specs.declared.ended.End.TheVariants.{Ended, Trapped, OutOfSteps}

-- why it ended before its program did, where it did
abbrev pub early_end : End → Option meaning.End
early_end Ended = None
early_end (Trapped kind at) = Some (early.Trapped kind at)
early_end OutOfSteps = Some early.OutOfSteps
