-- The world of a run.
use Rattle.std.proofs.Common.{◌≡◌, ap, sym, ◌∙◌, Result, Ok, Err}
use Rattle.xmp_meaning.specs.declared.ends.Flow.{Flow}
use Rattle.xmp_meaning.specs.declared.ends.Halt.{Halt}
use Rattle.xmp_meaning.specs.declared.ends.Halt.TheVariants as halt
use Rattle.xmp_meaning.specs.Runs.{RunIn, Does}
use Rattle.xmp_nodes.specs.Nodes.{Nodes}
use Rattle.xmp_nodes.specs.Worlds.{World, world_after}
use Rattle.xmp_spmd.specs.Ends.{IsWorld}

-- a world by how the run came out is the world after it
pub ended_world : (f : RunIn Nodes Flow) (old first : Nodes) (r : Result Flow Halt) (new : Nodes) (w : World)
    → old ≡ first → Does (f old) r new → IsWorld r new w → w ≡ world_after (f first)
ended_world f old first (Ok flow) new w same did is = is ∙ ap world_after (sym did) ∙ ap (λ n. world_after (f n)) same
ended_world f old first (Err (halt.End e)) new w same did is = is ∙ ap world_after (sym did) ∙ ap (λ n. world_after (f n)) same
ended_world f old first (Err halt.NoMemory) new w same did is = absurd is
