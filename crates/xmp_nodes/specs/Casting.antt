-- A bcast of scalars: each node takes the values that the source has (XcalableMP 1.4, bcast construct).
use Rattle.std.specs.Prelude.{List, ℤ}
use Rattle.xmp_map.specs.declared.grid.NodeSet.{NodeSet}
use Rattle.xmp_prog.specs.declared.parts.ProgParts.{ProgParts}
use Rattle.xmp_prog.specs.declared.statements.Name.{Name}
use Rattle.xmp_prog.specs.Statements.{slots_of_names}
use Rattle.xmp_meaning.specs.declared.ends.Flow.{Flow}
use Rattle.xmp_meaning.specs.declared.ends.Flow.TheVariants.{Next}
use Rattle.xmp_meaning.specs.Runs.{RunIn}
use Rattle.xmp_meaning.specs.Blocks.{then_run}
use Rattle.xmp_meaning.specs.Exchanges.{Broadcast, values_of}
use Rattle.xmp_meaning.specs.LoopEnds.{set_all}
use Rattle.xmp_meaning.specs.TaskEnds.{leader}
use Rattle.xmp_meaning.specs.Messages.{message}
use Rattle.xmp_meaning.specs.Traffic.{node_beginning}
use Rattle.xmp_nodes.specs.Nodes.{Nodes, store_at, all_do, say}

-- the values of the variables at the source
abbrev pub cast_values : ProgParts → List Name → NodeSet → Nodes → List ℤ
cast_values p variables set w = values_of (store_at (node_beginning p 0 0) w (leader p set)) (slots_of_names variables)

-- the source says them, and every node takes them
abbrev pub cast_all : ProgParts → List Name → NodeSet → RunIn Nodes Flow
cast_all p variables set = λ w.
    then_run (say (λ x from to. message p (Broadcast variables set (cast_values p variables set w)) from to))
    (all_do Next (λ node. set_all variables (cast_values p variables set w))) w
