use Rattle.std.proofs.Common.{List, ℕ}
use Rattle.std.proofs.lemmas.Result.{IfOk-weaker}
use Rattle.xmp_prog.specs.declared.parts.ProgParts.{ProgParts}
use Rattle.xmp_meaning.specs.declared.ends.Flow.{Flow}
use Rattle.xmp_meaning.specs.declared.ends.Flow.TheVariants.{Next}
use Rattle.xmp_meaning.specs.Blocks.{then_run}
use Rattle.xmp_meaning.specs.Handlers.{erased}
use Rattle.xmp_meaning.specs.Programs.{starts}
use Rattle.xmp_meaning.specs.Runs.{RunIn}
use Rattle.xmp_meaning.specs.Traffic.{node_context}
use Rattle.xmp_nodes.specs.Nodes.{Nodes, all_do, nodes_beginning}
use Rattle.xmp_spmd.specs.Steps.{all_of}
use Rattle.xmp_spmd.proofs.Worlds.{ended_world}
use Rattle.xmp_spmd.proofs.run.run_parts.Goals as goal

pub returns : goal.returns
returns c =
    let p : ProgParts = c.args.program.now in
    let i : List ℕ = c.args.input.now in
    let f : RunIn Nodes Flow = then_run (all_do Next (λ node. starts erased (node_context p node i) p.start)) (all_of p i p.body) in
    IfOk-weaker c.world_of.result _ _ (λ w is. ended_world f c.in_ok-nodes.nodes (nodes_beginning p c.args.steps) c.run-ended.result c.run-ended.new.nodes w c.in_ok-nodes.ensures c.run-ended.ensures is) c.world_of.ensures
