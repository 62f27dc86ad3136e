use Rattle.std.proofs.Common.{ℕ, List, ap, ◌∙◌}
use Rattle.std.specs.Prelude.{slice_get, unwrap_or}
use Rattle.xmp_prog.specs.declared.statements.Reduction.{Reduction}
use Rattle.xmp_meaning.specs.declared.ends.Flow.{Flow}
use Rattle.xmp_meaning.specs.Handlers.{erased}
use Rattle.xmp_meaning.specs.Runs.{Run}
use Rattle.xmp_meaning.specs.Exchanges.{PartEnd, LoopEnd}
use Rattle.xmp_meaning.specs.LoopEnds.{all_joined, no_turn}
use Rattle.xmp_meaning.specs.Messages.{message}
use Rattle.xmp_meaning.specs.Statements.{stmt_of}
use Rattle.xmp_meaning.specs.Traffic.{node_context}
use Rattle.xmp_nodes.specs.Nodes.{raised_by, saying}
use Rattle.xmp_own_parts.proofs.Whole.{looped}
use Rattle.xmp_own_parts.proofs.loops.run_parts.Goals as goal

pub returns : goal.returns
returns c =
    let p : _ = c.args.together.now.program.now in
    let d : _ = c.args.directive.now in
    let body : ℕ → Run (Unit {0}) Flow = λ node. stmt_of erased (node_context c.args.together.now.program.now node c.args.together.now.input.now) c.args.body.now in
    looped p d body c.args.nodes.now c.each_does.new.nodes c.each_does-2.new.nodes c.raise_turns.new.nodes c.say.new.nodes c.in-Ok.turns.items c.in-Ok-each_does.ends.items
    c.as_slice-reductions.result.now c.in-Ok-all_joined.end c.all_do.result c.all_do.new.nodes
    ((c.in-Ok.ensures {u = tt}).gives)
    ((c.in-Ok.ensures {u = tt}).leaves)
    ((c.in-Ok-each_does.ensures {u = tt}).gives)
    ((c.in-Ok-each_does.ensures {u = tt}).leaves)
    (c.raise_turns.ensures ∙ ap (λ (ts : List ℕ). record c.each_does-2.new.nodes { turns = raised_by (λ node. unwrap_or (slice_get ts node) 0) 0 c.each_does-2.new.nodes.turns }) c.deref.ensures.value)
    (c.say.ensures ∙ ap (λ (es : List PartEnd). saying (λ from to. message c.args.together.now.program.now (LoopEnd c.args.directive.now es) from to) c.raise_turns.new.nodes) c.deref-2.ensures.value)
    c.as_slice-reductions.ensures
    (c.in-Ok-all_joined.ensures {u = tt}
    ∙ ap (λ (rs : List Reduction). all_joined c.args.together.now.program.now rs (no_turn c.args.together.now.program.now rs) c.in-Ok-each_does.ends.items) c.as_slice-reductions.ensures)
    c.all_do.ensures
