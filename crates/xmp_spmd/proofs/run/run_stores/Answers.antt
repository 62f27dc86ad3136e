use Rattle.std.proofs.Common.{ap, sym, subst, ◌∙◌}
use Rattle.std.proofs.lemmas.Result.{IfOk-weaker}
use Rattle.xmp_prog.specs.declared.parts.ProgParts.{ProgParts}
use Rattle.xmp_prog.specs.Fits.{PartsFit}
use Rattle.xmp_nodes.specs.Lists.{HasAxes}
use Rattle.xmp_nodes.specs.Lockstep.{nodes_end}
use Rattle.xmp_nodes.specs.Stands.{StandsFor}
use Rattle.xmp_nodes.specs.Worlds.{World, world_after}
use Rattle.xmp_spmd.proofs.run.run_stores.Goals as goal

pub returns-clause-found : goal.returns-clause-found
returns-clause-found c =
    IfOk-weaker c.run_parts.result _ _ (λ w is. is ∙ ap (λ (q : ProgParts). world_after (nodes_end q c.args.input.now c.args.steps)) c.parts-2.ensures.parts) c.run_parts.ensures

pub returns-clause-stands : goal.returns-clause-stands
returns-clause-stands c =
    IfOk-weaker c.run_parts.result _ _
    (λ w is. subst (λ (x : World). StandsFor c.args.p.now c.args.input.now c.args.steps x)
    (sym (is ∙ ap (λ (q : ProgParts). world_after (nodes_end q c.args.input.now c.args.steps)) c.parts-2.ensures.parts))
    (c.nodes_carry_out.ensures c.args.p.now c.args.input.now c.args.steps (subst PartsFit c.parts.ensures.parts c.parts.ensures.fit) c.requires.kind
    (subst HasAxes c.parts.ensures.parts c.has_axes.ensures) c.requires.unbroken))
    c.run_parts.ensures
