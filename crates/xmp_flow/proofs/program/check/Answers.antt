use Rattle.std.proofs.Common.{◌∙◌, ap, subst, IfOk}
use Rattle.xmp_base.specs.First.{IsFirst}
use Rattle.xmp_base.specs.declared.refusal.Phase.TheVariants as phase
use Rattle.xmp_paths.specs.Plans.{Plan}
use Rattle.xmp_paths.specs.Rules.{Breaks, in_phase}
use Rattle.xmp_paths.specs.declared.event.Event.{Event}
use Rattle.xmp_flow.specs.Program.{plan_of_program}
use Rattle.xmp_flow.proofs.program.check.Goals as goal

pub returns-in-Ok : goal.returns-in-Ok
returns-in-Ok c =
    subst (λ (q : Plan Event). IfOk c.check.result (λ found. IsFirst (in_phase phase.Flow (Breaks q)) found))
    (c.in-Ok.ensures ∙ ap plan_of_program c.parts.ensures.parts) c.check.ensures
