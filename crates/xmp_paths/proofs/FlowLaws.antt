-- The plan of each kind of tree.
use Rattle.std.proofs.Common.{◌≡◌, List, map, ap, sym, ◌∙◌}
use Rattle.xmp_paths.specs.Plans.{Plan, emit, branch, loop, in_order}
use Rattle.xmp_paths.specs.Flows.{plan_of, plan_step}
use Rattle.xmp_paths.specs.declared.event.Event.{Event}
use Rattle.xmp_paths.specs.declared.event.Flow.{Flow, fold-roll-Flow}
use Rattle.xmp_paths.specs.declared.event.Flow.TheVariants as flow
use Rattle.xmp_paths.specs.declared.event.Flow.TheOpen.{Flow-F}

pub plan-emit : (e : Event) → plan_of (flow.Emit e) ≡ emit e
plan-emit e = ap plan_of (sym (flow.rolls-Emit e)) ∙ fold-roll-Flow (Plan Event) plan_step (Flow-F.Emit e)

pub plan-sequence : (parts : List Flow) → plan_of (flow.Sequence parts) ≡ in_order (map plan_of parts)
plan-sequence parts = ap plan_of (sym (flow.rolls-Sequence parts)) ∙ fold-roll-Flow (Plan Event) plan_step (Flow-F.Sequence parts)

pub plan-branch : (left right : Flow) → plan_of (flow.Branch left right) ≡ branch (plan_of left) (plan_of right)
plan-branch left right = ap plan_of (sym (flow.rolls-Branch left right)) ∙ fold-roll-Flow (Plan Event) plan_step (Flow-F.Branch left right)

pub plan-loop : (body : Flow) → plan_of (flow.Loop body) ≡ loop (plan_of body)
plan-loop body = ap plan_of (sym (flow.rolls-Loop body)) ∙ fold-roll-Flow (Plan Event) plan_step (Flow-F.Loop body)
