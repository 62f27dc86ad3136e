use Rattle.std.proofs.Common.{◌≡◌, ◌∙◌, ap, sym, subst, IfOk, ◌++◌, ◌∷◌, [], ◌&&◌}
use Rattle.xmp_paths.specs.Plans.{Plan, in_order}
use Rattle.xmp_paths.specs.Flows.{plan_of}
use Rattle.xmp_paths.specs.declared.event.Event.{Event}
use Rattle.xmp_flow.specs.Setting.{wrong_where}
use Rattle.xmp_flow.specs.Reads.{reads_of, reads_of_all}
use Rattle.xmp_flow.specs.Views.{setting_of}
use Rattle.xmp_flow.proofs.ReadLaws.{reads-cell, reads-call}
use Rattle.xmp_flow.proofs.expressions.+reads.Goals as goal

pub reads-returns-in-Cell : goal.reads-returns-in-Cell
reads-returns-in-Cell t c =
    subst (λ (p : Plan Event). IfOk c.reads_of_cell.result (λ flow. plan_of flow ≡ p))
    (sym (ap (λ e. reads_of e (setting_of c.args.s.now)) c.in-Cell.is ∙ reads-cell c.in-Cell.access (setting_of c.args.s.now)))
    c.reads_of_cell.ensures

pub reads-returns-in-Call : goal.reads-returns-in-Call
reads-returns-in-Call t c =
    subst (λ (p : Plan Event). IfOk c.reads_of_call.result (λ flow. plan_of flow ≡ p))
    (ap (λ l. in_order (reads_of_all l (setting_of c.args.s.now)
    ++ wrong_where ((setting_of c.args.s.now).inside && (setting_of c.args.s.now).loops c.in-Call.function) 9 c.in-Call.at ∷ [])) c.as_slice.ensures
    ∙ sym (ap (λ x. reads_of x (setting_of c.args.s.now)) c.in-Call.is
    ∙ reads-call c.in-Call.function c.in-Call.arguments c.in-Call.at (setting_of c.args.s.now)))
    c.reads_of_call.ensures
