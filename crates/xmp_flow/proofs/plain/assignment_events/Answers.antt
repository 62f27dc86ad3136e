use Rattle.std.proofs.Common.{◌≡◌, ◌∙◌, ap, sym, subst, IfOk, ◌++◌, ◌∷◌, []}
use Rattle.xmp_paths.specs.Plans.{Plan, in_order}
use Rattle.xmp_paths.specs.Flows.{plan_of}
use Rattle.xmp_paths.specs.declared.event.Event.{Event}
use Rattle.xmp_flow.specs.Reads.{reads_of}
use Rattle.xmp_flow.specs.Elements.{element_write}
use Rattle.xmp_flow.specs.PlainEvents.{assignment_events, old_element}
use Rattle.xmp_flow.specs.Views.{setting_of}
use Rattle.xmp_flow.proofs.ReadLaws.{subscript-reads}
use Rattle.xmp_flow.proofs.plain.assignment_events.Goals as goal

pub returns-in-Cell : goal.returns-in-Cell
returns-in-Cell c =
    let s = setting_of c.args.s.now in
    subst (λ (p : Plan Event). IfOk c.element_events.result (λ flow. plan_of flow ≡ p))
    (sym (ap (λ t. assignment_events s c.args.compound c.args.value.now t) c.in-Cell.is
    ∙ ap (λ l. in_order (l ++ old_element s c.in-Cell.a c.args.compound ∷ reads_of c.args.value.now s
    ∷ element_write s c.in-Cell.a.array c.in-Cell.a.subscripts c.in-Cell.a.at ∷ [])) (subscript-reads c.in-Cell.a s)))
    c.element_events.ensures
