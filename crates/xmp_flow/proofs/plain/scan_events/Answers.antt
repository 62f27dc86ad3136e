use Rattle.std.proofs.Common.{◌≡◌, ◌∙◌, ap, sym, subst, IfOk, ◌++◌, ◌∷◌, [], ◌||◌, not, is_some}
use Rattle.xmp_paths.specs.Plans.{Plan, in_order}
use Rattle.xmp_paths.specs.Flows.{plan_of}
use Rattle.xmp_paths.specs.declared.event.Event.{Event}
use Rattle.xmp_flow.specs.Setting.{is_first_alone, wrong_where}
use Rattle.xmp_flow.specs.Reads.{reads_of_all}
use Rattle.xmp_flow.specs.Elements.{element_write}
use Rattle.xmp_flow.specs.PlainEvents.{plain_events}
use Rattle.xmp_flow.specs.Views.{setting_of}
use Rattle.xmp_prog.specs.declared.statements.Plain.TheVariants as Plain
use Rattle.xmp_flow.proofs.ReadLaws.{subscript-reads}
use Rattle.xmp_flow.proofs.plain.scan_events.Goals as goal

pub returns-in-Cell : goal.returns-in-Cell
returns-in-Cell c =
    let s = setting_of c.args.s.now in
    let wrong = wrong_where (is_some s.over || not (is_first_alone s)) 8 c.args.at in
    subst (λ (p : Plan Event). IfOk c.element_scanned.result (λ flow. plan_of flow ≡ p))
    (ap (λ w. in_order ((reads_of_all c.in-Cell.a.subscripts s ++ element_write s c.in-Cell.a.array c.in-Cell.a.subscripts c.in-Cell.a.at ∷ []) ++ w ∷ []))
    c.scan_wrong-wrong.ensures
    ∙ sym (ap (λ t. plain_events (Plain.Scan t c.args.at) s) c.in-Cell.is
    ∙ ap (λ l. in_order ((l ++ element_write s c.in-Cell.a.array c.in-Cell.a.subscripts c.in-Cell.a.at ∷ []) ++ wrong ∷ [])) (subscript-reads c.in-Cell.a s)))
    c.element_scanned.ensures
