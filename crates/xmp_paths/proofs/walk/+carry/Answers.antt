use Rattle.std.proofs.Common.{◌≡◌, ◌∙◌, ap, sym, subst, OnOk}
use Rattle.xmp_paths.specs.Plans.{Plan, branch, loop}
use Rattle.xmp_paths.specs.Flows.{plan_of}
use Rattle.xmp_paths.specs.Copies.{CarriesOver}
use Rattle.xmp_paths.proofs.FlowLaws.{plan-branch, plan-loop}
use Rattle.xmp_paths.proofs.CarryLaws.{branch_end, carries_more}
use Rattle.xmp_paths.proofs.TrailLaws.{returns_then}
use Rattle.xmp_paths.specs.declared.event.Event.{Event}
use Rattle.xmp_paths.proofs.walk.+carry.Goals as goal

pub carry-returns-in_ok-join-in-Branch-clause-carries : goal.carry-returns-in_ok-join-in-Branch-clause-carries
carry-returns-in_ok-join-in-Branch-clause-carries t c =
    let e : plan_of c.args.flow.now ≡ branch (plan_of c.get.result.now) (plan_of c.get-in-Branch.result.now) =
    ap plan_of c.in-Branch.is
    ∙ (plan-branch c.in-Branch.left c.in-Branch.right
    ∙ (ap (λ f. branch (plan_of f) (plan_of c.in-Branch.right)) (sym c.get.ensures)
    ∙ ap (λ f. branch (plan_of c.get.result.now) (plan_of f)) (sym c.get-in-Branch.ensures))) in
    subst (λ (p : Plan Event). CarriesOver p c.args.copies.now c.join.new.self) (sym e)
    (branch_end (plan_of c.get.result.now) (plan_of c.get-in-Branch.result.now) c.reached-start.result
    c.args.copies.now c.carry.new.copies c.go_back.new.self c.carry-in-Branch.new.copies c.join.new.self c.in_ok-changes-in-Branch.changes
    c.reached-start.ensures c.in_ok-carry-in-Branch.ensures.carries c.in_ok-carry-in-Branch.ensures.returns
    c.in_ok-changes-in-Branch.ensures.changes c.in_ok-changes-in-Branch.ensures.sets c.in_ok-changes-in-Branch.ensures.trail
    c.in_ok-carry-in-Branch-2.ensures.carries c.in_ok-carry-in-Branch-2.ensures.returns c.in_ok-join-in-Branch.ensures.sets)

pub carry-returns-in-Loop-clause-carries : goal.carry-returns-in-Loop-clause-carries
carry-returns-in-Loop-clause-carries t c =
    let e : plan_of c.args.flow.now ≡ loop (plan_of c.get-in-Loop.result.now) =
    ap plan_of c.in-Loop.is ∙ (plan-loop c.in-Loop.body ∙ ap (λ f. loop (plan_of f)) (sym c.get-in-Loop.ensures)) in
    subst (λ (p : Plan Event). OnOk c.carry_turns.result (CarriesOver p c.args.copies.now c.carry_turns.new.copies)) (sym e) c.carry_turns.ensures.carries

pub carry_all-parts-preserved : goal.carry_all-parts-preserved
carry_all-parts-preserved t c = record {
  carries = carries_more c.args.parts.now c.parts.part-index c.part-item.result c.args.copies.now c.parts.copies c.carry.new.copies c.parts-test.true
      c.parts.invariant.carries (subst (λ f. CarriesOver (plan_of f) c.parts.copies c.carry.new.copies) c.part-item.is c.in_ok-carry.ensures.carries);
  returns = returns_then _ _ _ _ c.parts.invariant.returns c.in_ok-carry.ensures.returns;
}
