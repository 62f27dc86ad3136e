use Rattle.std.proofs.Common.{◌≡◌, ◌∙◌, ap, sym, subst, map, take, ◌+◌, IfOk}
use Rattle.xmp_base.specs.First.{IsFirst}
use Rattle.xmp_paths.specs.Plans.{Plan, in_order, branch, loop}
use Rattle.xmp_paths.specs.Flows.{plan_of}
use Rattle.xmp_paths.specs.Rules.{in_phase}
use Rattle.xmp_paths.specs.May.{BreaksFrom}
use Rattle.xmp_paths.specs.Copies.{may_be_stale, CarriesOver}
use Rattle.xmp_paths.proofs.FlowLaws.{plan-emit, plan-sequence, plan-branch, plan-loop}
use Rattle.xmp_paths.proofs.CarryLaws.{branch_end, branch_start, carries_more, carries_all}
use Rattle.xmp_paths.proofs.FindLaws.{first_more, first_all, first_branch, first_loop}
use Rattle.xmp_paths.proofs.TrailLaws.{returns_then}
use Rattle.xmp_paths.specs.declared.event.Event.{Event}
use Rattle.xmp_paths.specs.declared.event.Flow.{Flow}
use Rattle.xmp_paths.proofs.walk.+inspect.Goals as goal

pub inspect-returns-in-Emit-clause-first : goal.inspect-returns-in-Emit-clause-first
inspect-returns-in-Emit-clause-first t c =
    subst (λ (p : Plan Event). IfOk c.inspect_event.result (λ found. IsFirst (in_phase c.args.phase (BreaksFrom p (may_be_stale c.args.copies.now))) found))
    (sym (ap plan_of c.in-Emit.is ∙ plan-emit c.in-Emit.event)) c.inspect_event.ensures.first

pub inspect-returns-in-Sequence-clause-first : goal.inspect-returns-in-Sequence-clause-first
inspect-returns-in-Sequence-clause-first t c =
    subst (λ (p : Plan Event). IfOk c.inspect_all.result (λ found. IsFirst (in_phase c.args.phase (BreaksFrom p (may_be_stale c.args.copies.now))) found))
    (sym (ap plan_of c.in-Sequence.is ∙ (plan-sequence c.in-Sequence.parts ∙ ap (λ l. in_order (map plan_of l)) (sym c.as_slice.ensures))))
    c.inspect_all.ensures.first

pub inspect-returns-in_ok-join-in-Branch-clause-first : goal.inspect-returns-in_ok-join-in-Branch-clause-first
inspect-returns-in_ok-join-in-Branch-clause-first t c =
    let e : plan_of c.args.flow.now ≡ branch (plan_of c.get.result.now) (plan_of c.get-in-Branch.result.now) =
    ap plan_of c.in-Branch.is
    ∙ (plan-branch c.in-Branch.left c.in-Branch.right
    ∙ (ap (λ f. branch (plan_of f) (plan_of c.in-Branch.right)) (sym c.get.ensures)
    ∙ ap (λ f. branch (plan_of c.get.result.now) (plan_of f)) (sym c.get-in-Branch.ensures))) in
    let p = plan_of c.get.result.now in
    let q = plan_of c.get-in-Branch.result.now in
    subst (λ (r : Plan Event). IsFirst (in_phase c.args.phase (BreaksFrom r (may_be_stale c.args.copies.now))) c.earlier.result) (sym e)
    (subst (IsFirst (in_phase c.args.phase (BreaksFrom (branch p q) (may_be_stale c.args.copies.now)))) (sym c.earlier.ensures.first)
    (first_branch c.args.phase p q c.args.copies.now c.go_back.new.self _ _
    (branch_start c.reached-start.result c.args.copies.now c.inspect.new.copies c.go_back.new.self c.reached-start.ensures
    c.in_ok-first-in-Branch.ensures.returns c.in_ok-changes-in-Branch.ensures.sets c.in_ok-changes-in-Branch.ensures.trail)
    c.in_ok-first-in-Branch.ensures.first c.in_ok-second-in-Branch.ensures.first))

pub inspect-returns-in_ok-join-in-Branch-clause-carries : goal.inspect-returns-in_ok-join-in-Branch-clause-carries
inspect-returns-in_ok-join-in-Branch-clause-carries t c =
    let e : plan_of c.args.flow.now ≡ branch (plan_of c.get.result.now) (plan_of c.get-in-Branch.result.now) =
    ap plan_of c.in-Branch.is
    ∙ (plan-branch c.in-Branch.left c.in-Branch.right
    ∙ (ap (λ f. branch (plan_of f) (plan_of c.in-Branch.right)) (sym c.get.ensures)
    ∙ ap (λ f. branch (plan_of c.get.result.now) (plan_of f)) (sym c.get-in-Branch.ensures))) in
    subst (λ (p : Plan Event). CarriesOver p c.args.copies.now c.join.new.self) (sym e)
    (branch_end (plan_of c.get.result.now) (plan_of c.get-in-Branch.result.now) c.reached-start.result
    c.args.copies.now c.inspect.new.copies c.go_back.new.self c.inspect-in-Branch.new.copies c.join.new.self c.in_ok-changes-in-Branch.changes
    c.reached-start.ensures c.in_ok-first-in-Branch.ensures.carries c.in_ok-first-in-Branch.ensures.returns
    c.in_ok-changes-in-Branch.ensures.changes c.in_ok-changes-in-Branch.ensures.sets c.in_ok-changes-in-Branch.ensures.trail
    c.in_ok-second-in-Branch.ensures.carries c.in_ok-second-in-Branch.ensures.returns c.in_ok-join-in-Branch.ensures.sets)

pub inspect-returns-in-Loop-clause-first : goal.inspect-returns-in-Loop-clause-first
inspect-returns-in-Loop-clause-first t c =
    subst (λ (p : Plan Event). IfOk c.inspect_turns.result (λ found. IsFirst (in_phase c.args.phase (BreaksFrom p (may_be_stale c.args.copies.now))) found))
    (sym (ap plan_of c.in-Loop.is ∙ (plan-loop c.in-Loop.body ∙ ap (λ f. loop (plan_of f)) (sym c.get-in-Loop.ensures))))
    c.inspect_turns.ensures.first

pub inspect_all-parts-preserved : goal.inspect_all-parts-preserved
inspect_all-parts-preserved t c = record {
  first = subst (IsFirst (in_phase c.args.phase (BreaksFrom (in_order (map plan_of (take (c.parts.part-index + 1) c.args.parts.now))) (may_be_stale c.args.copies.now))))
      (sym c.earlier-found.ensures.first)
      (first_more c.args.phase c.args.parts.now c.parts.part-index c.part-item.result c.args.copies.now c.parts.copies _ _ c.parts-test.true
      c.parts.invariant.carries c.parts.invariant.first
      (subst (λ (f : Flow). IsFirst (in_phase c.args.phase (BreaksFrom (plan_of f) (may_be_stale c.parts.copies))) c.in_ok-next.next) c.part-item.is c.in_ok-next.ensures.first));
  carries = carries_more c.args.parts.now c.parts.part-index c.part-item.result c.args.copies.now c.parts.copies c.inspect.new.copies c.parts-test.true
      c.parts.invariant.carries (subst (λ f. CarriesOver (plan_of f) c.parts.copies c.inspect.new.copies) c.part-item.is c.in_ok-next.ensures.carries);
  returns = returns_then _ _ _ _ c.parts.invariant.returns c.in_ok-next.ensures.returns;
}

pub inspect_all-returns-clause-first : goal.inspect_all-returns-clause-first
inspect_all-returns-clause-first t c =
    first_all c.args.phase c.args.parts.now c.parts.part-index c.args.copies.now c.parts.found c.parts-test.false c.parts.invariant.first

pub inspect_all-returns-clause-carries : goal.inspect_all-returns-clause-carries
inspect_all-returns-clause-carries t c =
    carries_all c.args.parts.now c.parts.part-index c.args.copies.now c.parts.copies c.parts-test.false c.parts.invariant.carries

pub inspect_turns-returns-clause-first : goal.inspect_turns-returns-clause-first
inspect_turns-returns-clause-first t c =
    first_loop c.args.phase (plan_of c.args.body.now) c.args.copies.now c.carry_turns.new.copies c.in_ok-found.found
    c.in_ok-carry_turns.ensures.carries c.in_ok-found.ensures.first
