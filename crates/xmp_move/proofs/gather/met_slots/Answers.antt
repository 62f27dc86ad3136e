use Rattle.std.proofs.Common.{◌≡◌, ◌+◌, ◌-◌, [], ◌∙◌, sym, ap, arith, min, length}
use Rattle.std.specs.Prelude.{◌^◌}
use Rattle.std.proofs.lemmas.Bool.Decides.{nat_tests}
use Rattle.std.proofs.lemmas.List.{nil_from_length}
use Rattle.xmp_move.proofs.GatherLaws.{slots_are, no_slots}
use Rattle.xmp_move.proofs.gather.met_slots.Goals as goal

pub returns-then-is_empty : goal.returns-then-is_empty
returns-then-is_empty c =
    let legs = c.three_legs.result in
    let none : length c.in_ok-zs.zs.items ≡ 0 = grind (arith, nat_tests) in
    c.new-then-is_empty.ensures ∙ no_slots c.args.target.now c.args.source.now c.args.slots.now c.args.base c.in_ok-zs.zs.items legs.0 legs.1 legs.2
    (sym c.singles_pass.ensures ∙ c.if-not-singles_pass.false) (sym c.singles_pass-else-not-singles_pass.ensures ∙ c.if-not-singles_pass-2.false)
    c.in_ok-zs.ensures c.three_legs.ensures.sums (nil_from_length c.in_ok-zs.zs.items none)

pub sums_from-requires : goal.sums_from-requires
sums_from-requires c =
    let legs = c.three_legs.result in
    let all = slots_are c.args.target.now c.args.source.now c.args.slots.now c.args.base c.saturating_add-start.result c.singles_total.result
    c.deref.result.now c.deref-2.result.now c.deref-3.result.now legs.0 legs.1 legs.2
    (sym c.singles_pass.ensures ∙ c.if-not-singles_pass.false) (sym c.singles_pass-else-not-singles_pass.ensures ∙ c.if-not-singles_pass-2.false)
    c.singles_total.ensures.total (c.saturating_add-start.ensures) (c.deref.ensures.value ∙ c.in_ok-xs.ensures) (c.deref-2.ensures.value ∙ c.in_ok-ys.ensures)
    (c.deref-3.ensures.value ∙ c.in_ok-zs.ensures) c.three_legs.ensures.sums c.requires.small in
    all.small

pub returns : goal.returns
returns c =
    let legs = c.three_legs.result in
    let all = slots_are c.args.target.now c.args.source.now c.args.slots.now c.args.base c.saturating_add-start.result c.singles_total.result
    c.deref.result.now c.deref-2.result.now c.deref-3.result.now legs.0 legs.1 legs.2
    (sym c.singles_pass.ensures ∙ c.if-not-singles_pass.false) (sym c.singles_pass-else-not-singles_pass.ensures ∙ c.if-not-singles_pass-2.false)
    c.singles_total.ensures.total (c.saturating_add-start.ensures) (c.deref.ensures.value ∙ c.in_ok-xs.ensures) (c.deref-2.ensures.value ∙ c.in_ok-ys.ensures)
    (c.deref-3.ensures.value ∙ c.in_ok-zs.ensures) c.three_legs.ensures.sums c.requires.small in
    c.from_vec.ensures ∙ c.in_ok-list.ensures ∙ all.list
