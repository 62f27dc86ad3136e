use Rattle.std.proofs.Common.{◌≡◌, ◌≤◌, ◌+◌, ◌*◌, ◌∙◌, sym, ap, arith, length}
use Rattle.xmp_move.specs.Picks.{singles_total}
use Rattle.xmp_move.specs.Axes.{picks, adds, adds_at}
use Rattle.xmp_move.proofs.GatherLaws.{total_none, total_single, total_section, single_fits}
use Rattle.xmp_move.proofs.axis.+singles_total.Goals as goal

pub overflow_mul-result : goal.overflow_mul-result
overflow_mul-result n c =
    let f = single_fits c.args.axes.now c.in-Some.axes.now c.in-Some.axis.now c.in-Single.x c.in-Some.ensures c.in-Single.is c.requires.fits in
    rw c.position.ensures (let h = f.1 in omega (arith, h))

pub overflow_add-result : goal.overflow_add-result
overflow_add-result n c =
    let f = single_fits c.args.axes.now c.in-Some.axes.now c.in-Some.axis.now c.in-Single.x c.in-Some.ensures c.in-Single.is c.requires.fits in
    let one : length c.args.axes.now ≡ length c.in-Some.axes.now + 1 = ap length c.in-Some.ensures ∙ omega arith in
    let s = c.singles_total.ensures.small in
    let few = c.requires.few in
    rw c.position.ensures (let h = f.1 in omega (arith, h, one, s, few))

pub returns-in-None-clause-total : goal.returns-in-None-clause-total
returns-in-None-clause-total n c = total_none c.args.axes.now c.in-None.ensures

pub returns-in-Single-clause-total : goal.returns-in-Single-clause-total
returns-in-Single-clause-total n c =
    let axis = c.in-Some.axis.now in
    ap (λ p. p * axis.weight + c.singles_total.result) c.position.ensures ∙ ap (λ r. adds_at axis c.in-Single.x + r) c.singles_total.ensures.total
    ∙ total_single c.args.axes.now c.in-Some.axes.now axis c.in-Single.x c.in-Some.ensures c.in-Single.is

pub returns-in-Single-clause-small : goal.returns-in-Single-clause-small
returns-in-Single-clause-small n c =
    let f = single_fits c.args.axes.now c.in-Some.axes.now c.in-Some.axis.now c.in-Single.x c.in-Some.ensures c.in-Single.is c.requires.fits in
    let one : length c.args.axes.now ≡ length c.in-Some.axes.now + 1 = ap length c.in-Some.ensures ∙ omega arith in
    let s = c.singles_total.ensures.small in
    rw c.position.ensures (let h = f.1 in omega (arith, h, one, s))

pub returns-in-Section-clause-total : goal.returns-in-Section-clause-total
returns-in-Section-clause-total n c =
    c.singles_total-in-Section.ensures.total
    ∙ total_section c.args.axes.now c.in-Some.axes.now c.in-Some.axis.now c.in-Section.first c.in-Section.count c.in-Section.step c.in-Some.ensures c.in-Section.is
