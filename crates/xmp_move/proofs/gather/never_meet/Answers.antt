use Rattle.std.proofs.Common.{◌≡◌, ◌∙◌, ◌∷◌, ap, arith}
use Rattle.xmp_move.specs.Axes.{picks, tests, adds}
use Rattle.xmp_move.specs.Sums.{due_slots}
use Rattle.xmp_move.proofs.ApartLaws.{apart_due}
use Rattle.xmp_move.proofs.gather.never_meet.Goals as goal

pub returns-then-step-by : goal.returns-then-step-by
returns-then-step-by c = λ holds slots.
    let s = c.in-Some-Some in
    let p = c.in-Section-Section in
    let a = s.a.now in
    let b = s.b.now in
    let more = s.field-0-1-0.now in
    let others = s.field-0-1-1.now in
    ap (λ t. due_slots (picks t) (picks c.args.source.now) (picks slots) (tests t) (tests c.args.source.now) (adds slots)) s.ensures
    ∙ ap (λ u. due_slots (picks (a ∷ more)) (picks u) (picks slots) (tests (a ∷ more)) (tests u) (adds slots)) s.ensures'
    ∙ apart_due a b more others p.first p.count-0 p.step p.start p.count-1 p.by p.is-0 p.is-1 (omega arith) (omega arith) (c.are_apart.ensures holds) slots
