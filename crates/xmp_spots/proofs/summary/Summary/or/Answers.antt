use Rattle.std.proofs.Common.{sym, subst, ◌∙◌}
use Rattle.std.proofs.lemmas.Bool.{and_parts}
use Rattle.xmp_base.specs.First.{IsFirst}
use Rattle.xmp_paths.specs.Plans.{branch}
use Rattle.xmp_spots.specs.PlanRaces.{BreaksWithin}
use Rattle.xmp_spots.proofs.SummaryLaws.{on_ok_two, on_ok_three, first_branch, branches_quiet, branches_apart}
use Rattle.xmp_spots.proofs.summary.Summary.or.Goals as goal

pub returns-then-is_quiet_with : goal.returns-then-is_quiet_with
returns-then-is_quiet_with c =
    on_ok_two c.gather.result _ _ _
    (λ early rest p q hp hq.
    let w = c.found_with-found.ensures in
    let both = and_parts c.args.self.now.quiet c.args.next.quiet (sym c.is_quiet_with.ensures ∙ c.if-is_quiet_with.true) in
    branches_quiet p q c.args.self.now c.args.next c.gather.new.self both.0 both.1 hp hq early rest.0 rest.1 rest.2
    (subst (IsFirst (BreaksWithin (branch p q))) (sym rest.3)
    (first_branch p q c.args.self.now.early c.args.next.early c.args.self.now.found c.args.next.found w.0 c.found_with-found.result hp.found hq.found w.1
    hp.early hq.early w.2)))
    c.gather.ensures.early c.gather.ensures.rest

pub returns-in-Ok : goal.returns-in-Ok
returns-in-Ok c =
    on_ok_three c.unite.result _ _ _ _
    (λ early late rest p q hp hq.
    let w = c.found_with-found.ensures in
    let k = c.in-Ok.ensures p q hp hq in
    branches_apart p q c.keep_both.new.one c.keep_both.new.other c.unite.new.self k.0.1 k.1.1 k.0.0 k.1.0 early late rest.0 rest.1 rest.2
    (subst (IsFirst (BreaksWithin (branch p q))) (sym rest.3)
    (first_branch p q c.args.self.now.early c.args.next.early c.args.self.now.found c.args.next.found w.0 c.found_with-found.result hp.found hq.found w.1
    hp.early hq.early w.2)))
    c.unite.ensures.early c.unite.ensures.late c.unite.ensures.rest
