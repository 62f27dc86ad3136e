use Rattle.std.proofs.Common.{refl, sym, subst, ◌∙◌, ◌↔◌, Contains}
use Rattle.std.proofs.lemmas.Bool.{and_parts}
use Rattle.indexmap.proofs.MapLemmas.{OnOk-map}
use Rattle.xmp_base.specs.First.{IsFirst}
use Rattle.xmp_paths.specs.Plans.{sequence}
use Rattle.xmp_spots.specs.Joins.{IsLate}
use Rattle.xmp_spots.specs.Races.{ClashBetween}
use Rattle.xmp_spots.specs.PlanRaces.{BreaksWithin}
use Rattle.xmp_spots.specs.Summaries.{Sums}
use Rattle.xmp_spots.proofs.SummaryLaws.{on_ok_two, first_sequence, follows_blank, blank_follows, follows_quiet}
use Rattle.xmp_spots.proofs.summary.Summary.follow.Goals as goal

pub returns-then-is_blank : goal.returns-then-is_blank
returns-then-is_blank c = λ p q hp hq.
    let w = c.found_with-found.ensures in
    follows_blank p q c.args.self.now c.args.next w.0 c.found_with-found.result (c.if-is_blank.ensures.0 refl).0 (c.if-is_blank.ensures.0 refl).1 hp hq
    (subst (λ l. IsFirst (ClashBetween l c.args.next.early) w.0) c.late.ensures w.1) w.2

pub returns-then-is_blank-2 : goal.returns-then-is_blank-2
returns-then-is_blank-2 c = λ p q hp hq.
    let w = c.found_with-found.ensures in
    subst (λ m. Sums (sequence p q) (record m { found = c.found_with-found.result })) (sym c.swap.ensures.x_after)
    (blank_follows p q c.args.self.now c.args.next w.0 c.found_with-found.result (c.if-is_blank-2.ensures.0 refl).0 (c.if-is_blank-2.ensures.0 refl).1 hp hq
    (subst (λ l. IsFirst (ClashBetween l c.args.next.early) w.0) c.late.ensures w.1) w.2)

pub returns-then-is_quiet_with : goal.returns-then-is_quiet_with
returns-then-is_quiet_with c =
    on_ok_two c.gather.result _ _ _
    (λ early rest p q hp hq.
    let w = c.found_with-found.ensures in
    let both = and_parts c.args.self.now.quiet c.args.next.quiet (sym c.is_quiet_with.ensures ∙ c.if-is_quiet_with.true) in
    follows_quiet p q c.args.self.now c.args.next c.gather.new.self both.0 both.1 hp hq early rest.0 rest.1 rest.2
    (subst (IsFirst (BreaksWithin (sequence p q))) (sym rest.3)
    (first_sequence p q c.late.result.now c.args.next.early c.args.self.now.found c.args.next.found w.0 c.found_with-found.result hp.found hq.found w.1
    (λ t. subst (λ l. Contains l t ↔ IsLate p t) (sym c.late.ensures) (hp.late t)) hq.early w.2)))
    c.gather.ensures.early c.gather.ensures.rest

pub returns : goal.returns
returns c =
    OnOk-map c.follow_apart.result _ _
    (λ f p q hp hq.
    let w = c.found_with-found.ensures in
    f p q hp hq
    (first_sequence p q c.late.result.now c.args.next.early c.args.self.now.found c.args.next.found w.0 c.found_with-found.result hp.found hq.found w.1
    (λ t. subst (λ l. Contains l t ↔ IsLate p t) (sym c.late.ensures) (hp.late t)) hq.early w.2))
    c.follow_apart.ensures
