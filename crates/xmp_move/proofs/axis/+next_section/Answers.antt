use Rattle.std.proofs.Common.{◌≡◌, [], ap}
use Rattle.xmp_move.specs.Picks.{counts}
use Rattle.xmp_move.specs.Axes.{picks, IsSection}
use Rattle.xmp_move.proofs.GatherLaws.{section_here, section_behind, none_behind, no_counts, option_map}
use Rattle.xmp_move.proofs.axis.+next_section.Goals as goal

pub returns-in-None : goal.returns-in-None
returns-in-None n c = no_counts c.args.axes.now c.in-None.ensures

pub returns-in-Single : goal.returns-in-Single
returns-in-Single n c =
    let all = c.args.axes.now in
    let axes = c.in-Some.axes.now in
    let axis = c.in-Some.axis.now in
    option_map c.next_section.result (counts (picks axes) ≡ []) (counts (picks all) ≡ []) (λ p. IsSection axes p.0 p.1 p.2 p.3.now) (λ p. IsSection all p.0 p.1 p.2 p.3.now)
    (λ e. none_behind all axes axis c.in-Single.field-0 c.in-Some.ensures c.in-Single.is e)
    (λ p s. section_behind all axes axis c.in-Single.field-0 p.0 p.1 p.2 p.3.now c.in-Some.ensures c.in-Single.is s)
    c.next_section.ensures

pub returns-in-Section : goal.returns-in-Section
returns-in-Section n c =
    section_here c.args.axes.now c.in-Some.axes.now c.in-Some.axis.now c.in-Section.first c.in-Section.count c.in-Section.step c.in-Some.ensures c.in-Section.is c.requires
