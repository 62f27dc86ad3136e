use Rattle.std.proofs.Common.{refl, ap, sym, ◌∙◌, take, ◌&&◌, ◌≡◌}
use Rattle.std.proofs.lemmas.List.{take_more, take_all}
use Rattle.xmp_spots.specs.Clashes.{by_two}
use Rattle.xmp_spots.specs.Nearest.{noted}
use Rattle.xmp_spots.specs.Tables.{found}
use Rattle.xmp_spots.specs.Entering.{enters_first, entered}
use Rattle.xmp_spots.proofs.EnteringLaws.{spots_more}
use Rattle.xmp_spots.proofs.table.Table.note_spots.Goals as goal

pub spots-preserved : goal.spots-preserved
spots-preserved c = λ k q.
    spots_more (λ s. enters_first c.args.array s k && by_two q s.by) (take c.spots.spot-index c.args.spots.now) _ c.args.refusal
    (found c.args.self.now k q) (found c.spots.self k q) (found c.note_spot.new.self k q)
    (c.spots.invariant k q) (c.in_ok-note_spot.ensures k q)
    ∙ ap (λ l. noted (entered c.args.array l k q) c.args.refusal (found c.args.self.now k q))
    (sym (take_more c.args.spots.now c.spots.spot-index _ c.spots-test.true))

pub spots-init : goal.spots-init
spots-init c = λ k q. refl

pub returns : goal.returns
returns c = λ k q.
    c.spots.invariant k q
    ∙ ap (λ l. noted (entered c.args.array l k q) c.args.refusal (found c.args.self.now k q))
    (take_all c.spots.spot-index c.args.spots.now c.spots-test.false)
