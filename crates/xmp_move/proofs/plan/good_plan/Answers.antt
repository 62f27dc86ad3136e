use Rattle.std.proofs.Common.{◌≡◌, subst}
use Rattle.xmp_move.specs.Kept.{IsOfCode}
use Rattle.xmp_move.specs.Plans.{target_of, source_of}
use Rattle.xmp_move.proofs.Gathering.{sides_fit, gathers, sent_inside, filled_inside}
use Rattle.xmp_move.proofs.plan.good_plan.Goals as goal

pub returns-in-Ok : goal.returns-in-Ok
returns-in-Ok c =
    let k = c.args.kind.now in
    let a = c.args.args.now in
    let n = c.args.node in
    let ct : IsOfCode (target_of k).home = subst (λ s. IsOfCode s.home) c.target_of.ensures c.items_are_three.ensures in
    let cs : IsOfCode (source_of k).home = subst (λ s. IsOfCode s.home) c.source_of.ensures c.items_are_three-2.ensures in
    let f = sides_fit k n c.requires.laid ct cs in
    let g = gathers k a n c.requires.laid c.requires.numbers c.requires.good in
    record {
      sends = c.in_ok-sends.ensures;
      fills = c.in-Ok.ensures;
      sent_inside = λ to l. sent_inside k a n to f g c.requires.node;
      filled_inside = λ from l. filled_inside k a n from f g c.requires.node;
    }
