use Rattle.std.proofs.Common.{◌≡◌, ◌+◌, ◌*◌, ◌∙◌, inr, sym, ap, arith, subst}
use Rattle.xmp_move.specs.Reaches.{reaches, ReachFits}
use Rattle.xmp_move.proofs.RoundLaws.{rounds_again}
use Rattle.xmp_move.proofs.reach.Reach.round.Goals as goal

pub returns-in-Rounds : goal.returns-in-Rounds
returns-in-Rounds c =
    let r = c.in-Rounds in
    let fits = subst (λ r. ReachFits r c.args.extent) r.is c.requires.fits in
    inr (λ m x. ap (λ s. reaches s (x + m * (r.nodes * r.width))) r.is ∙ rounds_again r.width r.nodes _ _ m x fits.0 (omega (arith, fits.2)) ∙ sym (ap (λ s. reaches s x) r.is))
