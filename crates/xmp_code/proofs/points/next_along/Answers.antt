use Rattle.std.proofs.Common.{rules, ◌≡◌, ◌∙◌, w64, to_z, of_z}
use Rattle.std.specs.Prelude.{FitsSigned}
use Rattle.std.proofs.lemmas.Int.{to_z-of_z}
use Rattle.xmp_code.proofs.FirstOwned.{IsFirst, first_by}
use Rattle.xmp_code.proofs.points.next_along.Goals as goal

pub returns : goal.returns
returns c =
    let fit : FitsSigned w64 c.next_owned.result = search rules in
    let fg : FitsSigned w64 c.args.g = search rules in
    let fe : FitsSigned w64 c.args.end = search rules in
    let first : IsFirst c.args.dim.now c.args.c (to_z w64 (of_z w64 c.args.g)) (to_z w64 (of_z w64 c.args.end)) c.next_owned.result = record {
      from = c.next_owned.ensures.from;
      upto = c.next_owned.ensures.upto;
      owned = c.next_owned.ensures.owned;
      least = c.next_owned.ensures.least;
    } in
    to_z-of_z w64 c.next_owned.result fit
    ∙ first_by c.args.dim.now c.args.c c.args.g c.args.end _ _ c.next_owned.result (to_z-of_z w64 c.args.g fg) (to_z-of_z w64 c.args.end fe) c.requires.order first
