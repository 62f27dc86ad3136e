use Rattle.std.proofs.Common.{rules, ◌≡◌, ◌<◌, length, ap, ◌∙◌, ◌-ℤ◌, w64, to_z, of_z}
use Rattle.std.specs.Prelude.{FitsSigned}
use Rattle.std.proofs.lemmas.Int.{to_z-of_z}
use Rattle.xmp_meaning.specs.Expressions.{natural}
use Rattle.xmp_instr.specs.Tables.{first_owned}
use Rattle.xmp_code.proofs.Along.{along, along_below, along_next}
use Rattle.xmp_code.proofs.points.next_position.Goals as goal

pub next_along-requires-clause-node : goal.next_along-requires-clause-node
next_along-requires-clause-node c =
    let t = c.args.template.now in
    let three : length t.spread ≡ 3 = search rules in
    let sizes : length t.grid.sizes ≡ 3 = search rules in
    along_below t c.args.node c.args.d c.dim.result.now c.at-c.result sizes c.requires.node
    (along t c.args.node c.args.d c.dim.result.now c.at-c.result three c.requires.dimension c.dim.ensures c.at-c.ensures)

pub returns : goal.returns
returns c =
    let t = c.args.template.now in
    let three : length t.spread ≡ 3 = search rules in
    let fit : FitsSigned w64 c.next_along.result = search rules in
    let fg : FitsSigned w64 c.args.g = search rules in
    let fe : FitsSigned w64 c.args.end = search rules in
    to_z-of_z w64 c.next_along.result fit
    ∙ c.next_along.ensures
    ∙ ap (λ x. first_owned c.dim.result.now c.at-c.result x (natural (to_z w64 (of_z w64 c.args.end) -ℤ x))) (to_z-of_z w64 c.args.g fg)
    ∙ ap (λ y. first_owned c.dim.result.now c.at-c.result c.args.g (natural (y -ℤ c.args.g))) (to_z-of_z w64 c.args.end fe)
    ∙ along_next t c.args.node c.args.d c.dim.result.now c.at-c.result c.args.g c.args.end
    (along t c.args.node c.args.d c.dim.result.now c.at-c.result three c.requires.dimension c.dim.ensures c.at-c.ensures)
