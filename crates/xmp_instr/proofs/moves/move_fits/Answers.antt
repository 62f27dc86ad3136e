use Rattle.std.proofs.Common.{◌≤◌, ◌^◌, rules, sym, subst}
use Rattle.xmp_instr.specs.Valid.{MoveFits}
use Rattle.xmp_instr.proofs.MoveLaws.{gmove_is, match_is, reflect_is}
use Rattle.xmp_instr.proofs.moves.move_fits.Goals as goal

pub returns-then-is_spread : goal.returns-then-is_spread
returns-then-is_spread c =
    let w : c.args.parts.now.words ≤ 2 ^ 32 = search rules in
    let fits = match_is c.side_words.result c.is_some.result _ _ c.is_some.ensures c.side_words.ensures in
    let move = reflect_is c.args.parts.now c.in-Reflect.array w (sym (c.if-is_spread.ensures {u = tt})) in (
      λ h. subst (MoveFits c.args.parts.now) (sym c.in-Reflect.is) (move.0 (fits.0 h)),
      λ m. fits.1 (move.1 (subst (MoveFits c.args.parts.now) c.in-Reflect.is m)),
    )

pub returns-in-Gmove : goal.returns-in-Gmove
returns-in-Gmove c =
    let w : c.args.parts.now.words ≤ 2 ^ 32 = search rules in
    let move = gmove_is c.args.parts.now c.in-Gmove.target c.in-Gmove.source c.in-Gmove.ty w in (
      λ h. subst (MoveFits c.args.parts.now) (sym c.in-Gmove.is) (move.0 (c.gmove_fits.ensures.0 h)),
      λ m. c.gmove_fits.ensures.1 (move.1 (subst (MoveFits c.args.parts.now) c.in-Gmove.is m)),
    )
