use Rattle.std.proofs.Common.{◌≡◌, ◌∙◌, arith, rules}
use Rattle.std.proofs.lemmas.Int.{ints}
use Rattle.xmp_directives.proofs.MadePoints.{points_step}
use Rattle.xmp_directives.proofs.loop_lines.made_points.Goals as goal
use mir.Syntax.{w64}
use mir.Val.{SFits, of_z, to_z}

pub points-preserved : goal.points-preserved
points-preserved c =
    let f : SFits w64 c.lower_at.result = search rules in
    let e : to_z w64 (of_z w64 c.lower_at.result) ≡ c.lower_at.result = omega (arith, ints) in
    c.points.invariant
    ∙ points_step c.args.lowers.now c.args.points.now c.points.k _ _ c.made_of_point.result c.points.done c.push.new.self
    c.points-test.true (e ∙ c.lower_at.ensures) c.made_of_point.ensures c.in_ok-push.ensures.ok
