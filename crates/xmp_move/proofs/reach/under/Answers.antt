use Rattle.std.proofs.Common.{◌≡◌, ◌≤◌, arith, sym, rules, length}
use Rattle.xmp_map.proofs.AlignLaws.{slice_get-none}
use Rattle.xmp_move.proofs.reach.under.Goals as goal

pub returns-in_default : goal.returns-in_default
returns-in_default c =
    let l : length c.args.template.now.spread ≡ 3 = search rules in
    let far : length c.args.template.now.spread ≤ c.in-Some.d = omega (arith, l, c.if-d-lt3.false) in
    rw c.in-Some.is (sym (slice_get-none c.args.template.now.spread c.in-Some.d far))
