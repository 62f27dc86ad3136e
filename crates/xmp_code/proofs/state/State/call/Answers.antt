use Rattle.std.proofs.Common.{◌≤◌, refl, arith}
use Rattle.std.proofs.lemmas.List.{length-reverse}
use Rattle.xmp_code.proofs.state.State.call.Goals as goal

pub push_reserved-requires : goal.push_reserved-requires
push_reserved-requires c =
    let h = c.requires.calls _ refl in
    let l = length-reverse c.args.self.now.frame.calls.items in
    omega (arith, h, l)
