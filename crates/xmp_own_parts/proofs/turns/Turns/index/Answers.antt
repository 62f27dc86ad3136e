use Rattle.std.proofs.Common.{arith, ◌+◌, ◌*◌, ◌^◌, ◌-◌, ◌≤◌, pos, ◌+ℤ◌}
use Rattle.std.specs.Prelude.{◌≤ℤ◌}
use Rattle.std.proofs.lemmas.Int.{ints}
use Rattle.xmp_own_parts.proofs.Jumps.{turns_below}
use Rattle.xmp_own_parts.proofs.turns.Turns.index.Goals as goal

pub overflow_cast-result : goal.overflow_cast-result
overflow_cast-result c =
    let i : (c.args.self.now.first +ℤ pos (c.args.self.now.count * c.args.self.now.step)) ≤ℤ pos (2 ^ 31 - 1 + c.args.self.now.step) = c.args.self.now.inside in
    let b : c.args.k * c.args.self.now.step + c.args.self.now.step ≤ c.args.self.now.count * c.args.self.now.step = (turns_below c.args.k c.args.self.now.count c.args.self.now.step).1 c.requires in
    omega (arith, ints)

pub returns : goal.returns
returns c =
    let i : (c.args.self.now.first +ℤ pos (c.args.self.now.count * c.args.self.now.step)) ≤ℤ pos (2 ^ 31 - 1 + c.args.self.now.step) = c.args.self.now.inside in
    let b : c.args.k * c.args.self.now.step + c.args.self.now.step ≤ c.args.self.now.count * c.args.self.now.step = (turns_below c.args.k c.args.self.now.count c.args.self.now.step).1 c.requires in
    omega (arith, ints)
