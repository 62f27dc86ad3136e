use Rattle.std.proofs.Common.{◌≡◌, drop}
use Rattle.xmp_prog.specs.Numbers.{is_in}
use Rattle.xmp_directives.proofs.indices.is_in.Given as goal

-- what is left to do from here gives what the whole gives
abbrev pub invariant-numbers : goal.invariant-numbers
invariant-numbers l = is_in l.fn.numbers l.n ≡ is_in (drop l.number-index l.numbers) l.n
