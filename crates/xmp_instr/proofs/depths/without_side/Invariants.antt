use Rattle.std.proofs.Common.{◌≡◌, ◌+◌, drop}
use Rattle.std.specs.List.{sum_by}
use Rattle.xmp_move.specs.Numbers as numbers
use Rattle.xmp_instr.proofs.depths.without_side.Given as goal

-- what is left, and what the parts so far have taken, are all
abbrev pub invariant-parts : goal.invariant-parts
invariant-parts l = l.left + sum_by numbers.asked l.fn.side ≡ l.fn.d + sum_by numbers.asked (drop l.part-index l.side)
