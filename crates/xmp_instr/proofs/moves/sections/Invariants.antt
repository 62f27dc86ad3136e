use Rattle.std.proofs.Common.{◌≡◌, ◌+◌, ◌≤◌, drop}
use Rattle.std.specs.List.{count_by}
use Rattle.xmp_move.specs.Laid.{is_section}
use Rattle.xmp_instr.proofs.moves.sections.Given as goal

-- those so far and those of the rest are all
abbrev pub invariant-parts : goal.invariant-parts
invariant-parts l = (count_by is_section l.side.parts ≡ l.count + count_by is_section (drop l.part-index l.parts)) × (l.count ≤ l.part-index)
