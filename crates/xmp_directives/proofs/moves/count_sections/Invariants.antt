use Rattle.std.proofs.Common.{◌≡◌, ◌≤◌, take}
use Rattle.std.specs.List.{count_by}
use Rattle.xmp_prog.specs.Directives.{is_section}
use Rattle.xmp_directives.proofs.moves.count_sections.Given as goal

-- the sections so far
abbrev pub invariant-parts : goal.invariant-parts
invariant-parts l = (l.count ≤ l.part-index) × (l.count ≡ count_by is_section (take l.part-index l.parts))
