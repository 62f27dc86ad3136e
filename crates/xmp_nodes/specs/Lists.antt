-- What the code's types say of a program's maps (this project).
use Rattle.std.specs.List.{AllByRecursion}
use Rattle.xmp_prog.specs.declared.parts.ProgParts.{ProgParts}
use Rattle.xmp_move.specs.Kept.{IsOfCode}

-- The map of each distributed array has three dimensions, its template and its grid too: those that a text doesn't name
-- are whole.
pub record HasAxes (p : ProgParts) : Type 0 where
  pub arrays : AllByRecursion (λ a. IsOfCode a.home) p.arrays
