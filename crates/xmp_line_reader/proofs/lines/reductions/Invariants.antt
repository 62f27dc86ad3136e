use Rattle.std.proofs.Common.{length}
use Rattle.std.specs.Prelude.{codes}
use Rattle.xmp_syntax.specs.Parts as p
use Rattle.xmp_syntax.specs.Reading.{part, many}
use Rattle.xmp_syntax.specs.Grammar.{is_spelled}
use Rattle.xmp_syntax.specs.Spell.{reduction}
use Rattle.xmp_syntax.specs.Fits.{FitsReduction}
use Rattle.xmp_reader.proofs.Listing.{ListSoFar}
use Rattle.xmp_line_reader.proofs.lines.reductions.Given as goal

abbrev pub invariant-loop-alloc : goal.invariant-loop-alloc
invariant-loop-alloc l = ListSoFar _ (many (is_spelled (codes "reduction")) (part p.reduction)) reduction FitsReduction l.fn.r l.reductions l.rest

abbrev pub decreases-loop-alloc : goal.decreases-loop-alloc
decreases-loop-alloc l = length l.rest.tokens.now
