use Rattle.xmp_lex.specs.Pieces.{splice}
use Rattle.xmp_lex.proofs.SpaceLemmas.{splice_fits, splice_some}
use Rattle.xmp_lex.proofs.spaces.plain_space.Goals as goal

pub returns-in-Some : goal.returns-in-Some
returns-in-Some c = (splice c.in-Some.n c.in-Some.ensures, splice_fits _ _ c.in-Some.ensures, splice_some _ _ c.in-Some.ensures)
