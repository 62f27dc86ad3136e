use Rattle.xmp_prog.proofs.SquareLaws.{squares_fit}
use Rattle.xmp_prog.proofs.tests.mapped_program_fits.Goals as goal

pub returns : goal.returns
returns c = squares_fit
