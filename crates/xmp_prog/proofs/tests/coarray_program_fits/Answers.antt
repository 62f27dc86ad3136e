use Rattle.xmp_prog.proofs.ExampleLaws.{exchange_fits}
use Rattle.xmp_prog.proofs.tests.coarray_program_fits.Goals as goal

pub returns : goal.returns
returns c = exchange_fits
