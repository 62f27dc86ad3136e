use Rattle.xmp_seg.specs.Examples.{signs}
use Rattle.xmp_seg.proofs.tests.negative_numbers_keep_their_bits.Given as goal

abbrev pub ghosts-read_and_write_signs : goal.ghosts-read_and_write_signs
ghosts-read_and_write_signs g a = record { script = signs }
