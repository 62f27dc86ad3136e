use Rattle.xmp_seg.specs.Examples.{single}
use Rattle.xmp_seg.proofs.tests.one_image_reads_and_writes_a_word.Given as goal

abbrev pub ghosts-read_and_write : goal.ghosts-read_and_write
ghosts-read_and_write g a = record { script = single }
