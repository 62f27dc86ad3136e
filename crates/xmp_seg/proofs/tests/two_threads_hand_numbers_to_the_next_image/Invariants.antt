use Rattle.xmp_seg.specs.Examples.{ring}
use Rattle.xmp_seg.proofs.tests.two_threads_hand_numbers_to_the_next_image.Given as goal

abbrev pub ghosts-pass_round : goal.ghosts-pass_round
ghosts-pass_round g a = record { script = ring }
