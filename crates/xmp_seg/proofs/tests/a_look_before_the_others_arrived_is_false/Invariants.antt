use Rattle.xmp_seg.specs.Examples.{ring}
use Rattle.xmp_seg.proofs.tests.a_look_before_the_others_arrived_is_false.Given as goal

abbrev pub ghosts-look_early : goal.ghosts-look_early
ghosts-look_early g a = record { script = ring }
