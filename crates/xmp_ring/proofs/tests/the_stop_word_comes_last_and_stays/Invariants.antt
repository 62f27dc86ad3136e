use Rattle.std.proofs.Common.{◌∷◌, []}
use Rattle.xmp_ring.proofs.tests.the_stop_word_comes_last_and_stays.Given as goal

abbrev pub ghosts-one_and_stop : goal.ghosts-one_and_stop
ghosts-one_and_stop g a = record { stream = λ ring. a.m ∷ [] }
