use Rattle.xmp_ring.proofs.ends.pair.Given as goal

abbrev pub ghosts-pair_at : goal.ghosts-pair_at
ghosts-pair_at g a = record { number = a.ring }
