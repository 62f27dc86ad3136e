use Rattle.xmp_ring.proofs.tests.two_threads_hand_over_a_thousand_messages_in_order.Given as goal

abbrev pub ghosts-hand_over : goal.ghosts-hand_over
ghosts-hand_over g a = record { stream = λ ring. a.messages.items }
