use Rattle.xmp_serial.proofs.outcome.+push_rows.Given as goal

abbrev pub decreases-push_rows : goal.decreases-push_rows
decreases-push_rows l = l.images
