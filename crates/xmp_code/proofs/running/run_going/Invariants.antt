use Rattle.xmp_code.proofs.running.run_going.Given as goal

abbrev pub ghost-run_within : goal.ghost-run_within
ghost-run_within g a = g.steps
