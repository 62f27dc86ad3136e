use Rattle.xmp_code.proofs.state.State.run.Given as goal

abbrev pub ghost-run_going : goal.ghost-run_going
ghost-run_going a = a.going.ends.0
