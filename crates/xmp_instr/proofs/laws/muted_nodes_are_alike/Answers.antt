use Rattle.xmp_instr.proofs.Quiet.{muted_is_alike, steps_alike, stops_alike}
use Rattle.xmp_instr.proofs.laws.muted_nodes_are_alike.Goals as goal

pub returns-clause-muted : goal.returns-clause-muted
returns-clause-muted c = muted_is_alike

pub returns-clause-step : goal.returns-clause-step
returns-clause-step c = steps_alike

pub returns-clause-stop : goal.returns-clause-stop
returns-clause-stop c = stops_alike
