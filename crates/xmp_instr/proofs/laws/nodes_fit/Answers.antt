use Rattle.xmp_instr.proofs.Fitting.{beginning_fits, muted_fit, steps_fit}
use Rattle.xmp_instr.proofs.Served.{answered_fit, heard_fit, passed_fit, resumed_fit, told_fit}
use Rattle.xmp_instr.proofs.laws.nodes_fit.Goals as goal

pub returns-clause-begin : goal.returns-clause-begin
returns-clause-begin c = beginning_fits

pub returns-clause-step : goal.returns-clause-step
returns-clause-step c = steps_fit

pub returns-clause-told : goal.returns-clause-told
returns-clause-told c = told_fit

pub returns-clause-heard : goal.returns-clause-heard
returns-clause-heard c = heard_fit

pub returns-clause-resumed : goal.returns-clause-resumed
returns-clause-resumed c = resumed_fit

pub returns-clause-answered : goal.returns-clause-answered
returns-clause-answered c = answered_fit

pub returns-clause-passed : goal.returns-clause-passed
returns-clause-passed c = passed_fit

pub returns-clause-muted : goal.returns-clause-muted
returns-clause-muted c = muted_fit
