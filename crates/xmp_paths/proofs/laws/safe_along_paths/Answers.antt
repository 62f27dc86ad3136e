use Rattle.xmp_paths.proofs.SafeLaws.{safe_fewer, safe_sequence, safe_branch, safe_loop}
use Rattle.xmp_paths.proofs.laws.safe_along_paths.Goals as goal

pub returns-clause-in_sequence : goal.returns-clause-in_sequence
returns-clause-in_sequence c = safe_sequence

pub returns-clause-in_branch : goal.returns-clause-in_branch
returns-clause-in_branch c = safe_branch

pub returns-clause-turns : goal.returns-clause-turns
returns-clause-turns c = safe_loop

pub returns-clause-fewer : goal.returns-clause-fewer
returns-clause-fewer c = safe_fewer
