use Rattle.xmp_meaning_laws.proofs.Types.{expressions_lie, statements_lie, programs_lie}
use Rattle.xmp_meaning_laws.proofs.laws.values_lie.Goals as goal

pub returns : goal.returns
returns c start = record { expressions = expressions_lie _; statements = statements_lie _; programs = programs_lie _ }
