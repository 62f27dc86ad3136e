use Rattle.std.proofs.Common.{rules}
use Rattle.xmp_spmd.proofs.Rows.{same_words}
use Rattle.xmp_spmd.proofs.ending.output.Goals as goal

pub returns-in-Some-clause-words : goal.returns-in-Some-clause-words
returns-in-Some-clause-words c = same_words {s = c.in-Some.state.now} {rest = c.in-Some._rest.now} (search rules) c.take_output.ensures.state
