use Rattle.xmp_meaning.proofs.Sequences.{associative, statements_associate}
use Rattle.xmp_meaning.proofs.laws.sequences_associate.Goals as goal

pub returns : goal.returns
returns c start = record { parts = associative _ _ _ _; statements = statements_associate _ }
