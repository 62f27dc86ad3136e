use Rattle.xmp_meaning.proofs.CountedTurns as lemmas
use Rattle.xmp_meaning.proofs.laws.counted_turns.Goals as goal

pub returns : goal.returns
returns c start = lemmas.counted_turns _
