use Rattle.xmp_meaning.proofs.TenTurns as lemmas
use Rattle.xmp_meaning.proofs.rows.ten_turns_take_ten_steps.Goals as goal

pub returns : goal.returns
returns c = record { ten = lemmas.with_ten_steps; nine = lemmas.with_nine_steps }
