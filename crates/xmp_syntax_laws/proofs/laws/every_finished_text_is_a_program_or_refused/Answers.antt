use Rattle.xmp_syntax_laws.proofs.EveryText as lemmas
use Rattle.xmp_syntax_laws.proofs.laws.every_finished_text_is_a_program_or_refused.Goals as goal

pub returns : goal.returns
returns c = lemmas.every_text
