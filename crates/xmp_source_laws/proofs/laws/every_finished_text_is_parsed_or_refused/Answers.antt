use Rattle.xmp_source_laws.proofs.EverySource as lemmas
use Rattle.xmp_source_laws.proofs.laws.every_finished_text_is_parsed_or_refused.Goals as goal

pub returns : goal.returns
returns c = lemmas.every_finished_text
