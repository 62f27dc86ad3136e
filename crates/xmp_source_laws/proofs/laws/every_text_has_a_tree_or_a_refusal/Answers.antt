use Rattle.xmp_source_laws.proofs.EverySource as lemmas
use Rattle.xmp_source_laws.proofs.laws.every_text_has_a_tree_or_a_refusal.Goals as goal

pub returns : goal.returns
returns c = lemmas.every_text
