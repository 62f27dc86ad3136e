use Rattle.xmp_drive.proofs.OneProgram as lemmas
use Rattle.xmp_drive.proofs.laws.one_program.Goals as goal

pub returns : goal.returns
returns c = lemmas.one_program c.one_source_tree.ensures
