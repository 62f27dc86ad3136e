use Rattle.xmp_meaning_laws.proofs.LocalCells as lemmas
use Rattle.xmp_meaning_laws.proofs.cell_laws.statements_are_local_by_cells.Goals as goal

pub returns : goal.returns
returns c start cx s = lemmas.local_by_cells _ cx s
