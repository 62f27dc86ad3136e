use Rattle.xmp_flow.proofs.ReadLaws.{reads-const, reads-scalar, reads-cell, reads-binary, reads-both, reads-either, reads-choose, reads-convert, reads-call}
use Rattle.xmp_flow.proofs.laws.reads_of_forms.Goals as goal

pub returns-clause-constant : goal.returns-clause-constant
returns-clause-constant c = reads-const

pub returns-clause-scalar : goal.returns-clause-scalar
returns-clause-scalar c = reads-scalar

pub returns-clause-cell : goal.returns-clause-cell
returns-clause-cell c = reads-cell

pub returns-clause-binary : goal.returns-clause-binary
returns-clause-binary c = reads-binary

pub returns-clause-both : goal.returns-clause-both
returns-clause-both c = reads-both

pub returns-clause-either : goal.returns-clause-either
returns-clause-either c = reads-either

pub returns-clause-choice : goal.returns-clause-choice
returns-clause-choice c = reads-choose

pub returns-clause-conversion : goal.returns-clause-conversion
returns-clause-conversion c = reads-convert

pub returns-clause-call : goal.returns-clause-call
returns-clause-call c = reads-call
