use Rattle.xmp_world.proofs.RowLaws.{read_back}
use Rattle.xmp_world.proofs.laws.rows_are_read_back.Goals as goal

pub returns : goal.returns
returns c = read_back
