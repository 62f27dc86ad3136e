use Rattle.xmp_move.proofs.Assigning.{gmoves_arrays, aims_are_pairs, rows_are_kept, plans_are_good, plans_are_of_arrays}
use Rattle.xmp_move.proofs.laws.gmoves_are_whole.Goals as goal

pub returns : goal.returns
returns c = record { arrays = gmoves_arrays; pairs = aims_are_pairs; rows = rows_are_kept; good = plans_are_good; over = plans_are_of_arrays }
