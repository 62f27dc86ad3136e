use Rattle.std.proofs.Common.{true, false}
use Rattle.xmp_move.specs.Numbers.{target_chosen, source_chosen}
use Rattle.xmp_move.specs.Faults.{first_of, side_fault, lengths_fault}
use Rattle.xmp_move.proofs.PairsInside.{assigns, first_none}
use Rattle.xmp_move.proofs.laws.gmoves_assign.Goals as goal

pub returns : goal.returns
returns c target source ty args none long =
    assigns target.extents (target_chosen target args) (source_chosen target source args) long
    (first_none (side_fault false target.extents (target_chosen target args))
    (first_of (side_fault true source.extents (source_chosen target source args)) (lengths_fault (target_chosen target args) (source_chosen target source args))) none)
