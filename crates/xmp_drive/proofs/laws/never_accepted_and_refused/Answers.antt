use Rattle.xmp_drive.proofs.Verdicts.{not_both}
use Rattle.xmp_drive.proofs.laws.never_accepted_and_refused.Goals as goal

pub returns : goal.returns
returns c = not_both c.one_source_tree.ensures c.never_tree_and_refused.ensures
