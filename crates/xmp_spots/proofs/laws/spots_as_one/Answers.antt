use Rattle.xmp_spots.proofs.GatheredLaws.{gathered_clash}
use Rattle.xmp_spots.proofs.laws.spots_as_one.Goals as goal

pub returns : goal.returns
returns c = gathered_clash
