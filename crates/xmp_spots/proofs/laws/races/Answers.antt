use Rattle.xmp_spots.proofs.RaceLaws.{races_is}
use Rattle.xmp_spots.proofs.laws.races.Goals as goal

pub returns : goal.returns
returns c = races_is
