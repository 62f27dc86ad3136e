use Rattle.xmp_ring.proofs.Entries.{stays-stopped}
use Rattle.xmp_ring.proofs.laws.after_stop.Goals as goal

pub returns : goal.returns
returns g c = stays-stopped c
