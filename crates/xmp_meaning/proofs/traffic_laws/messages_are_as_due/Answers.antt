use Rattle.xmp_meaning.proofs.TrafficDue as lemmas
use Rattle.xmp_meaning.proofs.traffic_laws.messages_are_as_due.Goals as goal

pub returns : goal.returns
returns c = lemmas.traffic_as_due
