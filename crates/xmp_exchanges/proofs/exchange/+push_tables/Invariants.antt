use Rattle.std.proofs.Common.{length}
use Rattle.xmp_exchanges.proofs.exchange.+push_tables.Given as goal

abbrev pub decreases-push_tables : goal.decreases-push_tables
decreases-push_tables l = length l.plans.now
