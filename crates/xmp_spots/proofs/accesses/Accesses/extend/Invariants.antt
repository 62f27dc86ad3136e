use Rattle.std.proofs.Common.{◌≡◌, ◌++◌, reverse, length}
use Rattle.xmp_spots.proofs.accesses.Accesses.extend.Given as goal

abbrev pub invariant-more : goal.invariant-more
invariant-more l = l.self ++ reverse l.more ≡ l.initial.self ++ reverse l.initial.more

abbrev pub decreases-more : goal.decreases-more
decreases-more l = length l.more
