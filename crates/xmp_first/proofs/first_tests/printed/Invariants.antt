use Rattle.std.proofs.Common.{◌≡◌, take}
use Rattle.xmp_first.proofs.first_tests.printed.Given as goal

abbrev pub invariant-loop-item : goal.invariant-loop-item
invariant-loop-item l = l.value ≡ take l.item-index l.items
