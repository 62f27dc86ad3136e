use Rattle.std.proofs.Common.{◌≡◌, ◌++◌, map, take}
use Rattle.xmp_move.specs.Stores.{packed}
use Rattle.xmp_machine.proofs.saying.push_slots.Given as goal

abbrev pub invariant-variables : goal.invariant-variables
invariant-variables l = l.words ≡ l.initial.words ++ packed l.store (map (λ r. r.slot) (take l.r-index l.reduced))
