use Rattle.std.proofs.Common.{◌≡◌, drop}
use Rattle.std.specs.Prelude.{◌==◌}
use Rattle.std.specs.List.{list_any}
use Rattle.xmp_machine.proofs.reducing.has_slot.Given as goal

-- what is left to do from here gives what the whole gives
abbrev pub invariant-variables : goal.invariant-variables
invariant-variables l = list_any (λ r. r.slot == l.slot) l.fn.reduced ≡ list_any (λ r. r.slot == l.slot) (drop l.r-index l.reduced)
