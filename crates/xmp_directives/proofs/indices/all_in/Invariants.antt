use Rattle.std.proofs.Common.{◌≡◌, drop}
use Rattle.std.specs.List.{list_all}
use Rattle.xmp_prog.specs.Numbers.{is_in}
use Rattle.xmp_directives.proofs.indices.all_in.Given as goal

-- what is left to do from here gives what the whole gives
abbrev pub invariant-slots : goal.invariant-slots
invariant-slots l = list_all (is_in l.names) l.fn.slots ≡ list_all (is_in l.names) (drop l.slot-index l.slots)
