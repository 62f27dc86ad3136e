use Rattle.std.proofs.Common.{◌≡◌, drop}
use Rattle.xmp_move.specs.Stores.{write_all}
use Rattle.xmp_machine.proofs.heard.write_all.Given as goal

-- what is left to do from here gives what the whole gives
abbrev pub invariant-slots : goal.invariant-slots
invariant-slots l = write_all l.initial.words l.slots l.said ≡ write_all l.words (drop l.k l.slots) (drop l.k l.said)
