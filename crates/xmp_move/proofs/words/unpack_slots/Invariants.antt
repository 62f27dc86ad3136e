use Rattle.std.proofs.Common.{◌≡◌, take, map}
use Rattle.xmp_num.specs.Arithmetic.{wrap}
use Rattle.xmp_move.specs.Stores.{write_all}
use Rattle.xmp_move.proofs.words.unpack_slots.Given as goal

abbrev pub invariant-loop-k : goal.invariant-loop-k
invariant-loop-k l = l.store ≡ write_all l.initial.store (take l.k l.slots) (map (wrap l.ty) (take l.k l.words))
