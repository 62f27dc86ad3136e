use Rattle.std.proofs.Common.{◌≡◌, ◌-◌, drop, length}
use Rattle.xmp_names.specs.Walk.{each, each_after}
use Rattle.xmp_names.specs.Lists.{parts}
use Rattle.xmp_directives.specs.Directives.{piece_of}
use Rattle.xmp_directives.proofs.directives.pieces_of.Given as goal

-- what is left to do from here gives what the whole gives
abbrev pub invariant-list : goal.invariant-list
invariant-list l = each (piece_of l.written) (parts l.list) l.fn.world ≡ each_after (piece_of l.written) l.done (drop (length l.done) (parts l.list)) l.world

abbrev pub decreases-list : goal.decreases-list
decreases-list l = length (parts l.list) - length l.done
