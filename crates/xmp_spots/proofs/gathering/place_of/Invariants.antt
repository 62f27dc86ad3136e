use Rattle.std.proofs.Common.{◌≡◌, true, take}
use Rattle.xmp_spots.proofs.PlaceLaws.{apart}
use Rattle.xmp_spots.proofs.gathering.place_of.Given as goal

-- none of those so far is of the same cells
abbrev pub invariant-spots : goal.invariant-spots
invariant-spots l = apart l.s (take l.k l.spots) ≡ true
