use Rattle.std.proofs.Common.{◌≡◌, drop}
use Rattle.xmp_races.specs.Footprints.{loop_of}
use Rattle.xmp_races.proofs.loops.loop_of.Given as goal

-- the loops that are left decide
abbrev pub invariant-loops : goal.invariant-loops
invariant-loops l = loop_of l.loops l.slot ≡ loop_of (drop l.l-index l.loops) l.slot
