use Rattle.std.proofs.Common.{◌≡◌, ◌++◌, map, drop}
use Rattle.xmp_paths.specs.Copies.{change_joined}
use Rattle.xmp_paths.proofs.copies.Copies.joined.Given as goal

-- those made so far, and those of the changes that are left, are all
abbrev pub invariant-changes : goal.invariant-changes
invariant-changes l = l.both ++ map (change_joined l.self) (drop l.change-index l.changes) ≡ map (change_joined l.self) l.changes
