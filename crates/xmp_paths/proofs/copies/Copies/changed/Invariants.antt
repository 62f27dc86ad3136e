use Rattle.std.proofs.Common.{◌≡◌, ◌++◌, map, drop}
use Rattle.xmp_paths.specs.Copies.{change_now}
use Rattle.xmp_paths.proofs.copies.Copies.changed.Given as goal

-- those made so far, and those of the entries that are left, are all
abbrev pub invariant-entries : goal.invariant-entries
invariant-entries l = l.changes ++ map (change_now l.self) (drop l.entry-index l.entry-items) ≡ map (change_now l.self) l.entry-items
