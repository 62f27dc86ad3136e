use Rattle.std.proofs.Common.{◌≡◌, ℕ, drop}
use Rattle.xmp_paths.specs.Copies.{set_of, add_at, Returns}
use Rattle.xmp_paths.proofs.copies.Copies.add.Given as goal

-- the changes that are left make of the sets now what all make of those at the start
abbrev pub invariant-changes : goal.invariant-changes
invariant-changes l = record {
  sets : (object : ℕ) → add_at object l.changes (set_of l.initial.self object) ≡ add_at object (drop l.change-index l.changes) (set_of l.self object);
  returns : Returns l.initial.self l.self;
}
