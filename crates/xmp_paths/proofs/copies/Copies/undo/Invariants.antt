use Rattle.std.proofs.Common.{◌≡◌, ℕ, length, take}
use Rattle.xmp_paths.specs.Copies.{set_before}
use Rattle.xmp_paths.proofs.copies.Copies.undo.Given as goal

-- what there was before the changes stays
abbrev pub invariant-loop-self : goal.invariant-loop-self
invariant-loop-self l = record {
  sets : (object : ℕ) → set_before l.self l.to object ≡ set_before l.initial.self l.to object;
  trail : take l.to l.self.trail ≡ take l.to l.initial.self.trail;
}

abbrev pub decreases-loop-self : goal.decreases-loop-self
decreases-loop-self l = length l.self.trail
