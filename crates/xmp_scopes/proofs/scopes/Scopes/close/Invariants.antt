use Rattle.std.proofs.Common.{◌≡◌, length, drop, reverse}
use Rattle.xmp_scopes.specs.Table.{visible}
use Rattle.xmp_scopes.specs.Log.{steps_of, scopes_of, held, Hides, HavePlaces}
use Rattle.xmp_scopes.specs.Names.{Name}
use Rattle.xmp_scopes.proofs.scopes.Scopes.close.Given as goal

-- the table agrees with the log, and what was popped were declarations of the innermost scope
abbrev pub invariant-steps : goal.invariant-steps
invariant-steps g l = record {
  names : (n : Name) → visible n l.self-inside.current ≡ held n (steps_of l.self-inside.current (reverse l.self-inside.steps.items));
  hides : Hides (steps_of l.self-inside.current (reverse l.self-inside.steps.items));
  places : HavePlaces l.self-inside.current (reverse l.self-inside.steps.items);
  depth : l.self-inside.depth ≡ l.initial.self-inside.depth;
  scope : drop 1 (scopes_of (steps_of l.self-inside.current (reverse l.self-inside.steps.items))) ≡ drop 1 (scopes_of (steps_of l.initial.self-inside.current (reverse l.initial.self-inside.steps.items)));
}

abbrev pub decreases-steps : goal.decreases-steps
decreases-steps g l = length l.self-inside.steps.items
