use Rattle.std.proofs.Common.{ℕ, ◌≡◌}
use Rattle.xmp_steps.specs.Machine.{Comes, Is, left, within}
use Rattle.xmp_instr.specs.Effects.{next}
use Rattle.xmp_code.specs.States.{node_of}
use Rattle.xmp_code.specs.Fitting.{StateFits}
use Rattle.xmp_code.proofs.state.State.run_within.Given as goal

abbrev pub invariant-steps : goal.invariant-steps
invariant-steps g l = record {
  state : StateFits l.code l.self;
  found : within (next l.code l.input) g.steps (node_of l.self) ≡ within (next l.code l.input) g.steps (node_of l.fn.self);
  came : Comes (next l.code l.input) (Is (node_of l.self)) (node_of l.fn.self);
  muted : l.self.data.muted ≡ l.fn.self.data.muted;
}

abbrev pub decreases-steps : goal.decreases-steps
decreases-steps g l = left (next l.code l.input) g.steps (node_of l.self)
