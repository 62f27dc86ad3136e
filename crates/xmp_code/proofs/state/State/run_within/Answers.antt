use Rattle.std.proofs.Common.{◌≡◌, ◌∙◌, refl, sym, ap, subst, Option, Some, None}
use Rattle.xmp_steps.specs.Machine.{Goes, Now, Stops, within}
use Rattle.xmp_steps.specs.Stops.{step_on}
use Rattle.xmp_instr.specs.Effects.{next}
use Rattle.xmp_code.specs.States.{node_of}
use Rattle.xmp_code.specs.Running.{Advances}
use Rattle.xmp_code.proofs.Stepping.{comes_then, stands, unstuck}
use Rattle.xmp_code.proofs.state.State.run_within.Goals as goal

pub steps-init : goal.steps-init
steps-init g c = record { state = c.requires.1.0; found = refl; came = Now refl; muted = refl }

pub advance-requires-clause-unstuck : goal.advance-requires-clause-unstuck
advance-requires-clause-unstuck g c =
    unstuck (next c.args.code.now c.args.input.now) g.steps (node_of c.steps.self) _ c.steps.invariant.found c.requires.1.1

pub returns-in-Ok-Some-clause-stop : goal.returns-in-Ok-Some-clause-stop
returns-in-Ok-Some-clause-stop g c =
    let h : Advances c.args.code.now c.args.input.now c.steps.self (Some c.in-Ok-Some.stop) c.advance.new.self =
    subst (λ o. Advances c.args.code.now c.args.input.now c.steps.self o c.advance.new.self) c.in-Ok-Some.field-0-is c.in-Ok-Some.ensures.ok in
    stands (next c.args.code.now c.args.input.now) g.steps (node_of c.steps.self) (node_of c.advance.new.self) c.in-Ok-Some.stop _ c.steps.invariant.found h.0 (ap node_of h.1)

pub steps-smaller : goal.steps-smaller
steps-smaller g c =
    let h : Advances c.args.code.now c.args.input.now c.steps.self None c.advance.new.self =
    subst (λ o. Advances c.args.code.now c.args.input.now c.steps.self o c.advance.new.self) c.in-Ok-None.field-0-is c.in-Ok-None.ensures.ok in
    (step_on (next c.args.code.now c.args.input.now) g.steps (node_of c.steps.self) (node_of c.advance.new.self) _ c.steps.invariant.found c.requires.1.1 h).1

pub steps-preserved : goal.steps-preserved
steps-preserved g c =
    let h : Advances c.args.code.now c.args.input.now c.steps.self None c.advance.new.self =
    subst (λ o. Advances c.args.code.now c.args.input.now c.steps.self o c.advance.new.self) c.in-Ok-None.field-0-is c.in-Ok-None.ensures.ok in
    record {
      state = c.in-Ok-None.ensures.fits;
      found = (step_on (next c.args.code.now c.args.input.now) g.steps (node_of c.steps.self) (node_of c.advance.new.self) _ c.steps.invariant.found c.requires.1.1 h).0;
      came = comes_then (next c.args.code.now c.args.input.now) (node_of c.steps.self) (node_of c.advance.new.self) (node_of c.args.self.now) c.steps.invariant.came h;
      muted = c.in-Ok-None.ensures.muted ∙ c.steps.invariant.muted;
    }
