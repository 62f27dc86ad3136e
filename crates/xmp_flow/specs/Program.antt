-- The plan of a program, and the rules of the phase Flow that break in it. Source: this project.
use Rattle.std.specs.Prelude.{false, None}
use Rattle.xmp_base.specs.declared.refusal.Phase.TheVariants as phase
use Rattle.xmp_base.specs.declared.refusal.Refusal.{Refusal}
use Rattle.xmp_paths.specs.Plans.{Plan}
use Rattle.xmp_paths.specs.Rules.{Breaks, in_phase}
use Rattle.xmp_paths.specs.declared.event.Event.{Event}
use Rattle.xmp_prog.specs.declared.parts.ProgParts.{ProgParts}
use Rattle.xmp_loops.specs.Objects.{all_nodes}
use Rattle.xmp_loops.specs.Loopers.{function_loops}
use Rattle.xmp_flow.specs.Setting.{Setting}
use Rattle.xmp_flow.specs.Statements.{events_of}
use Rattle.xmp_loops.specs.declared.role.Role.TheVariants.{Shared}

-- the body of main: all nodes execute it
abbrev pub outermost : ProgParts → Setting
outermost p = record {
  program = p;
  nodes = all_nodes p;
  inside = false;
  over = None;
  roles = λ slot. Shared;
  written = λ array. false;
  loops = function_loops p;
  moving = false;
}

abbrev pub plan_of_program : ProgParts → Plan Event
plan_of_program p = events_of p.body (outermost p)

-- the refusals of the phase Flow
abbrev pub FlowBreaks : ProgParts → Refusal → Type 0
FlowBreaks p = in_phase phase.Flow (Breaks (plan_of_program p))
