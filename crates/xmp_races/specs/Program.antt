-- The rules of coarray programs that break in a program. Source: this project, after XcalableMP 1.4, coarrays.
use Rattle.std.specs.Prelude.{true, ◌⊎◌, [], ◌∷◌, ◌++◌, map, replicate}
use Rattle.xmp_base.specs.declared.refusal.Refusal.{Refusal}
use Rattle.xmp_paths.specs.Plans.{Plan}
use Rattle.xmp_prog.specs.Fits.{node_count}
use Rattle.xmp_prog.specs.declared.parts.ProgParts.{ProgParts}
use Rattle.xmp_loops.specs.Loopers.{function_loops}
use Rattle.xmp_spots.specs.declared.events.Event.{Event}
use Rattle.xmp_spots.specs.Courses.{in_sequence}
use Rattle.xmp_spots.specs.Variables.{image_variables}
use Rattle.xmp_spots.specs.PlanRaces.{BreaksIn}
use Rattle.xmp_races.specs.Setting.{Setting}
use Rattle.xmp_races.specs.Statements.{happens}
use Rattle.xmp_races.specs.Syncs.{BreaksAtStop, outermost_rounds, stops_of}

-- the body of main and of a function: all images come there
abbrev pub outermost : ProgParts → Setting
outermost p = record {
  program = p;
  count = node_count p;
  values = image_variables p;
  looping = function_loops p;
  counts = replicate (node_count p) true;
  loops = [];
}

-- The functions, called or not, in which nothing but rule C4 can break, and then main.
abbrev pub plan_of_program : ProgParts → Plan Event
plan_of_program p = in_sequence (map (λ f. happens f.body (outermost p)) p.functions ++ happens p.body (outermost p) ∷ [])

-- the refusals of coarray programs: rules C2 to C5 on the paths of the plan, and C1 at the syncs of main
abbrev pub CoarrayBreaks : ProgParts → Refusal → Type 0
CoarrayBreaks p r =
    BreaksIn (plan_of_program p) r ⊎ BreaksAtStop 0 (stops_of (node_count p) (image_variables p) p.body outermost_rounds) r
