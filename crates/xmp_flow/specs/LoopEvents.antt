-- The events of a loop directive. Source: this project, after the loop construct of XcalableMP 1.4 and its reduction clause.
use Rattle.std.specs.Prelude.{ℕ, true, not, List, [], ◌∷◌, ◌++◌, map, Option, Some}
use Rattle.xmp_paths.specs.Plans.{Plan, skip, emit, loop, in_order}
use Rattle.xmp_paths.specs.declared.event.Event.{Event}
use Rattle.xmp_paths.specs.declared.event.Event.TheVariants.{Read}
use Rattle.xmp_prog.specs.Numbers.{is_in}
use Rattle.xmp_prog.specs.Statements.{indices_of}
use Rattle.xmp_prog.specs.declared.parts.Home.{Home}
use Rattle.xmp_prog.specs.declared.parts.Home.TheVariants as home
use Rattle.xmp_prog.specs.declared.statements.LoopHead.{LoopHead}
use Rattle.xmp_prog.specs.declared.statements.LoopDirective.{LoopDirective}
use Rattle.xmp_prog.specs.declared.statements.Reduction.{Reduction}
use Rattle.xmp_prog.specs.declared.statements.Stmt.{Stmt}
use Rattle.xmp_meaning.specs.Writes.{arrays_written}
use Rattle.xmp_loops.specs.Objects.{scalar_object, array_object, all_nodes}
use Rattle.xmp_flow.specs.Setting.{Setting, wrong_where, is_reduced, stale_on_all, current_on_all}
use Rattle.xmp_flow.specs.Elements.{home_of}
use Rattle.xmp_flow.specs.Reads.{reads_of}
use Rattle.xmp_loops.specs.Bounds.{is_bound}
use Rattle.xmp_loops.specs.Roles.{before_iterations, own_scalars, role_in, scalars_of, writes_array}

-- an iteration: all nodes may execute it
abbrev pub within : LoopDirective → Stmt → Setting → Setting
within d body s = record s {
  nodes = all_nodes s.program;
  inside = true;
  over = Some d;
  roles = role_in d body;
  written = writes_array body;
}

-- a bound of the nest: it is read before the iterations
abbrev pub at_bounds : LoopDirective → Stmt → Setting → Setting
at_bounds d body s = record (within d body s) { roles = λ slot. before_iterations (role_in d body slot) }

-- ---- before the iterations

-- the head of a loop of the nest, the indices of the loops round it apart: its bounds, and its index
abbrev pub head_events : Setting → (outer written : List ℕ) → LoopHead → Plan Event
head_events s outer written h = in_order (
    reads_of h.from s
    ∷ wrong_where (not (is_bound outer written h.from)) 12 h.from_at
    ∷ reads_of h.to s
    ∷ wrong_where (not (is_bound outer written h.to)) 12 h.to_at
    ∷ wrong_where (is_reduced (s.roles h.index.number)) 5 h.index.at
    ∷ [])

abbrev pub nest_events : Setting → (outer written : List ℕ) → List LoopHead → List (Plan Event)
nest_events s outer written [] = []
nest_events s outer written (h ∷ heads) = head_events s outer written h ∷ nest_events s (outer ++ h.index.number ∷ []) written heads

-- each reduction variable is read on all nodes, and named once
abbrev pub reduction_events : Setting → (before : List ℕ) → List Reduction → List (Plan Event)
reduction_events s before [] = []
reduction_events s before (r ∷ more) =
    emit (Read (scalar_object r.variable.number) (all_nodes s.program) 1 r.variable.at)
    ∷ wrong_where (is_in before r.variable.number) 5 r.variable.at
    ∷ reduction_events s (before ++ r.variable.number ∷ []) more

-- ---- the iterations, and behind them

-- each iteration begins with its own scalars out of date: it has to assign them before it reads them
abbrev pub iteration : Setting → LoopDirective → Stmt → (Setting → Plan Event) → Plan Event
iteration s d body events =
    in_order (map (λ slot. stale_on_all s (scalar_object slot)) (own_scalars d body) ++ events (within d body s) ∷ [])

-- the shadow of a distributed array is out of date on all nodes
abbrev pub shadow_stale_at : Setting → ℕ → Option Home → Plan Event
shadow_stale_at s array (Some (home.Spread template map)) = stale_on_all s (array_object array)
shadow_stale_at s array _ = skip

abbrev pub shadow_stale : Setting → ℕ → Plan Event
shadow_stale s array = shadow_stale_at s array (home_of s array)

-- what a loop directive leaves: own scalars and indices out of date, reduction variables current, shadows out of date
abbrev pub ends : Setting → LoopDirective → Stmt → List (Plan Event)
ends s d body =
    map (λ slot. stale_on_all s (scalar_object slot)) (own_scalars d body ++ indices_of d.nest)
    ++ (map (λ r. current_on_all s (scalar_object r.variable.number)) d.reductions
    ++ map (shadow_stale s) (arrays_written body))

-- a loop directive round a body with these events
abbrev pub loop_events : LoopDirective → Stmt → (Setting → Plan Event) → Setting → Plan Event
loop_events d body events s = in_order (
    wrong_where s.inside 10 d.at
    ∷ in_order (nest_events (at_bounds d body s) [] (scalars_of d body) d.nest)
    ∷ in_order (reduction_events s [] d.reductions)
    ∷ loop (iteration s d body events)
    ∷ in_order (ends s d body)
    ∷ [])
