-- What happens in every statement of a coarray program: a fold, one line a form. Source: this project, after XcalableMP
-- 1.4, coarrays, and the statements of ISO C11, 6.8.
use Rattle.std.specs.Prelude.{true, false, List, [], ◌∷◌, ◌++◌, map}
use Rattle.xmp_base.specs.declared.place.Place.{Place}
use Rattle.xmp_paths.specs.Plans.{Plan, emit, branch, loop}
use Rattle.xmp_prog.specs.declared.expressions.Expr.{Expr}
use Rattle.xmp_prog.specs.declared.statements.Target.{Target}
use Rattle.xmp_prog.specs.declared.statements.Target.TheVariants as target
use Rattle.xmp_prog.specs.declared.statements.LoopHead.{LoopHead}
use Rattle.xmp_prog.specs.declared.statements.LoopDirective.{LoopDirective}
use Rattle.xmp_prog.specs.declared.statements.Plain.{Plain}
use Rattle.xmp_prog.specs.declared.statements.Plain.TheVariants as plain
use Rattle.xmp_prog.specs.declared.statements.Stmt.{Stmt}
use Rattle.xmp_prog.specs.declared.statements.Stmt.TheOpen.{Stmt-F, Task-F}
use Rattle.xmp_prog.specs.declared.statements.Stmt.TheFolds.{fold-Stmt}
use Rattle.xmp_spots.specs.declared.events.Event.{Event}
use Rattle.xmp_spots.specs.declared.events.Event.TheVariants.{Sync, Wrong}
use Rattle.xmp_spots.specs.Courses.{in_sequence}
use Rattle.xmp_races.specs.Setting.{Setting, where_chosen, within, wrong_where}
use Rattle.xmp_races.specs.Accesses.{access_events, events_of, events_of_all, events_of_option, parts_of}

-- ---- statements that hold no statement

-- what happens in the parts of a target, and where it is written
abbrev pub target_parts : Setting → Target → List (Plan Event)
target_parts s (target.Scalar slot at) = []
target_parts s (target.Cell a) = parts_of a s

abbrev pub target_written : Setting → Target → List (Plan Event)
target_written s (target.Scalar slot at) = []
target_written s (target.Cell a) = access_events s true a

-- A compound assignment writes what it reads. A call of a function with an uncounted loop breaks rule C4, `scanf` and
-- each directive C5. What stands in a gmove is no access.
abbrev pub plain_events : Plain → Setting → Plan Event
plain_events (plain.Declare slot value at) s = in_sequence (events_of_option value s)
plain_events (plain.Set to compound value) s = in_sequence (target_parts s to ++ (events_of value s ∷ target_written s to))
plain_events (plain.Return value) s = events_of value s
plain_events (plain.Call function arguments at) s =
    in_sequence (events_of_all arguments s ++ wrong_where (s.looping function) 4 at ∷ [])
plain_events (plain.Print format arguments at) s = in_sequence (events_of_all arguments s)
plain_events (plain.Scan to at) s = in_sequence (target_parts s to ++ (emit (Wrong 5 at) ∷ target_written s to))
plain_events (plain.Sync status at) s = emit Sync
plain_events (plain.Reflect arrays at) s = emit (Wrong 5 at)
plain_events (plain.Barrier at) s = emit (Wrong 5 at)
plain_events (plain.Cast variables from at) s = emit (Wrong 5 at)
plain_events (plain.Gmove to from at) s = emit (Wrong 5 at)

-- ---- loops

-- an uncounted loop breaks rule C4: the condition before each turn, and once more
abbrev pub while_events : Expr → Plan Event → Place → Setting → Plan Event
while_events test turn at s =
    in_sequence (emit (Wrong 4 at) ∷ loop (in_sequence (events_of test s ∷ turn ∷ [])) ∷ events_of test s ∷ [])

-- a counted loop: its first bound, and its second before each turn and once more
abbrev pub counted_events : LoopHead → Plan Event → Setting → Plan Event
counted_events h turn s =
    in_sequence (events_of h.from s ∷ loop (in_sequence (events_of h.to s ∷ turn ∷ [])) ∷ events_of h.to s ∷ [])

-- the bounds of a nest, each where it stands, and where the body stands
abbrev pub nest_bounds : Setting → List LoopHead → List (Plan Event)
nest_bounds s [] = []
nest_bounds s (h ∷ hs) = events_of h.from s ∷ events_of h.to s ∷ nest_bounds (within s h) hs

abbrev pub in_nest : Setting → List LoopHead → Setting
in_nest s [] = s
in_nest s (h ∷ hs) = in_nest (within s h) hs

-- A loop directive breaks rule C5 at its word, which stands before all in it; its bounds and its body may happen any
-- number of times.
abbrev pub directive_events : LoopDirective → (Setting → Plan Event) → Setting → Plan Event
directive_events d body s =
    in_sequence (emit (Wrong 5 d.at) ∷ loop (in_sequence (nest_bounds s d.nest ++ body (in_nest s d.nest) ∷ [])) ∷ [])

-- ---- all forms

abbrev pub Told : Type 0
Told = Setting → Plan Event

abbrev pub stmt_step : Stmt-F Told Told → Told
stmt_step (Stmt-F.Plain p) s = plain_events p s
stmt_step (Stmt-F.Block all) s = in_sequence (map (λ x. x s) all)
stmt_step (Stmt-F.If test a b) s =
    in_sequence (events_of test s ∷ branch (a (where_chosen s test true)) (b (where_chosen s test false)) ∷ [])
stmt_step (Stmt-F.While test body at) s = while_events test (body s) at s
stmt_step (Stmt-F.Counted head body) s = counted_events head (body (within s head)) s
stmt_step (Stmt-F.Loop directive body) s = directive_events directive body s
stmt_step (Stmt-F.Tasks all at) s = in_sequence (emit (Wrong 5 at) ∷ map (λ x. x s) all)

-- each task breaks rule C5 too
abbrev pub task_step : Task-F Told Told → Told
task_step t s = in_sequence (emit (Wrong 5 t.at) ∷ t.body s ∷ [])

-- what happens in a statement where it stands
abbrev pub happens : Stmt → Setting → Plan Event
happens = fold-Stmt Told Told stmt_step task_step
