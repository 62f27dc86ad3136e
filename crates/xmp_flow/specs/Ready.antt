-- What the code has ready for the body of a loop directive, and the parts of the directive's events by it.
use Rattle.std.specs.Prelude.{ℕ, ◌≡◌, List, [], ◌∷◌, ◌++◌, map}
use Rattle.xmp_paths.specs.Plans.{Plan, in_order}
use Rattle.xmp_paths.specs.declared.event.Event.{Event}
use Rattle.xmp_prog.specs.Numbers.{is_in}
use Rattle.xmp_prog.specs.Statements.{indices_of}
use Rattle.xmp_prog.specs.declared.statements.LoopDirective.{LoopDirective}
use Rattle.xmp_prog.specs.declared.statements.Stmt.{Stmt}
use Rattle.xmp_meaning.specs.Writes.{scalars_written, arrays_written}
use Rattle.xmp_loops.specs.Objects.{scalar_object}
use Rattle.xmp_flow.specs.Setting.{Setting, wrong_where, stale_on_all, current_on_all}
use Rattle.xmp_flow.specs.LoopEvents.{at_bounds, nest_events, reduction_events, shadow_stale}
use Rattle.xmp_loops.specs.Roles.{before_iterations, role_in, scalars_of, writes_array}
use Rattle.xmp_loops.specs.Tables.{role_at}
use Rattle.xmp_flow.specs.declared.ready.Ready.{Ready}

-- the lists and tables of the code are those of the directive round the body
pub record IsReady (r : Ready) (d : LoopDirective) (body : Stmt) : Type 0 where
  pub scalars : r.scalars ≡ scalars_written body
  pub arrays : r.arrays ≡ arrays_written body
  pub roles : (n : ℕ) → role_at r.roles n ≡ role_in d body n
  pub before : (n : ℕ) → role_at r.before n ≡ before_iterations (role_in d body n)
  pub written : (n : ℕ) → is_in r.written n ≡ writes_array body n

-- an iteration whose own scalars are these, and what the directive leaves then
abbrev pub turn_of : Setting → List ℕ → Plan Event → Plan Event
turn_of s own body = in_order (map (λ slot. stale_on_all s (scalar_object slot)) own ++ body ∷ [])

abbrev pub ends_with : Setting → LoopDirective → (own arrays : List ℕ) → List (Plan Event)
ends_with s d own arrays =
    map (λ slot. stale_on_all s (scalar_object slot)) (own ++ indices_of d.nest)
    ++ (map (λ r. current_on_all s (scalar_object r.variable.number)) d.reductions
    ++ map (shadow_stale s) arrays)

-- what stands before the iterations
abbrev pub before_turns : Setting → LoopDirective → Stmt → List (Plan Event)
before_turns s d body =
    wrong_where s.inside 10 d.at
    ∷ in_order (nest_events (at_bounds d body s) [] (scalars_of d body) d.nest)
    ∷ in_order (reduction_events s [] d.reductions)
    ∷ []
