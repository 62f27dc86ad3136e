-- The events of the statements that hold no statement: one line a form.
-- Source: this project, after the bcast, reflect, barrier and gmove of XcalableMP 1.4.
use Rattle.std.specs.Prelude.{ℕ, not, ◌&&◌, ◌||◌, List, [], ◌∷◌, ◌++◌, map, Option, Some, None, is_some}
use Rattle.xmp_base.specs.declared.place.Place.{Place}
use Rattle.xmp_paths.specs.Plans.{Plan, skip, emit, in_order}
use Rattle.xmp_paths.specs.declared.event.Event.{Event}
use Rattle.xmp_paths.specs.declared.event.Event.TheVariants.{Read, Mark}
use Rattle.xmp_map.specs.declared.grid.NodeSet.{NodeSet}
use Rattle.xmp_prog.specs.declared.expressions.Expr.{Expr}
use Rattle.xmp_prog.specs.declared.expressions.Access.{Access}
use Rattle.xmp_prog.specs.declared.parts.Home.{Home}
use Rattle.xmp_prog.specs.declared.parts.Home.TheVariants as home
use Rattle.xmp_prog.specs.declared.statements.Compound.{Compound}
use Rattle.xmp_prog.specs.declared.statements.Name.{Name}
use Rattle.xmp_prog.specs.declared.statements.Number.{Number}
use Rattle.xmp_prog.specs.declared.statements.Part.{Part}
use Rattle.xmp_prog.specs.declared.statements.Part.TheVariants as part
use Rattle.xmp_prog.specs.declared.statements.MoveSide.{MoveSide}
use Rattle.xmp_prog.specs.declared.statements.MoveSide.TheVariants as side
use Rattle.xmp_prog.specs.declared.statements.Target.{Target}
use Rattle.xmp_prog.specs.declared.statements.Target.TheVariants as target
use Rattle.xmp_prog.specs.declared.statements.Plain.{Plain}
use Rattle.xmp_prog.specs.declared.statements.Plain.TheVariants as plain
use Rattle.xmp_loops.specs.Objects.{scalar_object, array_object, nodes_in, all_nodes}
use Rattle.xmp_flow.specs.Setting.{Setting, others, is_alone, is_first_alone, in_move, wrong_where, reads_scalar, assigned, is_reduced, stale_on_all, current_on_all}
use Rattle.xmp_flow.specs.Elements.{home_of, element_read, element_write}
use Rattle.xmp_flow.specs.Reads.{reads_of, reads_of_all, reads_of_option, subscript_reads}
use Rattle.xmp_loops.specs.Forms.{assignment_form}
use Rattle.xmp_loops.specs.Bounds.{is_number}
use Rattle.xmp_loops.specs.declared.role.Role.{Role}
use Rattle.xmp_loops.specs.declared.role.Role.TheVariants.{Reduced}

-- ---- assignments

-- a scalar is assigned, and may not be a reduction variable
abbrev pub scalar_assigned : Setting → ℕ → Place → List (Plan Event)
scalar_assigned s slot at = wrong_where (is_reduced (s.roles slot)) 5 at ∷ assigned s slot ∷ []

-- the target of a compound assignment is read
abbrev pub old_scalar : Setting → ℕ → Place → Option Compound → Plan Event
old_scalar s slot at None = skip
old_scalar s slot at (Some c) = reads_scalar s slot at

abbrev pub old_element : Setting → Access → Option Compound → Plan Event
old_element s a None = skip
old_element s a (Some c) = element_read s a.array a.subscripts a.at

-- an assignment to a scalar that isn't a reduction form
abbrev pub set_events : Setting → ℕ → Place → Option Compound → Expr → Plan Event
set_events s slot at c value = in_order (old_scalar s slot at c ∷ reads_of value s ∷ scalar_assigned s slot at)

-- a reduction form reads its expressions alone
abbrev pub in_form : Setting → Plan Event → Option (List Expr) → Plan Event
in_form s beside None = beside
in_form s beside (Some es) = in_order (reads_of_all es s)

-- the form of an assignment to a reduction variable
abbrev pub form_of_set : Setting → ℕ → Place → Option Compound → Expr → Role → Option (List Expr)
form_of_set s slot at c value (Reduced r) = assignment_form s.program slot r at c value
form_of_set s slot at c value _ = None

abbrev pub assignment_events : Setting → Option Compound → Expr → Target → Plan Event
assignment_events s c value (target.Scalar slot at) =
    in_form s (set_events s slot at c value) (form_of_set s slot at c value (s.roles slot))
assignment_events s c value (target.Cell a) =
    in_order (subscript_reads a s ++ old_element s a c ∷ reads_of value s ∷ element_write s a.array a.subscripts a.at ∷ [])

-- `scanf`: the target is out of date on the nodes that don't execute it
abbrev pub scanned : Setting → Target → List (Plan Event)
scanned s (target.Scalar slot at) =
    wrong_where (is_reduced (s.roles slot)) 5 at ∷ emit (Mark (scalar_object slot) 0 (others s)) ∷ []
scanned s (target.Cell a) = subscript_reads a s ++ element_write s a.array a.subscripts a.at ∷ []

-- ---- directives

-- the shadow of a distributed array is current on all nodes
abbrev pub reflected_at : Setting → ℕ → Option Home → Plan Event
reflected_at s array (Some (home.Spread template map)) = current_on_all s (array_object array)
reflected_at s array _ = skip

abbrev pub reflected : Setting → Name → Plan Event
reflected s a = reflected_at s a.number (home_of s a.number)

-- a scalar is read at the source, and current on all nodes then
abbrev pub cast : Setting → NodeSet → Name → Plan Event
cast s from v = in_order (emit (Read (scalar_object v.number) (nodes_in s.program.grid from) 11 v.at) ∷ current_on_all s (scalar_object v.number) ∷ [])

-- a number of a gmove
abbrev pub number_events : Setting → Number → Plan Event
number_events s n = in_order (reads_of n.value (in_move s) ∷ wrong_where (not (is_number n.value)) 12 n.at ∷ [])

abbrev pub part_events : Setting → Part → Plan Event
part_events s (part.One n) = number_events s n
part_events s (part.Many base length step) = in_order (map (number_events s) (base ∷ length ∷ step ∷ []))

abbrev pub side_events : Setting → MoveSide → Plan Event
side_events s (side.Scalar name) = skip
side_events s (side.Array name parts) = in_order (map (part_events s) parts)

-- a source that isn't distributed is read on all nodes
abbrev pub source_at : Setting → Name → Option Home → Plan Event
source_at s a (Some home.Copy) = emit (Read (array_object a.number) (all_nodes s.program) 1 a.at)
source_at s a _ = skip

abbrev pub source_events : Setting → MoveSide → Plan Event
source_events s (side.Scalar v) = emit (Read (scalar_object v.number) (all_nodes s.program) 1 v.at)
source_events s (side.Array a parts) = source_at s a (home_of s a.number)

-- a scalar target is current on all nodes, and the shadow of a distributed one is out of date on all
abbrev pub moved_at : Setting → Name → Option Home → Plan Event
moved_at s a (Some home.Copy) = wrong_where (is_some s.over) 6 a.at
moved_at s a (Some (home.Spread template map)) = stale_on_all s (array_object a.number)
moved_at s a _ = skip

abbrev pub moved : Setting → MoveSide → Plan Event
moved s (side.Scalar v) = current_on_all s (scalar_object v.number)
moved s (side.Array a parts) = moved_at s a (home_of s a.number)

-- a gmove: the numbers of its sides, its source, and its target
abbrev pub plan_of_gmove : Setting → MoveSide → MoveSide → Place → Plan Event
plan_of_gmove s to from at =
    in_order (wrong_where s.inside 10 at ∷ side_events s to ∷ side_events s from ∷ source_events s from ∷ moved s to ∷ [])

-- ---- all forms

abbrev pub plain_events : Plain → Setting → Plan Event
plain_events (plain.Declare slot value at) s = in_order (reads_of_option value s ∷ scalar_assigned s slot at)
plain_events (plain.Set to c value) s = assignment_events s c value to
plain_events (plain.Return value) s = reads_of value s
plain_events (plain.Call function arguments at) s =
    in_order (reads_of_all arguments s ++ wrong_where (s.inside && s.loops function) 9 at ∷ [])
plain_events (plain.Print format arguments at) s =
    in_order (reads_of_all arguments s ++ wrong_where (is_some s.over || not (is_alone s)) 7 at ∷ [])
plain_events (plain.Scan to at) s = in_order (scanned s to ++ wrong_where (is_some s.over || not (is_first_alone s)) 8 at ∷ [])
plain_events (plain.Sync status at) s = in_order (scalar_assigned s status.number status.at)
plain_events (plain.Reflect arrays at) s = in_order (wrong_where s.inside 10 at ∷ map (reflected s) arrays)
plain_events (plain.Barrier at) s = wrong_where s.inside 10 at
plain_events (plain.Cast variables from at) s = in_order (wrong_where s.inside 10 at ∷ map (cast s from) variables)
plain_events (plain.Gmove to from at) s = plan_of_gmove s to from at
