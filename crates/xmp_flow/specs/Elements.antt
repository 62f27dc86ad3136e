-- What happens where an element of an array is read or written. Source: this project.
use Rattle.std.specs.Prelude.{ℕ, ◌==◌, List, slice_get, Option, Some, None, if◌then◌else◌}
use Rattle.std.specs.List.{list_all}
use Rattle.std.specs.Option.{option_map}
use Rattle.xmp_base.specs.declared.place.Place.{Place}
use Rattle.xmp_paths.specs.Plans.{Plan, skip, emit}
use Rattle.xmp_paths.specs.declared.event.Event.{Event}
use Rattle.xmp_paths.specs.declared.event.Event.TheVariants.{Read, Wrong, Mark}
use Rattle.xmp_map.specs.declared.array_map.ArrayMap.{ArrayMap}
use Rattle.xmp_prog.specs.declared.expressions.Expr.{Expr}
use Rattle.xmp_prog.specs.declared.parts.Home.{Home}
use Rattle.xmp_prog.specs.declared.parts.Home.TheVariants as home
use Rattle.xmp_prog.specs.declared.statements.LoopDirective.{LoopDirective}
use Rattle.xmp_loops.specs.Objects.{array_object, all_nodes}
use Rattle.xmp_flow.specs.Setting.{Setting, others}
use Rattle.xmp_loops.specs.Offsets.{Offset, offsets_of, is_own, is_within}

-- where the cells of an array lie, if there is such an array
abbrev pub home_of : Setting → ℕ → Option Home
home_of s array = option_map (λ a. a.home) (slice_get s.program.arrays array)

-- An element at these offsets: of an array that the directive writes, every offset has to be 0; of another, an offset
-- that isn't 0 reads the shadow, which has to reach so far.
abbrev pub shadow_read : Setting → ℕ → Place → List Offset → Plan Event
shadow_read s array at os =
    if list_all is_within os then emit (Read (array_object array) (all_nodes s.program) 3 at) else emit (Wrong 3 at)

abbrev pub offset_events : Setting → ℕ → Place → Option (List Offset) → Plan Event
offset_events s array at None = emit (Wrong 2 at)
offset_events s array at (Some os) =
    if list_all is_own os then skip else (if s.written array then emit (Wrong 4 at) else shadow_read s array at os)

-- an element of an array over a template: it stands in a loop directive over that template, or in a gmove
abbrev pub spread_events : Setting → ℕ → ℕ → ArrayMap → List Expr → Place → Option LoopDirective → Plan Event
spread_events s array template map subscripts at None = emit (Wrong 2 at)
spread_events s array template map subscripts at (Some d) =
    if template == d.template then offset_events s array at (offsets_of d map subscripts) else emit (Wrong 2 at)

-- An element is read. Of an array without align that the loop directive writes no read is judged: its write breaks a rule.
abbrev pub read_at_home : Setting → ℕ → List Expr → Place → Option Home → Plan Event
read_at_home s array subscripts at (Some home.Copy) = if s.written array then skip else emit (Read (array_object array) s.nodes 1 at)
read_at_home s array subscripts at (Some (home.Spread template map)) =
    if s.moving then skip else spread_events s array template map subscripts at s.over
read_at_home s array subscripts at _ = skip

abbrev pub element_read : Setting → ℕ → List Expr → Place → Plan Event
element_read s array subscripts at = read_at_home s array subscripts at (home_of s array)

-- An element is written. An array without align is out of date then on the nodes that don't execute the statement, and no
-- loop directive may write one.
abbrev pub copy_written : Setting → ℕ → Place → Option LoopDirective → Plan Event
copy_written s array at None = emit (Mark (array_object array) 0 (others s))
copy_written s array at (Some d) = emit (Wrong 6 at)

abbrev pub write_at_home : Setting → ℕ → List Expr → Place → Option Home → Plan Event
write_at_home s array subscripts at (Some home.Copy) = copy_written s array at s.over
write_at_home s array subscripts at (Some (home.Spread template map)) = spread_events s array template map subscripts at s.over
write_at_home s array subscripts at _ = skip

abbrev pub element_write : Setting → ℕ → List Expr → Place → Plan Event
element_write s array subscripts at = write_at_home s array subscripts at (home_of s array)
