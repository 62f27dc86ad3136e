-- Reading marks nothing.
use Rattle.std.proofs.Common.{ℕ, Bool, true, false, List, Option, Some, None, if◌then◌else◌}
use Rattle.std.specs.List.{list_all}
use Rattle.xmp_base.specs.declared.place.Place.{Place}
use Rattle.xmp_paths.specs.Plans.{Plan, skip, emit}
use Rattle.xmp_paths.specs.declared.event.Event.{Event}
use Rattle.xmp_paths.specs.declared.event.Event.TheVariants.{Read, Wrong}
use Rattle.xmp_map.specs.declared.array_map.ArrayMap.{ArrayMap}
use Rattle.xmp_prog.specs.declared.expressions.Expr.{Expr}
use Rattle.xmp_prog.specs.declared.expressions.Access.{Access}
use Rattle.xmp_prog.specs.declared.parts.Home.{Home}
use Rattle.xmp_prog.specs.declared.parts.Home.TheVariants as home
use Rattle.xmp_prog.specs.declared.statements.LoopDirective.{LoopDirective}
use Rattle.xmp_loops.specs.Objects.{array_object, scalar_object, all_nodes}
use Rattle.xmp_loops.specs.Offsets.{Offset, offsets_of, is_own, is_within}
use Rattle.xmp_loops.specs.declared.role.Role.{Role}
use Rattle.xmp_loops.specs.declared.role.Role.TheVariants.{Shared, Index, Reduced, Own}
use Rattle.xmp_flow.specs.Setting.{Setting, wrong_where, read_scalar}
use Rattle.xmp_flow.specs.Elements.{home_of, shadow_read, offset_events, spread_events, read_at_home, element_read}
use Rattle.xmp_flow.specs.Reads.{reads_of, subscript_reads}
use Rattle.xmp_nodes.proofs.MetEvents.{EachEvent, EachOf, NoMark, each_emit, each_skip, unmarked}
use Rattle.xmp_nodes.proofs.ReadEvents.{expr_each, access_each}
use Rattle.xmp_nodes.proofs.Leaves.{ReadsKeep}

module _ (s : Setting) where
  pub role_unmarked : (slot : ℕ) (at : Place) (r : Role) → EachEvent NoMark (read_scalar s slot at r)
  role_unmarked slot at Shared = each_emit NoMark (Read (scalar_object slot) s.nodes 1 at) tt
  role_unmarked slot at Index = each_skip NoMark
  role_unmarked slot at (Reduced op) = each_emit NoMark (Wrong 5 at) tt
  role_unmarked slot at Own = each_emit NoMark (Read (scalar_object slot) s.nodes 5 at) tt

  if_unmarked : (b : Bool) (p q : Plan Event) → EachEvent NoMark p → EachEvent NoMark q → EachEvent NoMark (if b then p else q)
  if_unmarked true p q h i = h
  if_unmarked false p q h i = i

  shadow_unmarked : (array : ℕ) (at : Place) (os : List Offset) → EachEvent NoMark (shadow_read s array at os)
  shadow_unmarked array at os =
      if_unmarked (list_all is_within os) (emit (Read (array_object array) (all_nodes s.program) 3 at)) (emit (Wrong 3 at))
      (each_emit NoMark (Read (array_object array) (all_nodes s.program) 3 at) tt) (each_emit NoMark (Wrong 3 at) tt)

  offset_unmarked : (array : ℕ) (at : Place) (os : Option (List Offset)) → EachEvent NoMark (offset_events s array at os)
  offset_unmarked array at None = each_emit NoMark (Wrong 2 at) tt
  offset_unmarked array at (Some os) =
      if_unmarked (list_all is_own os) skip (if s.written array then emit (Wrong 4 at) else shadow_read s array at os) (each_skip NoMark)
      (if_unmarked (s.written array) (emit (Wrong 4 at)) (shadow_read s array at os) (each_emit NoMark (Wrong 4 at) tt) (shadow_unmarked array at os))

  pub spread_unmarked : (array template : ℕ) (map : ArrayMap) (subscripts : List Expr) (at : Place) (o : Option LoopDirective) → EachEvent NoMark (spread_events s array template map subscripts at o)
  spread_unmarked array template map subscripts at None = each_emit NoMark (Wrong 2 at) tt
  spread_unmarked array template map subscripts at (Some d) =
      if_unmarked _ (offset_events s array at (offsets_of d map subscripts)) (emit (Wrong 2 at)) (offset_unmarked array at (offsets_of d map subscripts)) (each_emit NoMark (Wrong 2 at) tt)

  home_unmarked : (array : ℕ) (subscripts : List Expr) (at : Place) (o : Option Home) → EachEvent NoMark (read_at_home s array subscripts at o)
  home_unmarked array subscripts at None = each_skip NoMark
  home_unmarked array subscripts at (Some home.Copy) =
      if_unmarked (s.written array) skip (emit (Read (array_object array) s.nodes 1 at)) (each_skip NoMark) (each_emit NoMark (Read (array_object array) s.nodes 1 at) tt)
  home_unmarked array subscripts at (Some (home.Spread template map)) =
      if_unmarked s.moving skip (spread_events s array template map subscripts at s.over) (each_skip NoMark) (spread_unmarked array template map subscripts at s.over)
  home_unmarked array subscripts at (Some home.Image) = each_skip NoMark

  call_unmarked : (test : Bool) (at : Place) → EachEvent NoMark (wrong_where test 9 at)
  call_unmarked test at = if_unmarked test (emit (Wrong 9 at)) skip (each_emit NoMark (Wrong 9 at) tt) (each_skip NoMark)

  pub element_unmarked : (array : ℕ) (subscripts : List Expr) (at : Place) → EachEvent NoMark (element_read s array subscripts at)
  element_unmarked array subscripts at = home_unmarked array subscripts at (home_of s array)

  -- no event of an expression's reads marks a copy
  pub reads_unmarked : (e : Expr) → EachEvent NoMark (reads_of e s)
  reads_unmarked e = expr_each s NoMark (λ slot at. role_unmarked slot at (s.roles slot)) element_unmarked call_unmarked e

  pub subscripts_unmarked : (a : Access) → EachOf NoMark (subscript_reads a s)
  subscripts_unmarked a = access_each s NoMark (λ slot at. role_unmarked slot at (s.roles slot)) element_unmarked call_unmarked a

pub reads_keep : ReadsKeep
reads_keep set node e way path stale object = unmarked object node (reads_of e set) (reads_unmarked set e) way (stale object) path
