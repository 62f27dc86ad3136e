-- A statement makes no scalar out of date that it doesn't write.
use Rattle.std.proofs.Common.{◌≡◌, ◌≢◌, ◌+◌, ◌*◌, ◌++◌, inl, inr, ⊎_elim, ℕ, zero, suc, Bool, true, false, not, if◌then◌else◌, cond, List, [], ◌∷◌, map, Option, Some, None, refl, sym, ap, subst, ◌∙◌, arith}
use Rattle.std.specs.Prelude.{◌&&◌, ◌||◌, ◌==◌, filter, is_some}
use Rattle.std.specs.List.{AllByRecursion, concat}
use Rattle.std.proofs.lemmas.Bool.{eqb-true}
use Rattle.std.proofs.lemmas.Nat.Bits.{bit_at-zero}
use Rattle.xmp_base.specs.declared.place.Place.{Place}
use Rattle.xmp_map.specs.declared.grid.NodeSet.{NodeSet}
use Rattle.xmp_prog.specs.declared.parts.Home.{Home}
use Rattle.xmp_prog.specs.declared.parts.Home.TheVariants as home
use Rattle.xmp_prog.specs.declared.expressions.Expr.{Expr}
use Rattle.xmp_prog.specs.declared.expressions.Access.{Access}
use Rattle.xmp_prog.specs.declared.statements.Compound.{Compound}
use Rattle.xmp_prog.specs.declared.statements.LoopDirective.{LoopDirective}
use Rattle.xmp_prog.specs.declared.statements.LoopHead.{LoopHead}
use Rattle.xmp_prog.specs.declared.statements.Reduction.{Reduction}
use Rattle.xmp_prog.specs.declared.statements.Name.{Name}
use Rattle.xmp_prog.specs.declared.statements.Number.{Number}
use Rattle.xmp_prog.specs.declared.statements.Part.{Part}
use Rattle.xmp_prog.specs.declared.statements.Part.TheVariants as part
use Rattle.xmp_prog.specs.declared.statements.MoveSide.{MoveSide}
use Rattle.xmp_prog.specs.declared.statements.MoveSide.TheVariants as side
use Rattle.xmp_prog.specs.declared.statements.Target.{Target}
use Rattle.xmp_prog.specs.declared.statements.Target.TheVariants as target
use Rattle.xmp_prog.specs.declared.statements.Plain.{Plain}
use Rattle.xmp_prog.specs.declared.statements.Plain.TheVariants as plain
use Rattle.xmp_prog.specs.declared.statements.Stmt.{Stmt, map-Stmt}
use Rattle.xmp_prog.specs.declared.statements.Stmt.TheOpen.{Stmt-F}
use Rattle.xmp_prog.specs.declared.statements.Stmt.TheVariants as stmt
use Rattle.xmp_prog.specs.declared.statements.Stmt.TheFolds.{ind-Stmt, fold-Task, fold-roll-Task}
use Rattle.xmp_prog.specs.declared.statements.Stmt.TheViews.{roll-Stmt, roll-Task}
use Rattle.xmp_prog.specs.declared.statements.Task.{Task}
use Rattle.xmp_prog.specs.Numbers.{is_in}
use Rattle.xmp_prog.specs.Statements.{indices_of, plain_writes}
use Rattle.xmp_prog.proofs.Rolls as rolls
use Rattle.xmp_paths.specs.NodeSets.{has}
use Rattle.xmp_paths.specs.Plans.{Plan, skip, emit, sequence, branch, loop, in_order, Path, Repeated}
use Rattle.xmp_paths.specs.Walk.{after_event, after_events}
use Rattle.xmp_paths.proofs.PathLaws.{walk-append}
use Rattle.xmp_paths.specs.declared.event.Event.{Event}
use Rattle.xmp_paths.specs.declared.event.Event.TheVariants.{Read, Wrong, Mark}
use Rattle.xmp_loops.specs.Objects.{scalar_object, array_object, all_nodes, nodes_in}
use Rattle.xmp_loops.specs.Roles.{own_scalars, scalars_of, role_in, is_own}
use Rattle.xmp_loops.specs.Bounds.{is_number, is_bound}
use Rattle.xmp_loops.specs.declared.role.Role.{Role}
use Rattle.xmp_loops.specs.declared.role.Role.TheVariants.{Shared, Index, Reduced, Own}
use Rattle.xmp_flow.specs.Setting.{Setting, others, is_alone, is_first_alone, in_move, in_task, wrong_where, assigned, is_reduced, read_scalar, stale_on_all, current_on_all}
use Rattle.xmp_flow.specs.Elements.{home_of, spread_events, element_read, element_write, write_at_home, copy_written}
use Rattle.xmp_flow.specs.Reads.{reads_of, reads_of_all, reads_of_option, subscript_reads}
use Rattle.xmp_flow.specs.PlainEvents.{scalar_assigned, old_scalar, old_element, set_events, in_form, form_of_set, assignment_events, scanned, reflected_at, reflected, cast, number_events, part_events, side_events, source_at, source_events, moved_at, moved, plain_events}
use Rattle.xmp_flow.specs.LoopEvents.{within, at_bounds, nest_events, reduction_events, iteration, shadow_stale_at, shadow_stale, ends}
use Rattle.xmp_flow.specs.Statements.{events_of, if_form}
use Rattle.xmp_flow.proofs.FormLaws.{events_plain, events_block, events_if, events_while, events_counted, events_loop, events_tasks}
use Rattle.xmp_meaning.specs.Writes.{scalars_step, written_in_task, scalars_written, arrays_written}
use Rattle.xmp_nodes.proofs.MetEvents.{EachEvent, EachOf, NoMark, ordered_each, each_skip, each_emit, each_branch, all_together}
use Rattle.xmp_nodes.proofs.ReadsMark.{spread_unmarked, element_unmarked, reads_unmarked, subscripts_unmarked}
use Rattle.xmp_nodes.proofs.Leaves.{UnwrittenStay}

module _ (node slot : ℕ) where
  -- an event that doesn't make the scalar out of date
  abbrev pub Harmless : Event → Type 0
  Harmless (Read object nodes rule at) = Unit {0}
  Harmless (Wrong rule at) = Unit {0}
  Harmless (Mark object current out) = object ≡ scalar_object slot → has out node ≡ false

  unmarked_harmless : (e : Event) → NoMark e → Harmless e
  unmarked_harmless (Read object nodes rule at) h = tt
  unmarked_harmless (Wrong rule at) h = tt
  unmarked_harmless (Mark object current out) h = absurd h

  abbrev Quietly : Plan Event → Type 0
  Quietly plan = EachEvent Harmless plan

  reading : (plan : Plan Event) → EachEvent NoMark plan → Quietly plan
  reading plan h e s = unmarked_harmless e (h e s)

  readings : (plans : List (Plan Event)) → EachOf NoMark plans → EachOf Harmless plans
  readings [] h = tt
  readings (q ∷ plans) h = (reading q h.0, readings plans h.1)

  -- ---- ways

  one_step : (e : Event) → Harmless e → after_event (scalar_object slot) node e false ≡ false
  one_step (Read object nodes rule at) h = refl
  one_step (Wrong rule at) h = refl
  one_step (Mark object current out) h = at_test (object == scalar_object slot) refl
    where
      at_mark : (b : Bool) → (b || (not (has current node) && false)) ≡ b
      at_mark true = refl
      at_mark false = and_false (not (has current node))
        where
          and_false : (c : Bool) → (c && false) ≡ false
          and_false true = refl
          and_false false = refl

      at_test : (b : Bool) → (object == scalar_object slot) ≡ b → (if b then (has out node || (not (has current node) && false)) else false) ≡ false
      at_test true e = at_mark (has out node) ∙ h (eqb-true object (scalar_object slot) e)
      at_test false e = refl

  many_turns : (P : List Event → Type 0) → ((es : List Event) → P es → after_events (scalar_object slot) node es false ≡ false)
      → (n : ℕ) (es : List Event) → Repeated P n es → after_events (scalar_object slot) node es false ≡ false
  many_turns P h zero es r = ap (λ l. after_events (scalar_object slot) node l false) r
  many_turns P h (suc n) es r =
      ap (λ l. after_events (scalar_object slot) node l false) r.whole
      ∙ walk-append (scalar_object slot) node r.front r.back false
      ∙ ap (after_events (scalar_object slot) node r.back) (h r.front r.in_front)
      ∙ many_turns P h n r.back r.in_back

  -- no way through such a plan makes it out of date
  pub stays_current : (plan : Plan Event) → Quietly plan → (es : List Event) → Path plan es → after_events (scalar_object slot) node es false ≡ false
  stays_current skip h es w = ap (λ l. after_events (scalar_object slot) node l false) w
  stays_current (emit e) h es w = ap (λ l. after_events (scalar_object slot) node l false) w ∙ one_step e (h e refl)
  stays_current (sequence a b) h es w =
      ap (λ l. after_events (scalar_object slot) node l false) w.whole
      ∙ walk-append (scalar_object slot) node w.front w.back false
      ∙ ap (after_events (scalar_object slot) node w.back) (stays_current a (λ e s. h e (inl s)) w.front w.in_front)
      ∙ stays_current b (λ e s. h e (inr s)) w.back w.in_back
  stays_current (branch a b) h es w = ⊎_elim (λ v. stays_current a (λ e s. h e (inl s)) es v) (λ v. stays_current b (λ e s. h e (inr s)) es v) w
  stays_current (loop a) h es w = many_turns (Path a) (λ fs v. stays_current a h fs v) w.0 es w.1

  -- ---- marks

  double : (a b : ℕ) → 2 * a ≡ 2 * b → a ≡ b
  double a b e = omega (arith, e)

  odd : (a b : ℕ) → 2 * a + 1 ≡ 2 * b → ⊥
  odd a b e = omega (arith, e)

  none_has : has 0 node ≡ false
  none_has = ap (λ m. m == 1) (bit_at-zero node)

  other_mark : (n current out : ℕ) → n ≢ slot → Quietly (emit (Mark (scalar_object n) current out))
  other_mark n current out ne = each_emit Harmless (Mark (scalar_object n) current out) (λ e. absurd (ne (double n slot e)))

  array_mark : (a current out : ℕ) → Quietly (emit (Mark (array_object a) current out))
  array_mark a current out = each_emit Harmless (Mark (array_object a) current out) (λ e. absurd (odd a slot e))

  current_mark : (object current : ℕ) → Quietly (emit (Mark object current 0))
  current_mark object current = each_emit Harmless (Mark object current 0) (λ e. none_has)

  wrong_quiet : (b : Bool) (rule : ℕ) (at : Place) → Quietly (wrong_where b rule at)
  wrong_quiet true rule at = each_emit Harmless (Wrong rule at) tt
  wrong_quiet false rule at = each_skip Harmless

  abbrev NotIn : List ℕ → Type 0
  NotIn slots = AllByRecursion (λ n. n ≢ slot) slots

  module _ (s : Setting) where
    read_quiet : (e : Expr) → Quietly (reads_of e s)
    read_quiet e = reading (reads_of e s) (reads_unmarked s e)

    reads_quiet : (es : List Expr) → EachOf Harmless (reads_of_all es s)
    reads_quiet [] = tt
    reads_quiet (e ∷ es) = (read_quiet e, reads_quiet es)

    option_quiet : (o : Option Expr) → Quietly (reads_of_option o s)
    option_quiet None = each_skip Harmless
    option_quiet (Some e) = read_quiet e

    scalar_quiet : (n : ℕ) (at : Place) (r : Role) → Quietly (read_scalar s n at r)
    scalar_quiet n at Shared = each_emit Harmless (Read (scalar_object n) s.nodes 1 at) tt
    scalar_quiet n at Index = each_skip Harmless
    scalar_quiet n at (Reduced op) = each_emit Harmless (Wrong 5 at) tt
    scalar_quiet n at Own = each_emit Harmless (Read (scalar_object n) s.nodes 5 at) tt

    element_quiet : (array : ℕ) (subscripts : List Expr) (at : Place) → Quietly (element_read s array subscripts at)
    element_quiet array subscripts at = reading (element_read s array subscripts at) (element_unmarked s array subscripts at)

    copy_quiet : (array : ℕ) (at : Place) (o : Option LoopDirective) → Quietly (copy_written s array at o)
    copy_quiet array at None = array_mark array 0 (others s)
    copy_quiet array at (Some d) = each_emit Harmless (Wrong 6 at) tt

    write_quiet_at : (array : ℕ) (subscripts : List Expr) (at : Place) (o : Option Home) → Quietly (write_at_home s array subscripts at o)
    write_quiet_at array subscripts at None = each_skip Harmless
    write_quiet_at array subscripts at (Some home.Copy) = copy_quiet array at s.over
    write_quiet_at array subscripts at (Some (home.Spread template map)) = reading (spread_events s array template map subscripts at s.over) (spread_unmarked s array template map subscripts at s.over)
    write_quiet_at array subscripts at (Some home.Image) = each_skip Harmless

    write_quiet : (array : ℕ) (subscripts : List Expr) (at : Place) → Quietly (element_write s array subscripts at)
    write_quiet array subscripts at = write_quiet_at array subscripts at (home_of s array)

    assigned_quiet : (n : ℕ) (at : Place) → n ≢ slot → EachOf Harmless (scalar_assigned s n at)
    assigned_quiet n at ne = (wrong_quiet (is_reduced (s.roles n)) 5 at, (other_mark n s.nodes (others s) ne, tt))

    form_quiet : (beside : Plan Event) (o : Option (List Expr)) → Quietly beside → Quietly (in_form s beside o)
    form_quiet beside None h = h
    form_quiet beside (Some es) h = ordered_each Harmless (reads_of_all es s) (reads_quiet es)

    old_scalar_quiet : (n : ℕ) (at : Place) (o : Option Compound) → Quietly (old_scalar s n at o)
    old_scalar_quiet n at None = each_skip Harmless
    old_scalar_quiet n at (Some c) = scalar_quiet n at (s.roles n)

    old_element_quiet : (a : Access) (o : Option Compound) → Quietly (old_element s a o)
    old_element_quiet a None = each_skip Harmless
    old_element_quiet a (Some c) = element_quiet a.array a.subscripts a.at

    subscripts_quiet : (a : Access) → EachOf Harmless (subscript_reads a s)
    subscripts_quiet a = readings (subscript_reads a s) (subscripts_unmarked s a)

    assignment_quiet : (c : Option Compound) (value : Expr) (to : Target) → NotIn (plain_writes (plain.Set to c value)) → Quietly (assignment_events s c value to)
    assignment_quiet c value (target.Scalar n at) h =
        form_quiet (set_events s n at c value) (form_of_set s n at c value (s.roles n))
        (ordered_each Harmless (old_scalar s n at c ∷ reads_of value s ∷ scalar_assigned s n at) (old_scalar_quiet n at c, (read_quiet value, assigned_quiet n at h.0)))
    assignment_quiet c value (target.Cell a) h =
        ordered_each Harmless (subscript_reads a s ++ old_element s a c ∷ reads_of value s ∷ element_write s a.array a.subscripts a.at ∷ [])
        (all_together Quietly (subscript_reads a s) (old_element s a c ∷ reads_of value s ∷ element_write s a.array a.subscripts a.at ∷ []) (subscripts_quiet a)
        (old_element_quiet a c, (read_quiet value, (write_quiet a.array a.subscripts a.at, tt))))

    scanned_quiet : (to : Target) (at : Place) → NotIn (plain_writes (plain.Scan to at)) → EachOf Harmless (scanned s to)
    scanned_quiet (target.Scalar n place) at h = (wrong_quiet (is_reduced (s.roles n)) 5 place, (other_mark n 0 (others s) h.0, tt))
    scanned_quiet (target.Cell a) at h =
        all_together Quietly (subscript_reads a s) (element_write s a.array a.subscripts a.at ∷ []) (subscripts_quiet a) (write_quiet a.array a.subscripts a.at, tt)

    reflected_quiet : (array : ℕ) (o : Option Home) → Quietly (reflected_at s array o)
    reflected_quiet array None = each_skip Harmless
    reflected_quiet array (Some home.Copy) = each_skip Harmless
    reflected_quiet array (Some (home.Spread template map)) = current_mark (array_object array) (all_nodes s.program)
    reflected_quiet array (Some home.Image) = each_skip Harmless

    all_reflected : (names : List Name) → EachOf Harmless (map (reflected s) names)
    all_reflected [] = tt
    all_reflected (n ∷ names) = (reflected_quiet n.number (home_of s n.number), all_reflected names)

    all_cast : (from : NodeSet) (names : List Name) → EachOf Harmless (map (cast s from) names)
    all_cast from [] = tt
    all_cast from (n ∷ names) = (
      ordered_each Harmless (emit (Read (scalar_object n.number) (nodes_in s.program.grid from) 11 n.at) ∷ current_on_all s (scalar_object n.number) ∷ [])
          (each_emit Harmless (Read (scalar_object n.number) (nodes_in s.program.grid from) 11 n.at) tt, (current_mark (scalar_object n.number) (all_nodes s.program), tt)),
      all_cast from names,
    )

    number_quiet : (n : Number) → Quietly (number_events s n)
    number_quiet n = ordered_each Harmless (reads_of n.value (in_move s) ∷ wrong_where (not (is_number n.value)) 12 n.at ∷ [])
        (reading (reads_of n.value (in_move s)) (reads_unmarked (in_move s) n.value), (wrong_quiet (not (is_number n.value)) 12 n.at, tt))

    part_quiet : (q : Part) → Quietly (part_events s q)
    part_quiet (part.One n) = number_quiet n
    part_quiet (part.Many base length step) =
        ordered_each Harmless (map (number_events s) (base ∷ length ∷ step ∷ [])) (number_quiet base, (number_quiet length, (number_quiet step, tt)))

    parts_quiet : (parts : List Part) → EachOf Harmless (map (part_events s) parts)
    parts_quiet [] = tt
    parts_quiet (q ∷ parts) = (part_quiet q, parts_quiet parts)

    side_quiet : (m : MoveSide) → Quietly (side_events s m)
    side_quiet (side.Scalar name) = each_skip Harmless
    side_quiet (side.Array name parts) = ordered_each Harmless (map (part_events s) parts) (parts_quiet parts)

    source_quiet_at : (name : Name) (o : Option Home) → Quietly (source_at s name o)
    source_quiet_at name None = each_skip Harmless
    source_quiet_at name (Some home.Copy) = each_emit Harmless (Read (array_object name.number) (all_nodes s.program) 1 name.at) tt
    source_quiet_at name (Some (home.Spread template map)) = each_skip Harmless
    source_quiet_at name (Some home.Image) = each_skip Harmless

    source_quiet : (m : MoveSide) → Quietly (source_events s m)
    source_quiet (side.Scalar name) = each_emit Harmless (Read (scalar_object name.number) (all_nodes s.program) 1 name.at) tt
    source_quiet (side.Array name parts) = source_quiet_at name (home_of s name.number)

    moved_quiet_at : (name : Name) (o : Option Home) → Quietly (moved_at s name o)
    moved_quiet_at name None = each_skip Harmless
    moved_quiet_at name (Some home.Copy) = wrong_quiet (is_some s.over) 6 name.at
    moved_quiet_at name (Some (home.Spread template map)) = array_mark name.number 0 (all_nodes s.program)
    moved_quiet_at name (Some home.Image) = each_skip Harmless

    moved_quiet : (m : MoveSide) → Quietly (moved s m)
    moved_quiet (side.Scalar name) = current_mark (scalar_object name.number) (all_nodes s.program)
    moved_quiet (side.Array name parts) = moved_quiet_at name (home_of s name.number)

    plain_quiet : (q : Plain) → NotIn (plain_writes q) → Quietly (plain_events q s)
    plain_quiet (plain.Declare n value at) h =
        ordered_each Harmless (reads_of_option value s ∷ scalar_assigned s n at) (option_quiet value, assigned_quiet n at h.0)
    plain_quiet (plain.Set to c value) h = assignment_quiet c value to h
    plain_quiet (plain.Return value) h = read_quiet value
    plain_quiet (plain.Call function arguments at) h =
        ordered_each Harmless (reads_of_all arguments s ++ wrong_where (s.inside && s.loops function) 9 at ∷ [])
        (all_together Quietly (reads_of_all arguments s) (wrong_where (s.inside && s.loops function) 9 at ∷ []) (reads_quiet arguments) (wrong_quiet (s.inside && s.loops function) 9 at, tt))
    plain_quiet (plain.Print format arguments at) h =
        ordered_each Harmless (reads_of_all arguments s ++ wrong_where (is_some s.over || not (is_alone s)) 7 at ∷ [])
        (all_together Quietly (reads_of_all arguments s) (wrong_where (is_some s.over || not (is_alone s)) 7 at ∷ []) (reads_quiet arguments) (wrong_quiet (is_some s.over || not (is_alone s)) 7 at, tt))
    plain_quiet (plain.Scan to at) h =
        ordered_each Harmless (scanned s to ++ wrong_where (is_some s.over || not (is_first_alone s)) 8 at ∷ [])
        (all_together Quietly (scanned s to) (wrong_where (is_some s.over || not (is_first_alone s)) 8 at ∷ []) (scanned_quiet to at h) (wrong_quiet (is_some s.over || not (is_first_alone s)) 8 at, tt))
    plain_quiet (plain.Sync status at) h = ordered_each Harmless (scalar_assigned s status.number status.at) (assigned_quiet status.number status.at h.0)
    plain_quiet (plain.Reflect arrays at) h =
        ordered_each Harmless (wrong_where s.inside 10 at ∷ map (reflected s) arrays) (wrong_quiet s.inside 10 at, all_reflected arrays)
    plain_quiet (plain.Barrier at) h = wrong_quiet s.inside 10 at
    plain_quiet (plain.Cast variables from at) h =
        ordered_each Harmless (wrong_where s.inside 10 at ∷ map (cast s from) variables) (wrong_quiet s.inside 10 at, all_cast from variables)
    plain_quiet (plain.Gmove to from at) h =
        ordered_each Harmless (wrong_where s.inside 10 at ∷ side_events s to ∷ side_events s from ∷ source_events s from ∷ moved s to ∷ [])
        (wrong_quiet s.inside 10 at, (side_quiet to, (side_quiet from, (source_quiet from, (moved_quiet to, tt)))))

    -- ---- loop directives

    stale_quiet : (slots : List ℕ) → NotIn slots → EachOf Harmless (map (λ n. stale_on_all s (scalar_object n)) slots)
    stale_quiet [] h = tt
    stale_quiet (n ∷ slots) h = (other_mark n 0 (all_nodes s.program) h.0, stale_quiet slots h.1)

    reductions_current : (rs : List Reduction) → EachOf Harmless (map (λ (r : Reduction). current_on_all s (scalar_object r.variable.number)) rs)
    reductions_current [] = tt
    reductions_current (r ∷ rs) = (current_mark (scalar_object r.variable.number) (all_nodes s.program), reductions_current rs)

    shadow_quiet_at : (array : ℕ) (o : Option Home) → Quietly (shadow_stale_at s array o)
    shadow_quiet_at array None = each_skip Harmless
    shadow_quiet_at array (Some home.Copy) = each_skip Harmless
    shadow_quiet_at array (Some (home.Spread template map)) = array_mark array 0 (all_nodes s.program)
    shadow_quiet_at array (Some home.Image) = each_skip Harmless

    shadows_quiet : (arrays : List ℕ) → EachOf Harmless (map (shadow_stale s) arrays)
    shadows_quiet [] = tt
    shadows_quiet (a ∷ arrays) = (shadow_quiet_at a (home_of s a), shadows_quiet arrays)

    reductions_quiet : (before : List ℕ) (rs : List Reduction) → EachOf Harmless (reduction_events s before rs)
    reductions_quiet before [] = tt
    reductions_quiet before (r ∷ rs) = (
      each_emit Harmless (Read (scalar_object r.variable.number) (all_nodes s.program) 1 r.variable.at) tt,
      (wrong_quiet (is_in before r.variable.number) 5 r.variable.at, reductions_quiet (before ++ r.variable.number ∷ []) rs),
    )

    heads_quiet : (outer written : List ℕ) (heads : List LoopHead) → EachOf Harmless (nest_events s outer written heads)
    heads_quiet outer written [] = tt
    heads_quiet outer written (h ∷ heads) = (
      ordered_each Harmless (reads_of h.from s ∷ wrong_where (not (is_bound outer written h.from)) 12 h.from_at ∷ reads_of h.to s ∷ wrong_where (not (is_bound outer written h.to)) 12 h.to_at ∷ wrong_where (is_reduced (s.roles h.index.number)) 5 h.index.at ∷ [])
          (read_quiet h.from, (wrong_quiet (not (is_bound outer written h.from)) 12 h.from_at, (read_quiet h.to, (wrong_quiet (not (is_bound outer written h.to)) 12 h.to_at, (wrong_quiet (is_reduced (s.roles h.index.number)) 5 h.index.at, tt))))),
      heads_quiet (outer ++ h.index.number ∷ []) written heads,
    )

  not_in_both : (xs ys : List ℕ) → NotIn (xs ++ ys) → NotIn xs × NotIn ys
  not_in_both [] ys h = (tt, h)
  not_in_both (x ∷ xs) ys h = let r = not_in_both xs ys h.1 in ((h.0, r.0), r.1)

  not_in_together : (xs ys : List ℕ) → NotIn xs → NotIn ys → NotIn (xs ++ ys)
  not_in_together [] ys a b = b
  not_in_together (x ∷ xs) ys a b = (a.0, not_in_together xs ys a.1 b)

  not_in_filtered : (test : ℕ → Bool) (xs : List ℕ) → NotIn xs → NotIn (filter test xs)
  not_in_filtered test [] h = tt
  not_in_filtered test (x ∷ xs) h = kept (test x) (not_in_filtered test xs h.1)
    where
      kept : (b : Bool) → NotIn (filter test xs) → NotIn (cond b (x ∷ filter test xs) (filter test xs))
      kept true i = (h.0, i)
      kept false i = i

  -- ---- statements

  abbrev Stays : Stmt → Type 0
  Stays x = NotIn (scalars_written x) → (s : Setting) → Quietly (events_of x s)

  abbrev task_writes : Task → List ℕ
  task_writes = fold-Task (List ℕ) (List ℕ) scalars_step written_in_task

  task_writes_body : (t : Task) → task_writes t ≡ scalars_written t.body
  task_writes_body t = fold-roll-Task (List ℕ) (List ℕ) scalars_step written_in_task (record { nodes = t.nodes; body = t.body; at = t.at })

  of_plain : (q : Plain) → Stays (stmt.Plain q)
  of_plain q h s = subst Quietly (sym (events_plain q s)) (plain_quiet s q (subst NotIn (rolls.at_plain (List ℕ) (List ℕ) scalars_step written_in_task q) h))

  each_stays : (all : List Stmt) → AllByRecursion Stays all → NotIn (concat (map scalars_written all)) → (s : Setting) → EachOf Harmless (map (λ x. events_of x s) all)
  each_stays [] c h s = tt
  each_stays (x ∷ xs) c h s =
      let d = not_in_both (scalars_written x) (concat (map scalars_written xs)) h in
      (c.0 d.0 s, each_stays xs c.1 d.1 s)

  of_block : (all : List Stmt) → AllByRecursion Stays all → Stays (stmt.Block all)
  of_block all c h s = subst Quietly (sym (events_block all s))
      (ordered_each Harmless (map (λ x. events_of x s) all) (each_stays all c (subst NotIn (rolls.at_block (List ℕ) (List ℕ) scalars_step written_in_task all) h) s))

  of_if : (e : Expr) (a b : Stmt) → Stays a → Stays b → Stays (stmt.If e a b)
  of_if e a b ca cb h s =
      let d = not_in_both (scalars_written a) (scalars_written b) (subst NotIn (rolls.at_if (List ℕ) (List ℕ) scalars_step written_in_task e a b) h) in
      subst Quietly (sym (events_if e a b s))
      (form_quiet s (in_order (reads_of e s ∷ branch (events_of a s) (events_of b s) ∷ [])) (if_form s e a b)
      (ordered_each Harmless (reads_of e s ∷ branch (events_of a s) (events_of b s) ∷ []) (read_quiet s e, (each_branch Harmless (events_of a s) (events_of b s) (ca d.0 s) (cb d.1 s), tt))))

  of_while : (e : Expr) (a : Stmt) (at : Place) → Stays a → Stays (stmt.While e a at)
  of_while e a at ca h s =
      let d : NotIn (scalars_written a) = subst NotIn (rolls.at_while (List ℕ) (List ℕ) scalars_step written_in_task e a at) h in
      subst Quietly (sym (events_while e a at s))
      (ordered_each Harmless (wrong_where s.inside 9 at ∷ loop (in_order (reads_of e s ∷ events_of a s ∷ [])) ∷ reads_of e s ∷ [])
      (wrong_quiet s.inside 9 at, (ordered_each Harmless (reads_of e s ∷ events_of a s ∷ []) (read_quiet s e, (ca d s, tt)), (read_quiet s e, tt))))

  of_counted : (head : LoopHead) (a : Stmt) → Stays a → Stays (stmt.Counted head a)
  of_counted head a ca h s =
      let d : NotIn (head.index.number ∷ scalars_written a) = subst NotIn (rolls.at_counted (List ℕ) (List ℕ) scalars_step written_in_task head a) h in
      subst Quietly (sym (events_counted head a s))
      (ordered_each Harmless (wrong_where (is_reduced (s.roles head.index.number)) 5 head.index.at ∷ reads_of head.from s ∷ assigned s head.index.number
      ∷ loop (in_order (reads_of head.to s ∷ events_of a s ∷ assigned s head.index.number ∷ [])) ∷ reads_of head.to s ∷ [])
      (wrong_quiet (is_reduced (s.roles head.index.number)) 5 head.index.at, (read_quiet s head.from, (other_mark head.index.number s.nodes (others s) d.0, (ordered_each Harmless (reads_of head.to s ∷ events_of a s ∷ assigned s head.index.number ∷ []) (read_quiet s head.to, (ca d.1 s, (other_mark head.index.number s.nodes (others s) d.0, tt))), (read_quiet s head.to, tt))))))

  of_loop : (d : LoopDirective) (a : Stmt) → Stays a → Stays (stmt.Loop d a)
  of_loop d a ca h s =
      let both = not_in_both (indices_of d.nest) (scalars_written a) (subst NotIn (rolls.at_loop (List ℕ) (List ℕ) scalars_step written_in_task d a) h) in
      let own : NotIn (own_scalars d a) = not_in_filtered (λ n. is_own (role_in d a n)) (scalars_written a) both.1 in
      subst Quietly (sym (events_loop d a s))
      (ordered_each Harmless (wrong_where s.inside 10 d.at ∷ in_order (nest_events (at_bounds d a s) [] (scalars_of d a) d.nest) ∷ in_order (reduction_events s [] d.reductions) ∷ loop (iteration s d a (events_of a)) ∷ in_order (ends s d a) ∷ []) (
        wrong_quiet s.inside 10 d.at,
        (
          ordered_each Harmless (nest_events (at_bounds d a s) [] (scalars_of d a) d.nest) (heads_quiet (at_bounds d a s) [] (scalars_of d a) d.nest),
          (
            ordered_each Harmless (reduction_events s [] d.reductions) (reductions_quiet s [] d.reductions),
            (
              ordered_each Harmless (map (λ n. stale_on_all s (scalar_object n)) (own_scalars d a) ++ events_of a (within d a s) ∷ [])
                  (all_together Quietly (map (λ n. stale_on_all s (scalar_object n)) (own_scalars d a)) (events_of a (within d a s) ∷ []) (stale_quiet s (own_scalars d a) own) (ca both.1 (within d a s), tt)),
              (
                ordered_each Harmless (ends s d a)
                    (all_together Quietly (map (λ n. stale_on_all s (scalar_object n)) (own_scalars d a ++ indices_of d.nest)) (map (λ (r : Reduction). current_on_all s (scalar_object r.variable.number)) d.reductions ++ map (shadow_stale s) (arrays_written a))
                    (stale_quiet s (own_scalars d a ++ indices_of d.nest) (not_in_together (own_scalars d a) (indices_of d.nest) own both.0))
                    (all_together Quietly (map (λ (r : Reduction). current_on_all s (scalar_object r.variable.number)) d.reductions) (map (shadow_stale s) (arrays_written a)) (reductions_current s d.reductions) (shadows_quiet s (arrays_written a)))),
                tt,
              ),
            ),
          ),
        ),
      ))

  each_task_stays : (all : List Task) → AllByRecursion (λ t. Stays t.body) all → NotIn (concat (map task_writes all)) → (s : Setting) → EachOf Harmless (map (λ t. events_of t.body (in_task s t.nodes)) all)
  each_task_stays [] c h s = tt
  each_task_stays (t ∷ ts) c h s =
      let d = not_in_both (task_writes t) (concat (map task_writes ts)) h in
      (c.0 (subst NotIn (task_writes_body t) d.0) (in_task s t.nodes), each_task_stays ts c.1 d.1 s)

  of_tasks : (all : List Task) (at : Place) → AllByRecursion (λ t. Stays t.body) all → Stays (stmt.Tasks all at)
  of_tasks all at c h s = subst Quietly (sym (events_tasks all at s))
      (ordered_each Harmless (wrong_where s.inside 10 at ∷ map (λ t. events_of t.body (in_task s t.nodes)) all)
      (wrong_quiet s.inside 10 at, each_task_stays all c (subst NotIn (rolls.at_tasks (List ℕ) (List ℕ) scalars_step written_in_task all at) h) s))

  module _ {C D : Type 0} (x : C → Stmt) (t : D → Task) (h : (c : C) → Stays (x c)) (i : (d : D) → Stays (t d).body) where
    all_of : (cs : List C) → AllByRecursion Stays (map x cs)
    all_of [] = tt
    all_of (c ∷ cs) = (h c, all_of cs)

    all_tasks : (ds : List D) → AllByRecursion (λ u. Stays u.body) (map t ds)
    all_tasks [] = tt
    all_tasks (d ∷ ds) = (i d, all_tasks ds)

    at_form : (y : Stmt-F C D) → Stays (roll-Stmt (map-Stmt C D Stmt Task x t y))
    at_form (Stmt-F.Plain q) = subst Stays (sym (stmt.rolls-Plain q)) (of_plain q)
    at_form (Stmt-F.Block all) = subst Stays (sym (stmt.rolls-Block (map x all))) (of_block (map x all) (all_of all))
    at_form (Stmt-F.If e a b) = subst Stays (sym (stmt.rolls-If e (x a) (x b))) (of_if e (x a) (x b) (h a) (h b))
    at_form (Stmt-F.While e a at) = subst Stays (sym (stmt.rolls-While e (x a) at)) (of_while e (x a) at (h a))
    at_form (Stmt-F.Counted head a) = subst Stays (sym (stmt.rolls-Counted head (x a))) (of_counted head (x a) (h a))
    at_form (Stmt-F.Loop d a) = subst Stays (sym (stmt.rolls-Loop d (x a))) (of_loop d (x a) (h a))
    at_form (Stmt-F.Tasks all at) = subst Stays (sym (stmt.rolls-Tasks (map t all) at)) (of_tasks (map t all) at (all_tasks all))

  pub statement_stays : (x : Stmt) → Stays x
  statement_stays = ind-Stmt Stays (λ t. Stays t.body)
      (λ x y is. subst (λ z. Stays (roll-Stmt z)) is (at_form (λ c. c.0) (λ c. c.0) (λ c. c.1) (λ c. c.1) y))
      (λ x y is. subst (λ z. Stays (roll-Task z).body) is y.body.1)

pub unwritten_stay : UnwrittenStay
unwritten_stay set node slot x none way path stale e =
    ap (after_events (scalar_object slot) node way) e ∙ stays_current node slot (events_of x set) (statement_stays node slot x none set) way path
