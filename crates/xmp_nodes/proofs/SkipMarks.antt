-- A node outside: no plain statement makes a copy current there, and what it writes is out of date there.
use Rattle.std.proofs.Common.{◌≡◌, ◌≢◌, ◌<◌, ◌+◌, ◌%◌, ◌++◌, inl, inr, ⊎_elim, ℕ, zero, suc, Bool, true, false, true≢false, not, if◌then◌else◌, List, [], ◌∷◌, map, Option, Some, None, refl, sym, ap, subst, ◌∙◌, arith}
use Rattle.std.specs.Prelude.{◌&&◌, ◌||◌, ◌==◌, is_some, slice_get, bit_xor}
use Rattle.std.specs.List.{AllByRecursion}
use Rattle.std.specs.Int.{bit_at}
use Rattle.std.specs.Option.{option_map}
use Rattle.std.proofs.lemmas.Bool.{eq-eqb, eqb-true}
use Rattle.std.proofs.lemmas.Nat.Bits.{bit_at_xor, bit_at-lt, bit_at-zero}
use Rattle.xmp_base.specs.declared.place.Place.{Place}
use Rattle.xmp_prog.specs.declared.parts.Array.{Array}
use Rattle.xmp_prog.specs.declared.parts.Home.{Home}
use Rattle.xmp_prog.specs.declared.parts.Home.TheVariants as home
use Rattle.xmp_prog.specs.declared.expressions.Expr.{Expr}
use Rattle.xmp_prog.specs.declared.expressions.Access.{Access}
use Rattle.xmp_prog.specs.declared.statements.Compound.{Compound}
use Rattle.xmp_prog.specs.declared.statements.LoopDirective.{LoopDirective}
use Rattle.xmp_prog.specs.declared.statements.Target.{Target}
use Rattle.xmp_prog.specs.declared.statements.Target.TheVariants as target
use Rattle.xmp_prog.specs.declared.statements.Plain.{Plain}
use Rattle.xmp_prog.specs.declared.statements.Plain.TheVariants as plain
use Rattle.xmp_prog.specs.Statements.{plain_writes}
use Rattle.xmp_paths.specs.NodeSets.{has}
use Rattle.xmp_paths.specs.Plans.{Plan, skip, emit, sequence, branch, loop, in_order, Path, Repeated}
use Rattle.xmp_paths.specs.Walk.{after_event, after_events}
use Rattle.xmp_paths.specs.Safe.{NothingWrong}
use Rattle.xmp_paths.proofs.PathLaws.{walk-append}
use Rattle.xmp_paths.specs.declared.event.Event.{Event}
use Rattle.xmp_paths.specs.declared.event.Event.TheVariants.{Read, Wrong, Mark}
use Rattle.xmp_loops.specs.Objects.{scalar_object, array_object, all_nodes}
use Rattle.xmp_loops.specs.declared.role.Role.{Role}
use Rattle.xmp_loops.specs.declared.role.Role.TheVariants.{Shared, Index, Reduced, Own}
use Rattle.xmp_flow.specs.Setting.{Setting, others, is_alone, is_first_alone, wrong_where, assigned, is_reduced, read_scalar}
use Rattle.xmp_flow.specs.Elements.{home_of, spread_events, element_read, element_write, write_at_home, copy_written}
use Rattle.xmp_flow.specs.Reads.{reads_of, reads_of_all, reads_of_option, subscript_reads}
use Rattle.xmp_flow.specs.PlainEvents.{scalar_assigned, old_scalar, old_element, set_events, in_form, form_of_set, assignment_events, scanned, plain_events}
use Rattle.xmp_meaning.specs.Declarations.{home_of as home_at, home_of_array}
use Rattle.xmp_meaning_laws.specs.Laws.{is_plain}
use Rattle.xmp_nodes.proofs.MetEvents.{EachEvent, EachOf, NoMark, ordered_each, each_skip, each_emit, all_together}
use Rattle.xmp_nodes.proofs.ReadsMark.{spread_unmarked, element_unmarked, reads_unmarked, subscripts_unmarked}

-- the nodes beside a set have each one that isn't in it
pub has_beside : (all some node : ℕ) → has all node ≡ true → has some node ≡ false → has (bit_xor all some) node ≡ true
has_beside all some node h k =
    ap (λ b. b == 1) (bit_at_xor all some node ∙ (λ i. (eqb-true (bit_at all node) 1 h i + zero_bit (bit_at some node) (bit_at-lt some node) k i) % 2))
  where
    zero_bit : (b : ℕ) → b < 2 → (b == 1) ≡ false → b ≡ 0
    zero_bit zero lt e = refl
    zero_bit (suc zero) lt e = absurd (true≢false e)
    zero_bit (suc (suc b)) lt e = absurd (omega (arith, lt))

module _ (node : ℕ) where
  -- the event makes nothing current at the node
  abbrev pub Fades : Event → Type 0
  Fades (Read object nodes rule at) = Unit {0}
  Fades (Wrong rule at) = Unit {0}
  Fades (Mark object current out) = has current node ≡ false

  -- what is out of date stays so
  abbrev pub Keeps : Plan Event → Type 0
  Keeps plan = (way : List Event) → Path plan way → (object : ℕ) → after_events object node way true ≡ true

  -- an object is out of date behind
  abbrev pub Marks : ℕ → Plan Event → Type 0
  Marks object plan = (way : List Event) → Path plan way → (was : Bool) → after_events object node way was ≡ true

  unmarked_fades : (e : Event) → NoMark e → Fades e
  unmarked_fades (Read object nodes rule at) h = tt
  unmarked_fades (Wrong rule at) h = tt
  unmarked_fades (Mark object current out) h = absurd h

  abbrev pub AllFade : Plan Event → Type 0
  AllFade plan = EachEvent Fades plan

  pub reads_fade : (plan : Plan Event) → EachEvent NoMark plan → AllFade plan
  reads_fade plan h e s = unmarked_fades e (h e s)

  readings : (plans : List (Plan Event)) → EachOf NoMark plans → EachOf Fades plans
  readings [] h = tt
  readings (q ∷ plans) h = (reads_fade q h.0, readings plans h.1)

  -- ---- ways

  or_true : (b : Bool) → (b || true) ≡ true
  or_true true = refl
  or_true false = refl

  one_step : (e : Event) → Fades e → (object : ℕ) → after_event object node e true ≡ true
  one_step (Read target nodes rule at) h object = refl
  one_step (Wrong rule at) h object = refl
  one_step (Mark target current out) h object = at_test (target == object)
    where
      at_test : (b : Bool) → (if b then (has out node || (not (has current node) && true)) else true) ≡ true
      at_test true = ap (λ c. has out node || (not c && true)) h ∙ or_true (has out node)
      at_test false = refl

  many_turns : (P : List Event → Type 0) (object : ℕ) → ((es : List Event) → P es → after_events object node es true ≡ true)
      → (n : ℕ) (es : List Event) → Repeated P n es → after_events object node es true ≡ true
  many_turns P object h zero es r = ap (λ l. after_events object node l true) r
  many_turns P object h (suc n) es r =
      ap (λ l. after_events object node l true) r.whole
      ∙ walk-append object node r.front r.back true
      ∙ ap (after_events object node r.back) (h r.front r.in_front)
      ∙ many_turns P object h n r.back r.in_back

  pub keeps : (plan : Plan Event) → AllFade plan → Keeps plan
  keeps skip h es w object = ap (λ l. after_events object node l true) w
  keeps (emit e) h es w object = ap (λ l. after_events object node l true) w ∙ one_step e (h e refl) object
  keeps (sequence a b) h es w object =
      ap (λ l. after_events object node l true) w.whole
      ∙ walk-append object node w.front w.back true
      ∙ ap (after_events object node w.back) (keeps a (λ e s. h e (inl s)) w.front w.in_front object)
      ∙ keeps b (λ e s. h e (inr s)) w.back w.in_back object
  keeps (branch a b) h es w object = ⊎_elim (λ v. keeps a (λ e s. h e (inl s)) es v object) (λ v. keeps b (λ e s. h e (inr s)) es v object) w
  keeps (loop a) h es w object = many_turns (Path a) object (λ fs v. keeps a h fs v object) w.0 es w.1

  -- ---- marks

  pub marks_emit : (object current out : ℕ) → has out node ≡ true → Marks object (emit (Mark object current out))
  marks_emit object current out h way w was =
      ap (λ l. after_events object node l was) w
      ∙ (ap (λ b. if b then (has out node || (not (has current node) && was)) else was) (eq-eqb object object refl)
      ∙ ap (λ b. b || (not (has current node) && was)) h)

  pub marks_front : (object : ℕ) (a b : Plan Event) → Marks object a → Keeps b → Marks object (sequence a b)
  marks_front object a b h k way w was =
      ap (λ l. after_events object node l was) w.whole
      ∙ walk-append object node w.front w.back was
      ∙ ap (after_events object node w.back) (h w.front w.in_front was)
      ∙ k w.back w.in_back object

  pub marks_back : (object : ℕ) (a b : Plan Event) → Marks object b → Marks object (sequence a b)
  marks_back object a b h way w was =
      ap (λ l. after_events object node l was) w.whole
      ∙ walk-append object node w.front w.back was
      ∙ h w.back w.in_back (after_events object node w.front was)

  pub marks_after : (object : ℕ) (xs ys : List (Plan Event)) → Marks object (in_order ys) → Marks object (in_order (xs ++ ys))
  marks_after object [] ys h = h
  marks_after object (x ∷ xs) ys h = marks_back object x (in_order (xs ++ ys)) (marks_after object xs ys h)

  -- ---- plain statements of a task

  none_has : has 0 node ≡ false
  none_has = ap (λ m. m == 1) (bit_at-zero node)

  pub wrong_fades : (b : Bool) (rule : ℕ) (at : Place) → AllFade (wrong_where b rule at)
  wrong_fades true rule at = each_emit Fades (Wrong rule at) tt
  wrong_fades false rule at = each_skip Fades

  module _ (s : Setting) (out : has s.nodes node ≡ false) (all : has (all_nodes s.program) node ≡ true) (alone : s.over ≡ None) (shared : (slot : ℕ) → s.roles slot ≡ Shared) where
    pub beside : has (others s) node ≡ true
    beside = has_beside (all_nodes s.program) s.nodes node all out

    expr_fades : (e : Expr) → AllFade (reads_of e s)
    expr_fades e = reads_fade (reads_of e s) (reads_unmarked s e)

    exprs_fade : (es : List Expr) → EachOf Fades (reads_of_all es s)
    exprs_fade [] = tt
    exprs_fade (e ∷ es) = (expr_fades e, exprs_fade es)

    option_fades : (o : Option Expr) → AllFade (reads_of_option o s)
    option_fades None = each_skip Fades
    option_fades (Some e) = expr_fades e

    scalar_fades : (n : ℕ) (at : Place) (r : Role) → AllFade (read_scalar s n at r)
    scalar_fades n at Shared = each_emit Fades (Read (scalar_object n) s.nodes 1 at) tt
    scalar_fades n at Index = each_skip Fades
    scalar_fades n at (Reduced op) = each_emit Fades (Wrong 5 at) tt
    scalar_fades n at Own = each_emit Fades (Read (scalar_object n) s.nodes 5 at) tt

    copy_fades : (array : ℕ) (at : Place) (o : Option LoopDirective) → AllFade (copy_written s array at o)
    copy_fades array at None = each_emit Fades (Mark (array_object array) 0 (others s)) none_has
    copy_fades array at (Some d) = each_emit Fades (Wrong 6 at) tt

    write_fades_at : (array : ℕ) (es : List Expr) (at : Place) (o : Option Home) → AllFade (write_at_home s array es at o)
    write_fades_at array es at None = each_skip Fades
    write_fades_at array es at (Some home.Copy) = copy_fades array at s.over
    write_fades_at array es at (Some (home.Spread template map)) = reads_fade (spread_events s array template map es at s.over) (spread_unmarked s array template map es at s.over)
    write_fades_at array es at (Some home.Image) = each_skip Fades

    write_fades : (array : ℕ) (es : List Expr) (at : Place) → AllFade (element_write s array es at)
    write_fades array es at = write_fades_at array es at (home_of s array)

    assigned_fades : (n : ℕ) (at : Place) → EachOf Fades (scalar_assigned s n at)
    assigned_fades n at = (wrong_fades (is_reduced (s.roles n)) 5 at, (each_emit Fades (Mark (scalar_object n) s.nodes (others s)) out, tt))

    old_scalar_fades : (n : ℕ) (at : Place) (o : Option Compound) → AllFade (old_scalar s n at o)
    old_scalar_fades n at None = each_skip Fades
    old_scalar_fades n at (Some c) = scalar_fades n at (s.roles n)

    old_element_fades : (a : Access) (o : Option Compound) → AllFade (old_element s a o)
    old_element_fades a None = each_skip Fades
    old_element_fades a (Some c) = reads_fade (element_read s a.array a.subscripts a.at) (element_unmarked s a.array a.subscripts a.at)

    subscripts_fade : (a : Access) → EachOf Fades (subscript_reads a s)
    subscripts_fade a = readings (subscript_reads a s) (subscripts_unmarked s a)

    -- no assignment is one to a reduction variable
    pub set_is : (n : ℕ) (at : Place) (c : Option Compound) (value : Expr) → in_form s (set_events s n at c value) (form_of_set s n at c value (s.roles n)) ≡ set_events s n at c value
    set_is n at c value = ap (λ r. in_form s (set_events s n at c value) (form_of_set s n at c value r)) (shared n)

    set_fades : (n : ℕ) (at : Place) (c : Option Compound) (value : Expr) → AllFade (set_events s n at c value)
    set_fades n at c value = ordered_each Fades (old_scalar s n at c ∷ reads_of value s ∷ scalar_assigned s n at) (old_scalar_fades n at c, (expr_fades value, assigned_fades n at))

    assignment_fades : (c : Option Compound) (value : Expr) (to : Target) → AllFade (assignment_events s c value to)
    assignment_fades c value (target.Scalar n at) = subst AllFade (sym (set_is n at c value)) (set_fades n at c value)
    assignment_fades c value (target.Cell a) =
        ordered_each Fades (subscript_reads a s ++ old_element s a c ∷ reads_of value s ∷ element_write s a.array a.subscripts a.at ∷ [])
        (all_together AllFade (subscript_reads a s) (old_element s a c ∷ reads_of value s ∷ element_write s a.array a.subscripts a.at ∷ []) (subscripts_fade a)
        (old_element_fades a c, (expr_fades value, (write_fades a.array a.subscripts a.at, tt))))

    scanned_fade : (to : Target) → EachOf Fades (scanned s to)
    scanned_fade (target.Scalar n place) = (wrong_fades (is_reduced (s.roles n)) 5 place, (each_emit Fades (Mark (scalar_object n) 0 (others s)) none_has, tt))
    scanned_fade (target.Cell a) = all_together AllFade (subscript_reads a s) (element_write s a.array a.subscripts a.at ∷ []) (subscripts_fade a) (write_fades a.array a.subscripts a.at, tt)

    pub plain_fades : (q : Plain) → is_plain q ≡ true → AllFade (plain_events q s)
    plain_fades (plain.Declare slot value at) h = ordered_each Fades (reads_of_option value s ∷ scalar_assigned s slot at) (option_fades value, assigned_fades slot at)
    plain_fades (plain.Set to c value) h = assignment_fades c value to
    plain_fades (plain.Return value) h = expr_fades value
    plain_fades (plain.Call function arguments at) h =
        ordered_each Fades (reads_of_all arguments s ++ wrong_where (s.inside && s.loops function) 9 at ∷ [])
        (all_together AllFade (reads_of_all arguments s) (wrong_where (s.inside && s.loops function) 9 at ∷ []) (exprs_fade arguments) (wrong_fades (s.inside && s.loops function) 9 at, tt))
    plain_fades (plain.Print format arguments at) h =
        ordered_each Fades (reads_of_all arguments s ++ wrong_where (is_some s.over || not (is_alone s)) 7 at ∷ [])
        (all_together AllFade (reads_of_all arguments s) (wrong_where (is_some s.over || not (is_alone s)) 7 at ∷ []) (exprs_fade arguments) (wrong_fades (is_some s.over || not (is_alone s)) 7 at, tt))
    plain_fades (plain.Scan to at) h =
        ordered_each Fades (scanned s to ++ wrong_where (is_some s.over || not (is_first_alone s)) 8 at ∷ [])
        (all_together AllFade (scanned s to) (wrong_where (is_some s.over || not (is_first_alone s)) 8 at ∷ []) (scanned_fade to) (wrong_fades (is_some s.over || not (is_first_alone s)) 8 at, tt))
    plain_fades (plain.Sync status at) h = absurd (true≢false (sym h))
    plain_fades (plain.Reflect arrays at) h = absurd (true≢false (sym h))
    plain_fades (plain.Barrier at) h = absurd (true≢false (sym h))
    plain_fades (plain.Cast variables from at) h = absurd (true≢false (sym h))
    plain_fades (plain.Gmove to from at) h = absurd (true≢false (sym h))

    -- ---- what is written

    abbrev pub WritesMark : Plain → Type 0
    WritesMark q = AllByRecursion (λ n. Marks (scalar_object n) (plain_events q s)) (plain_writes q)

    assigned_marks : (n : ℕ) (at : Place) → Marks (scalar_object n) (in_order (scalar_assigned s n at))
    assigned_marks n at =
        marks_back (scalar_object n) (wrong_where (is_reduced (s.roles n)) 5 at) (sequence (assigned s n) skip)
        (marks_front (scalar_object n) (assigned s n) skip (marks_emit (scalar_object n) s.nodes (others s) beside) (keeps skip (each_skip Fades)))

    set_marks : (c : Option Compound) (value : Expr) (to : Target) → WritesMark (plain.Set to c value)
    set_marks c value (target.Scalar n at) = (
      subst (Marks (scalar_object n)) (sym (set_is n at c value))
          (marks_after (scalar_object n) (old_scalar s n at c ∷ reads_of value s ∷ []) (scalar_assigned s n at) (assigned_marks n at)),
      tt,
    )
    set_marks c value (target.Cell a) = tt

    scan_marks : (to : Target) (at : Place) → WritesMark (plain.Scan to at)
    scan_marks (target.Scalar n place) at =
        let last : List (Plan Event) = wrong_where (is_some s.over || not (is_first_alone s)) 8 at ∷ [] in
        let m : Plan Event = emit (Mark (scalar_object n) 0 (others s)) in (
          marks_back (scalar_object n) (wrong_where (is_reduced (s.roles n)) 5 place) (in_order (m ∷ last))
              (marks_front (scalar_object n) m (in_order last) (marks_emit (scalar_object n) 0 (others s) beside)
              (keeps (in_order last) (ordered_each Fades last (wrong_fades (is_some s.over || not (is_first_alone s)) 8 at, tt)))),
          tt,
        )
    scan_marks (target.Cell a) at = tt

    pub plain_marks : (q : Plain) → is_plain q ≡ true → WritesMark q
    plain_marks (plain.Declare slot value at) h = (marks_back (scalar_object slot) (reads_of_option value s) (in_order (scalar_assigned s slot at)) (assigned_marks slot at), tt)
    plain_marks (plain.Set to c value) h = set_marks c value to
    plain_marks (plain.Return value) h = tt
    plain_marks (plain.Call function arguments at) h = tt
    plain_marks (plain.Print format arguments at) h = tt
    plain_marks (plain.Scan to at) h = scan_marks to at
    plain_marks (plain.Sync status at) h = absurd (true≢false (sym h))
    plain_marks (plain.Reflect arrays at) h = tt
    plain_marks (plain.Barrier at) h = tt
    plain_marks (plain.Cast variables from at) h = tt
    plain_marks (plain.Gmove to from at) h = absurd (true≢false (sym h))

    -- ---- arrays

    -- an array that lies on each node as a copy, out of date here behind
    abbrev pub CopyMarks : Plan Event → ℕ → Type 0
    CopyMarks plan array = (home_at s.program array ≡ home.Copy) × Marks (array_object array) plan

    pub write_marks : (array : ℕ) (es : List Expr) (at : Place) (o : Option Array) → slice_get s.program.arrays array ≡ o → is_some o ≡ true → ((r : Array) → o ≡ Some r → r.home ≢ home.Image)
        → NothingWrong (element_write s array es at) → CopyMarks (element_write s array es at) array
    write_marks array es at None e some image right = absurd (true≢false (sym some))
    write_marks array es at (Some r) e some image right = of_home r.home refl right
      where
        of_home : (h : Home) → r.home ≡ h → NothingWrong (element_write s array es at) → CopyMarks (element_write s array es at) array
        of_home home.Copy i good = (
          ap home_of_array e ∙ i,
          subst (Marks (array_object array)) (sym (ap (λ o. write_at_home s array es at (option_map (λ x. x.home) o)) e ∙ (ap (λ h. write_at_home s array es at (Some h)) i ∙ ap (copy_written s array at) alone)))
              (marks_emit (array_object array) 0 (others s) beside),
        )
        of_home (home.Spread t m) i good =
            absurd (subst NothingWrong (ap (λ o. write_at_home s array es at (option_map (λ x. x.home) o)) e ∙ (ap (λ h. write_at_home s array es at (Some h)) i ∙ ap (spread_events s array t m es at) alone)) good 2 at refl)
        of_home home.Image i good = absurd (image r refl i)
