-- A counted loop of a task or a loop directive at a node that executes it, and what a statement writes part by part.
use Rattle.std.proofs.Common.{◌≡◌, ◌≢◌, ◌<◌, ◌+◌, ◌%◌, ◌==◌, ◌||◌, ◌&&◌, not, if◌then◌else◌, ◌++◌, inl, inr, ℕ, zero, suc, ℤ, pos, ◌+ℤ◌, Bool, true, false, List, [], ◌∷◌, map, Some, refl, sym, subst, ap, ◌∙◌, bit_xor}
use Rattle.std.specs.Int.{bit_at}
use Rattle.std.proofs.lemmas.Bool.{eqb-true, eq-eqb}
use Rattle.std.proofs.lemmas.Nat.Bits.{bit_at_xor}
use Rattle.std.specs.List.{AllByRecursion, concat}
use Rattle.xmp_num.specs.declared.types.Ty.TheVariants.{Int}
use Rattle.xmp_num.specs.Arithmetic.{FitsType, wrap}
use Rattle.xmp_prog.specs.declared.expressions.Expr.{Expr}
use Rattle.xmp_prog.specs.declared.statements.LoopDirective.{LoopDirective}
use Rattle.xmp_prog.specs.declared.statements.LoopHead.{LoopHead}
use Rattle.xmp_prog.specs.declared.statements.Stmt.{Stmt}
use Rattle.xmp_prog.specs.declared.statements.Stmt.TheVariants as stmt
use Rattle.xmp_prog.specs.Terms.{terms_of, type_of}
use Rattle.xmp_prog.specs.Fits.{node_count}
use Rattle.xmp_prog.proofs.Rolls as rolls
use Rattle.xmp_paths.specs.declared.event.Event.{Event}
use Rattle.xmp_paths.specs.declared.event.Event.TheVariants.{Mark}
use Rattle.xmp_paths.specs.NodeSets.{has}
use Rattle.xmp_paths.specs.Plans.{Plan, skip, sequence, branch, loop, Path}
use Rattle.xmp_paths.specs.Safe.{left, Safe, NothingWrong}
use Rattle.xmp_paths.proofs.PathLaws.{some_path}
use Rattle.xmp_paths.proofs.SafeLaws.{safe_paths, safe_front, safe_back}
use Rattle.xmp_loops.specs.Objects.{scalar_object, all_nodes}
use Rattle.xmp_flow.specs.Setting.{others, is_reduced, assigned}
use Rattle.xmp_flow.specs.Reads.{reads_of}
use Rattle.xmp_meaning.specs.declared.ends.Flow.{Flow}
use Rattle.xmp_meaning.specs.declared.ends.Flow.TheVariants.{Next}
use Rattle.xmp_meaning.specs.Runs.{State, Step, Run, Gave, Ended, and_then, ◌>>=◌, pure, set_scalar}
use Rattle.xmp_meaning.specs.Blocks.{after, then_run, choose, turns}
use Rattle.xmp_meaning.specs.Context.{Context}
use Rattle.xmp_meaning.specs.Handlers.{Handlers, erased}
use Rattle.xmp_meaning.specs.Expressions.{expr_of}
use Rattle.xmp_meaning.specs.Loops.{is_inside, turn_count, inside, step_up, counted}
use Rattle.xmp_meaning.specs.Declarations.{scalar_type}
use Rattle.xmp_meaning.specs.Exchanges.{Notes, traced}
use Rattle.xmp_meaning.specs.Traffic.{node_context}
use Rattle.xmp_meaning.specs.Writes.{scalars_step, arrays_step, written_in_task, scalars_written, arrays_written}
use Rattle.xmp_meaning.proofs.Sequences.{associative}
use Rattle.xmp_meaning_laws.specs.Laws.{scalar_in}
use Rattle.xmp_meaning_laws.proofs.Conditions.{all_apart}
use Rattle.xmp_meaning_laws.proofs.Values.{wrap_fits}
use Rattle.xmp_nodes.proofs.Agrees.{Stand, Agrees, Along, Carried, Anything, IsNext, is_changed}
use Rattle.xmp_nodes.proofs.Standing.{TermStands, IsSetting, WritesFit}
use Rattle.xmp_nodes.proofs.Leaves as leaves
use Rattle.xmp_nodes.proofs.Leaves.{serial_cx, noting, GivesNext}
use Rattle.xmp_nodes.proofs.Follow.{left_append, agrees_fewer, way_none, framed_same, goes_weaker, goes_behind, carried_pure, carried_last}
use Rattle.xmp_nodes.proofs.LoopsInStep.{MarksNothing, one_turn, unrolled}
use Rattle.xmp_nodes.proofs.NodeBits.{all_have}
use Rattle.xmp_nodes.proofs.CastLaws.{untouched}
use Rattle.xmp_nodes.proofs.PlainWrites.{agrees_set, set_framed}
use Rattle.xmp_nodes.proofs.PlainWriting.{not_index}

-- ---- what is asked of writes, part by part

module _ (a : Stand) where
  writes_by : (x : Stmt) (ys zs : List ℕ) → scalars_written x ≡ ys → arrays_written x ≡ zs → (y : Stmt)
      → ((P : ℕ → Type 0) → AllByRecursion P ys → AllByRecursion P (scalars_written y)) → ((P : ℕ → Type 0) → AllByRecursion P zs → AllByRecursion P (arrays_written y))
      → WritesFit a x → WritesFit a y
  writes_by x ys zs e f y g h w = record {
    scalars = λ d o. g (λ slot. is_changed (a.set.roles slot) ≡ true) (subst (AllByRecursion (λ slot. is_changed (a.set.roles slot) ≡ true)) e (w.scalars d o));
    arrays = λ d o. h (λ array. a.set.written array ≡ true) (subst (AllByRecursion (λ array. a.set.written array ≡ true)) f (w.arrays d o));
  }

  pub writes_first : (e : Expr) (x y : Stmt) → WritesFit a (stmt.If e x y) → WritesFit a x
  writes_first e x y = writes_by (stmt.If e x y) (scalars_written x ++ scalars_written y) (arrays_written x ++ arrays_written y)
      (rolls.at_if (List ℕ) (List ℕ) scalars_step written_in_task e x y) (rolls.at_if (List ℕ) (List ℕ) arrays_step written_in_task e x y) x
      (λ P h. (all_apart P (scalars_written x) (scalars_written y) h).0) (λ P h. (all_apart P (arrays_written x) (arrays_written y) h).0)

  pub writes_second : (e : Expr) (x y : Stmt) → WritesFit a (stmt.If e x y) → WritesFit a y
  writes_second e x y = writes_by (stmt.If e x y) (scalars_written x ++ scalars_written y) (arrays_written x ++ arrays_written y)
      (rolls.at_if (List ℕ) (List ℕ) scalars_step written_in_task e x y) (rolls.at_if (List ℕ) (List ℕ) arrays_step written_in_task e x y) y
      (λ P h. (all_apart P (scalars_written x) (scalars_written y) h).1) (λ P h. (all_apart P (arrays_written x) (arrays_written y) h).1)

  pub writes_counted : (head : LoopHead) (x : Stmt) → WritesFit a (stmt.Counted head x) → WritesFit a x
  writes_counted head x = writes_by (stmt.Counted head x) (head.index.number ∷ scalars_written x) (arrays_written x)
      (rolls.at_counted (List ℕ) (List ℕ) scalars_step written_in_task head x) (rolls.at_counted (List ℕ) (List ℕ) arrays_step written_in_task head x) x
      (λ P h. h.1) (λ P h. h)

  pub index_changed : (head : LoopHead) (x : Stmt) → WritesFit a (stmt.Counted head x) → (d : LoopDirective) → a.set.over ≡ Some d → is_changed (a.set.roles head.index.number) ≡ true
  index_changed head x w d o = (subst (AllByRecursion (λ slot. is_changed (a.set.roles slot) ≡ true)) (rolls.at_counted (List ℕ) (List ℕ) scalars_step written_in_task head x) (w.scalars d o)).0

  -- those of each statement of a block
  writes_each : (all : List Stmt) → ((d : LoopDirective) → a.set.over ≡ Some d → AllByRecursion (λ slot. is_changed (a.set.roles slot) ≡ true) (concat (map scalars_written all)))
      → ((d : LoopDirective) → a.set.over ≡ Some d → AllByRecursion (λ array. a.set.written array ≡ true) (concat (map arrays_written all))) → AllByRecursion (WritesFit a) all
  writes_each [] s r = tt
  writes_each (x ∷ xs) s r = (
    record {
      scalars = λ d o. (all_apart (λ slot. is_changed (a.set.roles slot) ≡ true) (scalars_written x) (concat (map scalars_written xs)) (s d o)).0;
      arrays = λ d o. (all_apart (λ array. a.set.written array ≡ true) (arrays_written x) (concat (map arrays_written xs)) (r d o)).0;
    },
    writes_each xs (λ d o. (all_apart (λ slot. is_changed (a.set.roles slot) ≡ true) (scalars_written x) (concat (map scalars_written xs)) (s d o)).1)
        (λ d o. (all_apart (λ array. a.set.written array ≡ true) (arrays_written x) (concat (map arrays_written xs)) (r d o)).1),
  )

  pub writes_block : (all : List Stmt) → WritesFit a (stmt.Block all) → AllByRecursion (WritesFit a) all
  writes_block all w = writes_each all
      (λ d o. subst (AllByRecursion (λ slot. is_changed (a.set.roles slot) ≡ true)) (rolls.at_block (List ℕ) (List ℕ) scalars_step written_in_task all) (w.scalars d o))
      (λ d o. subst (AllByRecursion (λ array. a.set.written array ≡ true)) (rolls.at_block (List ℕ) (List ℕ) arrays_step written_in_task all) (w.arrays d o))

  -- ---- steps whose ways are known

  -- what follows a step, by the way that it took
  along_way : {A B : Type 0} (V : A → Type 0) (W : B → Type 0) (p q : Plan Event) (f : A → Run Notes B) (g : A → Run (Unit {0}) B)
      (stale : ℕ → Bool) (s : State Notes) (n : State (Unit {0})) (r : Step Notes A) (r' : Step (Unit {0}) A)
      → Safe a.node (sequence p q) stale → Along a V p stale s n r r'
      → ((v : A) (t : State Notes) (m : State (Unit {0})) (way : List Event) → V v → Path p way → Safe a.node q (left a.node way stale) → Agrees a (left a.node way stale) t m
      → Along a W q (left a.node way stale) t m (f v t) (g v m))
      → Along a W (sequence p q) stale s n (and_then r f) (and_then r' g)
  along_way V W p q f g stale s n (Gave v t) (Gave w m) safe h c =
      subst (λ y. Along a W (sequence p q) stale s n (f v t) (g y m)) h.same
      (goes_behind a W p q stale s t n m h.way h.path h.framed (f v t) (g v m)
      (c v t m h.way h.value h.path (safe_back a.node p q stale safe h.way h.path) h.agrees))
  along_way V W p q f g stale s n (Gave v t) (Ended e m) safe h c = absurd h
  along_way V W p q f g stale s n (Ended e t) (Gave w m) safe h c = absurd h
  along_way V W p q f g stale s n (Ended e t) (Ended d m) safe h c = h

  -- a step that marks nothing, as one along no plan
  unread : {A : Type 0} (V : A → Type 0) (t : Plan Event) (stale : ℕ → Bool) (s : State Notes) (n : State (Unit {0})) (r : Step Notes A) (r' : Step (Unit {0}) A)
      → MarksNothing t → Along a V t stale s n r r' → Along a V skip stale s n r r'
  unread V t stale s n (Gave v u) (Gave w m) idle h = record {
    same = h.same;
    value = h.value;
    way = [];
    path = refl;
    agrees = agrees_fewer a (left a.node h.way stale) stale u m (λ object e. idle a.node h.way h.path stale object ∙ e) h.agrees;
    framed = h.framed;
  }
  unread V t stale s n (Gave v u) (Ended e m) idle h = absurd h
  unread V t stale s n (Ended e u) (Gave w m) idle h = absurd h
  unread V t stale s n (Ended e u) (Ended d m) idle h = h

  way_unskipped : (q : Plan Event) (way : List Event) → Path (sequence skip q) way → Path q way
  way_unskipped q way w = subst (Path q) (sym (w.whole ∙ ap (λ l. l ++ w.back) w.in_front)) w.in_back

  -- nothing happens, along turns
  no_turns : (t b : Plan Event) → MarksNothing t → (stale : ℕ → Bool) (s : State Notes) (n : State (Unit {0})) → Agrees a stale s n
      → Along a IsNext (sequence (loop (sequence t b)) t) stale s n (Gave Next s) (Gave Next n)
  no_turns t b idle stale s n g =
      let y = some_path t in
      record {
        same = refl;
        value = refl;
        way = y.0;
        path = record { front = []; back = y.0; whole = refl; in_front = way_none (sequence t b); in_back = y.1 };
        agrees = agrees_fewer a stale (left a.node y.0 stale) s n (λ object e. sym (idle a.node y.0 y.1 stale object) ∙ e) g;
        framed = framed_same a s;
      }

-- what the lemmas of expressions and plain statements say
pub record Leaves : Type 0 where
  pub plain_parts : leaves.PlainFits
  pub block_parts : leaves.BlocksFit
  pub if_parts : leaves.IfsFit
  pub counted_parts : leaves.CountedsFit
  pub reads_keep : leaves.ReadsKeep
  pub unwritten_stay : leaves.UnwrittenStay
  pub expressions : leaves.ExpressionsCarry
  pub plains : leaves.PlainsCarry
  pub if_forms : leaves.IfFormsCarry

has_both : (all some node : ℕ) → has all node ≡ true → has some node ≡ true → has (bit_xor all some) node ≡ false
has_both all some node h k =
    ap (λ b. b == 1) (bit_at_xor all some node ∙ (λ i. (eqb-true (bit_at all node) 1 h i + eqb-true (bit_at some node) 1 k i) % 2))

module _ (p : Leaves) (a : Stand) (is : IsSetting a) (there : has a.set.nodes a.node ≡ true) (input : List ℕ) where
  abbrev pub scx : Context
  scx = serial_cx a.program input

  abbrev pub ncx : Context
  ncx = node_context a.program a.node input

  abbrev pub reads : Expr → Plan Event
  reads e = reads_of e a.set

  idle : (e : Expr) → MarksNothing (reads e)
  idle e node way w stale object = p.reads_keep a.set node e way w stale object

  -- ---- an index

  module _ (head : LoopHead) (int : scalar_type a.program head.index.number ≡ Int) (unreduced : is_reduced (a.set.roles head.index.number) ≡ false)
      (changed : (d : LoopDirective) → a.set.over ≡ Some d → is_changed (a.set.roles head.index.number) ≡ true)
      (from_fits : AllByRecursion (TermStands a.program) (terms_of a.program head.from)) (to_fits : AllByRecursion (TermStands a.program) (terms_of a.program head.to))
      (from_fine : NothingWrong (reads head.from)) (to_fine : NothingWrong (reads head.to)) where
    abbrev object_of : ℕ
    object_of = scalar_object head.index.number

    abbrev marked : Event
    marked = Mark (scalar_object head.index.number) a.set.nodes (others a.set)

    abbrev pub marks : Plan Event
    marks = assigned a.set head.index.number

    abbrev pub Current : (ℕ → Bool) → Type 0
    Current stale = stale (scalar_object head.index.number) ≡ false

    mark_current : (stale : ℕ → Bool) → left a.node (marked ∷ []) stale (scalar_object head.index.number) ≡ false
    mark_current stale =
        ap (λ b. if b then (has (others a.set) a.node || (not (has a.set.nodes a.node) && stale (scalar_object head.index.number))) else stale (scalar_object head.index.number))
        (eq-eqb (scalar_object head.index.number) (scalar_object head.index.number) refl)
        ∙ (ap (λ b. b || (not (has a.set.nodes a.node) && stale (scalar_object head.index.number)))
        (has_both (all_nodes a.set.program) a.set.nodes a.node (all_have a.set.program a.node (subst (λ q. a.node < node_count q) (sym is.program) is.below)) there)
        ∙ ap (λ b. not b && stale (scalar_object head.index.number)) there)

    mark_other : (stale : ℕ → Bool) (object : ℕ) → object ≢ scalar_object head.index.number → left a.node (marked ∷ []) stale object ≡ stale object
    mark_other stale object d = untouched a.node object (scalar_object head.index.number) a.set.nodes (others a.set) (other (scalar_object head.index.number == object) refl) (stale object)
      where
        other : (b : Bool) → (scalar_object head.index.number == object) ≡ b → (scalar_object head.index.number == object) ≡ false
        other true e = absurd (d (sym (eqb-true (scalar_object head.index.number) object e)))
        other false e = e

    int_fits : (v : ℤ) → FitsType (scalar_type a.program head.index.number) (wrap Int v)
    int_fits v = subst (λ ty. FitsType ty (wrap Int v)) (sym int) (wrap_fits Int v)

    set_index : (v : ℤ) → FitsType (scalar_type a.program head.index.number) v → Carried a Anything marks (set_scalar head.index.number v) (set_scalar head.index.number v)
    set_index v fits stale s n safe g = record {
      same = refl;
      value = tt;
      way = marked ∷ [];
      path = refl;
      agrees = agrees_set a is stale (left a.node (marked ∷ []) stale) s n head.index.number v fits (not_index a is head.index.number changed) unreduced
          (λ object d e. sym (mark_other stale object d) ∙ e) g;
      framed = set_framed a is s head.index.number v changed;
    }

    same_index : (stale : ℕ → Bool) (s : State Notes) (n : State (Unit {0})) → Current stale → Agrees a stale s n → scalar_in n head.index.number ≡ scalar_in s head.index.number
    same_index stale s n c g = g.scalars head.index.number unreduced c

    -- the test
    test_along : (stale : ℕ → Bool) (s : State Notes) (n : State (Unit {0})) → Current stale → Safe a.node (reads head.to) stale → Agrees a stale s n
        → Along a Anything (reads head.to) stale s n (inside (traced a.program) scx head s) (inside erased ncx head n)
    test_along stale s n c safe g =
        let i : ℤ = scalar_in s head.index.number in
        subst (λ j. Along a Anything (reads head.to) stale s n ((expr_of (traced a.program) scx head.to >>= (λ w. pure (is_inside head.inclusive i (wrap Int w)))) s)
        ((expr_of erased ncx head.to >>= (λ w. pure (is_inside head.inclusive j (wrap Int w)))) n)) (sym (same_index stale s n c g))
        (carried_last a (FitsType (type_of a.program head.to)) Anything (reads head.to) (expr_of (traced a.program) scx head.to) (expr_of erased ncx head.to)
        (λ w. pure (is_inside head.inclusive i (wrap Int w))) (λ w. pure (is_inside head.inclusive i (wrap Int w)))
        (p.expressions a is there input head.to to_fits to_fine) (λ w l. carried_pure a Anything (is_inside head.inclusive i (wrap Int w)) tt) stale s n safe g)

    -- the step
    step_along : (stale : ℕ → Bool) (s : State Notes) (n : State (Unit {0})) → Current stale → Safe a.node marks stale → Agrees a stale s n
        → Along a IsNext marks stale s n (step_up head s) (step_up head n)
    step_along stale s n c safe g =
        let i : ℤ = scalar_in s head.index.number in
        subst (λ j. Along a IsNext marks stale s n ((set_scalar head.index.number (wrap Int (i +ℤ pos head.step)) >>= (λ u. pure Next)) s)
        ((set_scalar head.index.number (wrap Int (j +ℤ pos head.step)) >>= (λ u. pure Next)) n)) (sym (same_index stale s n c g))
        (carried_last a Anything IsNext marks (set_scalar head.index.number (wrap Int (i +ℤ pos head.step))) (set_scalar head.index.number (wrap Int (i +ℤ pos head.step)))
        (λ u. pure Next) (λ u. pure Next) (set_index (wrap Int (i +ℤ pos head.step)) (int_fits (i +ℤ pos head.step))) (λ u l. carried_pure a IsNext Next refl) stale s n safe g)

    -- ---- turns

    module _ (b : Plan Event) (body : Run Notes Flow) (body' : Run (Unit {0}) Flow) (c : Carried a IsNext b body body')
        (kept : (way : List Event) → Path b way → (stale : ℕ → Bool) → Current stale → Current (left a.node way stale)) where
      abbrev pub turn : Plan Event
      turn = sequence b marks

      abbrev pub turning : Plan Event
      turning = sequence (loop (sequence (reads head.to) turn)) (reads head.to)

      one_along : (stale : ℕ → Bool) (s : State Notes) (n : State (Unit {0})) → Current stale → Safe a.node turn stale → Agrees a stale s n
          → Along a IsNext turn stale s n (then_run body (step_up head) s) (then_run body' (step_up head) n)
      one_along stale s n cur safe g =
          along_way a IsNext IsNext b marks (λ flow. after flow (step_up head)) (λ flow. after flow (step_up head)) stale s n (body s) (body' n) safe
          (c stale s n (safe_front a.node b marks stale safe) g)
          (λ flow t m way next path safe' g'. subst (λ x. Along a IsNext marks (left a.node way stale) t m (after x (step_up head) t) (after x (step_up head) m)) (sym next)
          (step_along (left a.node way stale) t m (kept way path stale cur) safe' g'))

      turn_current : (way : List Event) → Path turn way → (stale : ℕ → Bool) → Current (left a.node way stale)
      turn_current way w stale = subst (λ l. Current (left a.node l stale)) (sym (w.whole ∙ ap (λ l. w.front ++ l) w.in_back))
          (left_append a.node w.front (marked ∷ []) stale (scalar_object head.index.number) ∙ mark_current (left a.node w.front stale))

      turns_along : (k : ℕ) (stale : ℕ → Bool) (s : State Notes) (n : State (Unit {0})) → Current stale → Safe a.node turning stale → Agrees a stale s n
          → Along a IsNext turning stale s n (turns k (inside (traced a.program) scx head) (then_run body (step_up head)) s) (turns k (inside erased ncx head) (then_run body' (step_up head)) n)
      turns_along zero stale s n cur safe g = no_turns a (reads head.to) turn (idle head.to) stale s n g
      turns_along (suc k) stale s n cur safe g =
          goes_weaker a IsNext IsNext (one_turn a.program (reads head.to) turn) turning stale s n _ _ (λ v x. x) (unrolled a.program (reads head.to) turn)
          (along_way a Anything IsNext (reads head.to) (branch (sequence turn turning) skip)
          (λ more. choose more (then_run (then_run body (step_up head)) (turns k (inside (traced a.program) scx head) (then_run body (step_up head)))) (pure Next))
          (λ more. choose more (then_run (then_run body' (step_up head)) (turns k (inside erased ncx head) (then_run body' (step_up head)))) (pure Next))
          stale s n (inside (traced a.program) scx head s) (inside erased ncx head n)
          (safe_paths a.node turning (one_turn a.program (reads head.to) turn) stale (unrolled a.program (reads head.to) turn) safe)
          (test_along stale s n cur (bound_safe stale safe) g)
          (λ more t m way u path safe' g'. chosen (turns_along k) more (left a.node way stale) t m (idle head.to a.node way path stale (scalar_object head.index.number) ∙ cur) safe' g'))
        where
          bound_safe : (stale : ℕ → Bool) → Safe a.node turning stale → Safe a.node (reads head.to) stale
          bound_safe stale = safe_paths a.node turning (reads head.to) stale (λ way w. record { front = []; back = way; whole = refl; in_front = way_none (sequence (reads head.to) turn); in_back = w })

          more_along : ((stale : ℕ → Bool) (s : State Notes) (n : State (Unit {0})) → Current stale → Safe a.node turning stale → Agrees a stale s n
              → Along a IsNext turning stale s n (turns k (inside (traced a.program) scx head) (then_run body (step_up head)) s) (turns k (inside erased ncx head) (then_run body' (step_up head)) n))
              → (now : ℕ → Bool) (t : State Notes) (m : State (Unit {0})) → Current now → Safe a.node (sequence turn turning) now → Agrees a now t m
              → Along a IsNext (sequence turn turning) now t m (then_run (then_run body (step_up head)) (turns k (inside (traced a.program) scx head) (then_run body (step_up head))) t)
              (then_run (then_run body' (step_up head)) (turns k (inside erased ncx head) (then_run body' (step_up head))) m)
          more_along rest now t m now_current safe' g' =
              along_way a IsNext IsNext turn turning (λ flow. after flow (turns k (inside (traced a.program) scx head) (then_run body (step_up head))))
              (λ flow. after flow (turns k (inside erased ncx head) (then_run body' (step_up head)))) now t m (then_run body (step_up head) t) (then_run body' (step_up head) m) safe'
              (one_along now t m now_current (safe_front a.node turn turning now safe') g')
              (λ flow u l way next path safe'' g''.
              subst (λ x. Along a IsNext turning (left a.node way now) u l (after x (turns k (inside (traced a.program) scx head) (then_run body (step_up head))) u) (after x (turns k (inside erased ncx head) (then_run body' (step_up head))) l))
              (sym next) (rest (left a.node way now) u l (turn_current way path now) safe'' g''))

          chosen : ((stale : ℕ → Bool) (s : State Notes) (n : State (Unit {0})) → Current stale → Safe a.node turning stale → Agrees a stale s n
              → Along a IsNext turning stale s n (turns k (inside (traced a.program) scx head) (then_run body (step_up head)) s) (turns k (inside erased ncx head) (then_run body' (step_up head)) n))
              → (more : Bool) (now : ℕ → Bool) (t : State Notes) (m : State (Unit {0})) → Current now → Safe a.node (branch (sequence turn turning) skip) now → Agrees a now t m
              → Along a IsNext (branch (sequence turn turning) skip) now t m
              (choose more (then_run (then_run body (step_up head)) (turns k (inside (traced a.program) scx head) (then_run body (step_up head)))) (pure Next) t)
              (choose more (then_run (then_run body' (step_up head)) (turns k (inside erased ncx head) (then_run body' (step_up head)))) (pure Next) m)
          chosen rest true now t m now_current safe' g' =
              goes_weaker a IsNext IsNext (sequence turn turning) (branch (sequence turn turning) skip) now t m _ _ (λ v x. x) (λ way w. inl w)
              (more_along rest now t m now_current (safe_paths a.node (branch (sequence turn turning) skip) (sequence turn turning) now (λ way w. inl w) safe') g')
          chosen rest false now t m now_current safe' g' =
              goes_weaker a IsNext IsNext skip (branch (sequence turn turning) skip) now t m (Gave Next t) (Gave Next m) (λ v x. x) (λ way w. inr w)
              (carried_pure a IsNext Next refl now t m (safe_paths a.node (branch (sequence turn turning) skip) skip now (λ way w. inr w) safe') g')

      -- ---- the whole loop

      abbrev pub looping : Plan Event
      looping = sequence (reads head.from) (sequence marks turning)

      abbrev entry : {X : Type 0} → (h : Handlers X) → (cx : Context) → ℤ → Run X ℕ
      entry h cx v = set_scalar head.index.number (wrap Int v) >>= (λ u. expr_of h cx head.to >>= (λ w. pure (turn_count (wrap Int v) (wrap Int w) head.inclusive head.step)))

      abbrev going : ℕ → Run Notes Flow
      going k = turns k (inside (traced a.program) scx head) (then_run body (step_up head))

      abbrev going' : ℕ → Run (Unit {0}) Flow
      going' k = turns k (inside erased ncx head) (then_run body' (step_up head))

      -- the bound is evaluated once more than the plan has it, and that marks nothing
      bound_along : (v : ℤ) (stale : ℕ → Bool) (s : State Notes) (n : State (Unit {0})) → Current stale → Safe a.node turning stale → Agrees a stale s n
          → Along a IsNext turning stale s n
          (((expr_of (traced a.program) scx head.to >>= (λ w. pure (turn_count (wrap Int v) (wrap Int w) head.inclusive head.step))) >>= going) s)
          (((expr_of erased ncx head.to >>= (λ w. pure (turn_count (wrap Int v) (wrap Int w) head.inclusive head.step))) >>= going') n)
      bound_along v stale s n cur safe g =
          goes_weaker a IsNext IsNext (sequence skip turning) turning stale s n _ _ (λ x y. y) (way_unskipped a turning)
          (along_way a Anything IsNext skip turning going going' stale s n
          ((expr_of (traced a.program) scx head.to >>= (λ w. pure (turn_count (wrap Int v) (wrap Int w) head.inclusive head.step))) s)
          ((expr_of erased ncx head.to >>= (λ w. pure (turn_count (wrap Int v) (wrap Int w) head.inclusive head.step))) n)
          (safe_paths a.node turning (sequence skip turning) stale (way_unskipped a turning) safe)
          (unread a Anything (reads head.to) stale s n _ _ (idle head.to)
          (carried_last a (FitsType (type_of a.program head.to)) Anything (reads head.to) (expr_of (traced a.program) scx head.to) (expr_of erased ncx head.to)
          (λ w. pure (turn_count (wrap Int v) (wrap Int w) head.inclusive head.step)) (λ w. pure (turn_count (wrap Int v) (wrap Int w) head.inclusive head.step))
          (p.expressions a is there input head.to to_fits to_fine) (λ w l. carried_pure a Anything (turn_count (wrap Int v) (wrap Int w) head.inclusive head.step) tt) stale s n
          (safe_paths a.node turning (reads head.to) stale (λ way w. record { front = []; back = way; whole = refl; in_front = way_none (sequence (reads head.to) turn); in_back = w }) safe) g))
          (λ k t m way u path safe' g'. subst (λ l. Along a IsNext turning (left a.node l stale) t m (going k t) (going' k m)) (sym path)
          (turns_along k stale t m cur safe (subst (λ l. Agrees a (left a.node l stale) t m) path g'))))

      entry_along : (v : ℤ) (stale : ℕ → Bool) (s : State Notes) (n : State (Unit {0})) → Safe a.node (sequence marks turning) stale → Agrees a stale s n
          → Along a IsNext (sequence marks turning) stale s n ((entry (traced a.program) scx v >>= going) s) ((entry erased ncx v >>= going') n)
      entry_along v stale s n safe g =
          along_way a Anything IsNext marks turning
          (λ u. (expr_of (traced a.program) scx head.to >>= (λ w. pure (turn_count (wrap Int v) (wrap Int w) head.inclusive head.step))) >>= going)
          (λ u. (expr_of erased ncx head.to >>= (λ w. pure (turn_count (wrap Int v) (wrap Int w) head.inclusive head.step))) >>= going')
          stale s n (set_scalar head.index.number (wrap Int v) s) (set_scalar head.index.number (wrap Int v) n) safe
          (set_index (wrap Int v) (int_fits v) stale s n (safe_front a.node marks turning stale safe) g)
          (λ u t m way x path safe' g'.
          bound_along v (left a.node way stale) t m (subst (λ l. Current (left a.node l stale)) (sym path) (mark_current stale)) safe' g')

      pub loop_along : Carried a IsNext looping (counted (traced a.program) scx head body) (counted erased ncx head body')
      loop_along stale s n safe g =
          subst (λ r. Along a IsNext looping stale s n r (counted erased ncx head body' n))
          (sym (associative (State Notes) ℤ ℕ Flow (expr_of (traced a.program) scx head.from) (entry (traced a.program) scx) going s))
          (subst (λ r. Along a IsNext looping stale s n ((expr_of (traced a.program) scx head.from >>= (λ v. entry (traced a.program) scx v >>= going)) s) r)
          (sym (associative (State (Unit {0})) ℤ ℕ Flow (expr_of erased ncx head.from) (entry erased ncx) going' n))
          (along_way a (FitsType (type_of a.program head.from)) IsNext (reads head.from) (sequence marks turning)
          (λ v. entry (traced a.program) scx v >>= going) (λ v. entry erased ncx v >>= going') stale s n
          (expr_of (traced a.program) scx head.from s) (expr_of erased ncx head.from n) safe
          (p.expressions a is there input head.from from_fits from_fine stale s n (safe_front a.node (reads head.from) (sequence marks turning) stale safe) g)
          (λ v t m way u path safe' g'. entry_along v (left a.node way stale) t m safe' g')))
