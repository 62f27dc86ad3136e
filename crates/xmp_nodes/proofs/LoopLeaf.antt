-- All nodes follow a loop directive: the parts' ends joined are the serial end.
use Rattle.std.proofs.Common.{◌≡◌, ◌≢◌, ◌<◌, ◌+◌, ℕ, zero, suc, ℤ, true, List, [], ◌∷◌, length, map, Option, Some, refl, sym, subst, ap, ◌∙◌, arith}
use Rattle.std.specs.Prelude.{slice_get, unwrap_or}
use Rattle.std.specs.List.{AllByRecursion, filter, range_with_len}
use Rattle.std.proofs.lemmas.Option.{slice_get_within, none-some, same_Some}
use Rattle.std.proofs.lemmas.List.{length-map}
use Rattle.xmp_paths.specs.Plans.{Plan, sequence}
use Rattle.xmp_paths.specs.Safe.{left, NothingWrong}
use Rattle.xmp_paths.proofs.SafeLaws.{safe_back}
use Rattle.xmp_paths.specs.declared.event.Event.{Event}
use Rattle.xmp_prog.specs.declared.parts.ProgParts.{ProgParts}
use Rattle.xmp_prog.specs.declared.statements.LoopDirective.{LoopDirective}
use Rattle.xmp_prog.specs.declared.statements.Reduction.{Reduction}
use Rattle.xmp_prog.specs.declared.statements.Stmt.{Stmt}
use Rattle.xmp_prog.specs.declared.statements.Stmt.TheVariants as stmt
use Rattle.xmp_prog.proofs.Rolls.{at_loop}
use Rattle.xmp_prog.specs.Fits.{node_count}
use Rattle.xmp_prog.specs.Statements.{statements_of, indices_of}
use Rattle.xmp_meaning.specs.declared.ends.End.{End}
use Rattle.xmp_meaning.specs.declared.ends.Flow.{Flow}
use Rattle.xmp_meaning.specs.declared.ends.Flow.TheVariants.{Next, Returned}
use Rattle.xmp_meaning.specs.Runs.{State, StepIn, Step, Gave, Ended, Run, and_then, state_of}
use Rattle.xmp_meaning.specs.Blocks.{after}
use Rattle.xmp_meaning.specs.Handlers.{TaskRun}
use Rattle.xmp_meaning.specs.Statements.{stmt_step, task_step, stmt_of}
use Rattle.xmp_meaning.specs.LoopEnds.{all_joined, no_turn, ending, set_all, closed}
use Rattle.xmp_meaning.specs.Parts.{part_of}
use Rattle.xmp_meaning.specs.Exchanges.{Exchange, LoopEnd, PartEnd, Notes, part_end, values_of, traced}
use Rattle.xmp_meaning.specs.Messages.{Message, message}
use Rattle.xmp_meaning.specs.Traffic.{node_context}
use Rattle.xmp_meaning_laws.specs.Laws.{scalar_in, is_no_print}
use Rattle.xmp_meaning_laws.specs.Tuples.{ends, set_where, leaving, for_each, owns_tuple}
use Rattle.xmp_loops.specs.Roles.{role_in}
use Rattle.xmp_loops.specs.declared.role.Role.TheVariants.{Reduced}
use Rattle.xmp_flow.specs.LoopEvents.{loop_events}
use Rattle.xmp_flow.specs.Statements.{events_of}
use Rattle.xmp_flow.specs.Program.{outermost}
use Rattle.xmp_nodes.specs.Nodes.{Nodes, bounded, with_steps, raised_by, saying}
use Rattle.xmp_nodes.specs.Parts.{own_part, all_parts, ends_of, own_turns, loop_all}
use Rattle.xmp_nodes.specs.Lockstep.{lockstep}
use Rattle.xmp_nodes.specs.Worlds.{out_of}
use Rattle.xmp_nodes.proofs.Agrees.{IsWhole, IsNext, ReadyAt, Counted, Ready, AllAlong}
use Rattle.xmp_nodes.proofs.Standing.{IsGlobal, PartFits, NoReturn}
use Rattle.xmp_nodes.proofs.Leaves.{serial_cx, noting, LoopFits, LoopsFit, AloneIsErased, StatementsCarry, LoopsFollow}
use Rattle.xmp_nodes.proofs.Each.{Alone, AllAre, Meets, AllMeet, all_do_meets, there, state_of_node, states_length, raised_length, turns_at}
use Rattle.xmp_nodes.proofs.Saying.{SaidAsNoted, say_and_do}
use Rattle.xmp_nodes.proofs.PackedRows.{some_nodes}
use Rattle.xmp_nodes.proofs.Turns.{AllWhole, OneFell, Sides}
use Rattle.xmp_nodes.proofs.JoinedEnds.{EndsLater, joined_first, all_are_joined, first_of_all, total_at, EndsWhole, whole_of_all}
use Rattle.xmp_nodes.proofs.LoopBodies.{body_facts}
use Rattle.xmp_nodes.proofs.LoopOwn.{added_by, bounded_added, owned_count, none_counted, raised_same}
use Rattle.xmp_nodes.proofs.LoopWays as ways
use Rattle.xmp_nodes.proofs.LoopFacts.{by_role, reductions_nothing, body_nothing, set}
use Rattle.xmp_nodes.proofs.WholeStays.{whole_stays}
use Rattle.xmp_nodes.proofs.LoopBegins.{begun_from}
use Rattle.xmp_nodes.proofs.LoopEntry as entry
use Rattle.xmp_nodes.proofs.LoopCloses as closes
use Rattle.xmp_nodes.proofs.LoopCloses.{put, put_is}
use Rattle.xmp_nodes.proofs.LoopParts.{each_ranged, HaveValues, ends_said, values_length, all_have_values, later_end, values_named, prints_nothing, turns_print_nothing, noting_prints_nothing}
use Rattle.xmp_nodes.proofs.LoopRuns as runs

range_length : (a n : ℕ) → length (range_with_len a n) ≡ n
range_length a zero = refl
range_length a (suc n) = ap suc (range_length (a + 1) n)

mapped_alike : (P : Reduction → Type 0) (f g : Reduction → ℤ) → ((r : Reduction) → P r → f r ≡ g r) → (rs : List Reduction) → AllByRecursion P rs → map f rs ≡ map g rs
mapped_alike P f g h [] a = refl
mapped_alike P f g h (r ∷ rs) a = ap (λ x. x ∷ map f rs) (h r a.0) ∙ ap (λ l. g r ∷ l) (mapped_alike P f g h rs a.1)

out_at_first : (ss : List Alone) (x : Alone) → slice_get ss 0 ≡ Some x → out_of ss ≡ x.out
out_at_first [] x e = absurd (none-some x e)
out_at_first (y ∷ ss) x e = ap (λ (n : Alone). n.out) (same_Some y x e)

module _ (p : ProgParts) (global : IsGlobal p) (some : 0 < node_count p) (input : List ℕ) (d : LoopDirective) (body : Stmt) (fits : LoopFits p d body) (go : NoReturn body)
    (nothing : NothingWrong (loop_events d body (events_of body) (outermost p))) (carry : StatementsCarry) (alone : AloneIsErased)
    (rest : Plan Event) (s : State Notes) (w : Nodes) (ready : Ready p (sequence (loop_events d body (events_of body) (outermost p)) rest) s w)
    (part_fits : PartFits p (stmt.Loop d body)) where
  abbrev rs : List Reduction
  rs = d.reductions

  abbrev slots : List ℕ
  slots = indices_of d.nest

  abbrev node_turn : ℕ → Run (Unit {0}) Flow
  node_turn = (lockstep p input body).at

  abbrev serial_turn : Run Notes Flow
  serial_turn = runs.serial_turn p global some input d body fits go nothing carry alone rest s w ready

  abbrev store : ℕ → Alone
  store = runs.store p global some input d body fits go nothing carry alone rest s w ready

  abbrev all : List (List ℤ)
  all = runs.all p global some input d body fits go nothing carry alone rest s w ready

  abbrev start : State Notes
  start = runs.start p global some input d body fits go nothing carry alone rest s w ready

  abbrev noted_ends : List PartEnd
  noted_ends = runs.noted_ends p global some input d body fits go nothing carry alone rest s w ready

  abbrev part_at : ℕ → Step (Unit {0}) Flow
  part_at = runs.part_at p global some input d body fits go nothing carry alone rest s w ready

  abbrev between : List (List ℤ) → State Notes → (ℕ → Alone) → Type 0
  between = runs.between p global some input d body fits go nothing carry alone rest s w ready

  abbrev lefts : List (Option ℤ)
  lefts = ends (scalar_in s) d.nest

  -- ---- the parts and their ends

  abbrev run : ℕ → Run (Unit {0}) Flow
  run k = own_part p d node_turn k

  abbrev part_ended : ℕ → PartEnd
  part_ended k = part_end d (run k (store k))

  abbrev all_ended : List PartEnd
  all_ended = ends_of p d node_turn w

  abbrev joint : PartEnd
  joint = all_joined p rs (no_turn p rs) all_ended

  abbrev behind : Nodes
  behind = with_steps (all_parts p d node_turn w) (record w { turns = raised_by (λ node. unwrap_or (slice_get (own_turns p d 0 w.stores) node) 0) 0 w.turns })

  abbrev told : ℕ → ℕ → Message
  told = message p (LoopEnd d all_ended)

  store_there : (k : ℕ) → k < node_count p → slice_get w.stores k ≡ Some (store k)
  store_there = runs.store_at_node p global some input d body fits go nothing carry alone rest s w ready

  run_is : (k : ℕ) → k < node_count p → run k (store k) ≡ part_at k
  run_is = runs.own_part_is p global some input d body fits go nothing carry alone rest s w ready

  ended_in_order : all_ended ≡ map part_ended (range_with_len 0 (node_count p))
  ended_in_order =
      each_ranged (part_end d) run store 0 w.stores
      (λ k l. store_there k (subst (λ n. k < n) ready.many l) ∙ ap (λ j. Some (store j)) (let q : k ≡ 0 + k = omega arith in q))
      ∙ ap (λ n. map part_ended (range_with_len 0 n)) ready.many

  joint_is : joint ≡ joined_first p rs part_ended (node_count p)
  joint_is = ap (all_joined p rs (no_turn p rs)) ended_in_order ∙ all_are_joined p rs part_ended (node_count p)

  behind_many : length behind.stores ≡ node_count p
  behind_many = states_length run 0 w.stores ∙ ready.many

  -- a node's state behind its part
  behind_at : (k : ℕ) (n : Alone) → slice_get behind.stores k ≡ Some n → (k < node_count p) × (n ≡ state_of (run k (store k)))
  behind_at k n e =
      let m : _ = state_of_node run w.stores k n e in
      let below : k < node_count p = subst (λ c. k < c) ready.many (slice_get_within w.stores k m.0 m.1) in
      (below, m.2 ∙ ap (λ x. state_of (run k x)) (same_Some m.0 (store k) (sym m.1 ∙ store_there k below)))

  -- ---- counts

  turns_of : (k : ℕ) → k < node_count p → unwrap_or (slice_get (own_turns p d 0 w.stores) k) 0 ≡ owned_count p d all k
  turns_of k below =
      ap (λ o. unwrap_or o 0) (turns_at p d w.stores k (store k) (store_there k below))
      ∙ ap length (runs.own_before p global some input d body fits go nothing carry alone rest s w ready k below)

  counted_now : (turns : List ℕ) → turns ≡ added_by (owned_count p d all) 0 s.extra.turns → Counted p (record s.extra { turns = turns }) behind.turns behind.sent
  counted_now turns e = record {
    many = raised_length (λ node. unwrap_or (slice_get (own_turns p d 0 w.stores) node) 0) 0 w.turns ∙ ready.counts.many;
    turns =
        raised_same (λ node. unwrap_or (slice_get (own_turns p d 0 w.stores) node) 0) (owned_count p d all) 0 w.turns
        (λ k l. subst (λ j. unwrap_or (slice_get (own_turns p d 0 w.stores) j) 0 ≡ owned_count p d all j) (let q : k ≡ 0 + k = omega arith in q)
        (turns_of k (subst (λ c. k < c) ready.counts.many l)))
        ∙ ap (raised_by (owned_count p d all) 0) ready.counts.turns
        ∙ bounded_added (owned_count p d all) 0 s.extra.turns
        ∙ ap (map bounded) (sym e);
    rows = ready.counts.rows;
    row = ready.counts.row;
    sent = ready.counts.sent;
  }

  told_as_noted : SaidAsNoted p told (LoopEnd d noted_ends)
  told_as_noted =
      ends_said p d (length (map (λ (r : Reduction). r.variable.number) rs)) all_ended noted_ends
      (subst (HaveValues (length (map (λ (r : Reduction). r.variable.number) rs))) (sym ended_in_order)
      (all_have_values d part_ended (range_with_len 0 (node_count p)) (λ k. values_length (state_of (run k (store k))) (map (λ (r : Reduction). r.variable.number) rs))))
      (all_have_values d (λ node. part_end d (part_of p d node (runs.around p global some input d body fits go nothing carry alone rest s w ready) (noting p input body) s)) (range_with_len 0 (node_count p))
      (λ node. values_length (state_of (part_of p d node (runs.around p global some input d body fits go nothing carry alone rest s w ready) (noting p input body) s)) (map (λ (r : Reduction). r.variable.number) rs)))
      (ap length ended_in_order ∙ length-map (range_with_len 0 (node_count p)) part_ended ∙ range_length 0 (node_count p))
      (length-map (range_with_len 0 (node_count p)) (λ node. part_end d (part_of p d node (runs.around p global some input d body fits go nothing carry alone rest s w ready) (noting p input body) s))
      ∙ range_length 0 (node_count p))

  -- ---- all parts went to their end

  -- the serial run of the directive, by that of its turns
  serial_by : (r : Step Notes Flow) → for_each slots all serial_turn start ≡ r
      → stmt_of (traced p) (serial_cx p input) (stmt.Loop d body) s ≡ and_then r (λ flow. after flow (leaving slots lefts))
  serial_by r e =
      ap (λ (f : Run Notes Flow). f s) (at_loop (Run Notes Flow) (TaskRun Notes) (stmt_step (traced p) (serial_cx p input)) task_step d body)
      ∙ runs.serial_fold p global some input d body fits go nothing carry alone rest s w ready
      ∙ ap (λ q. and_then q (λ flow. after flow (leaving slots lefts))) e

  module _ (t : State Notes) (went : for_each slots all serial_turn start ≡ Gave Next t) (aw : AllWhole slots (node_count p) serial_turn node_turn (owns_tuple p d) between t part_at) where
    abbrev last : State Notes
    last = record t { scalars = set_where slots lefts t.scalars }

    run_gave : (k : ℕ) → k < node_count p → run k (store k) ≡ Gave Next (aw.states k)
    run_gave k below = run_is k below ∙ aw.gave k below

    abbrev value : ℕ → Reduction → ℤ
    value k r = scalar_in (aw.states k) r.variable.number

    whole_end : (k : ℕ) → k < node_count p → EndsWhole p rs (map (value k) rs) (part_ended k)
    whole_end k below =
        subst (λ r. EndsWhole p rs (map (value k) rs) (part_end d r)) (sym (run_gave k below)) (record { ended = refl; has = values_named (aw.states k) rs })

    joint_whole : EndsWhole p rs (map (total_at p rs value (node_count p)) rs) joint
    joint_whole =
        subst (EndsWhole p rs (map (total_at p rs value (node_count p)) rs)) (sym joint_is) (whole_of_all p rs part_ended value (node_count p) whole_end (node_count p) (omega arith))

    totals : map (total_at p rs value (node_count p)) rs ≡ map (λ r. scalar_in t r.variable.number) rs
    totals = mapped_alike (λ r. role_in d body r.variable.number ≡ Reduced r.op) (total_at p rs value (node_count p)) (λ r. scalar_in t r.variable.number)
        (λ r e. aw.holds.sums r.variable.number r.op e) rs
        (by_role d body (outermost p) (reductions_nothing p global some (entry.first_have p global some d body fits nothing) d body fits nothing))

    closed_is : (n : Alone) → closed rs joint n ≡ Gave Next (put rs (scalar_in t) n)
    closed_is n =
        ap (λ o. ending o (set_all (map (λ r. r.variable) rs) joint.values) n) joint_whole.ended
        ∙ ap (λ vs. set_all (map (λ r. r.variable) rs) vs n) (joint_whole.has ∙ totals)
        ∙ put_is rs (scalar_in t) n

    whole_last : IsWhole p last
    whole_last = subst (λ (r : Step Notes Flow). IsWhole p (state_of r)) (serial_by (Gave Next t) went)
        (whole_stays p input (stmt.Loop d body) some part_fits s (runs.whole p global some input d body fits go nothing carry alone rest s w ready))

    ready_behind : (k : ℕ) (below : k < node_count p) → ReadyAt p k rest last (put rs (scalar_in t) (aw.states k))
    ready_behind k below =
        let before : ReadyAt p k (sequence (loop_events d body (events_of body) (outermost p)) rest) s (store k) =
        runs.ready_at p global some input d body fits go nothing carry alone rest s w ready k below in record {
          stale = left k (closes.way p global some d body fits nothing k below) before.stale;
          safe = safe_back k (loop_events d body (events_of body) (outermost p)) rest before.stale before.safe (closes.way p global some d body fits nothing k below)
              (ways.loop_path (outermost p) d body (events_of body) k (entry.here p global some d body fits nothing k below)
              (entry.inside_quiet p global some d body fits nothing k below) (entry.nest_quiet p global some d body fits nothing k below)
              (entry.reductions_quiet p global some d body fits nothing k below));
          agrees = closes.agrees_then p global some d body fits nothing k below before.stale t (aw.states k) lefts (aw.holds.each k below) aw.holds.whole whole_last
              (runs.reduced_below p global some input d body fits go nothing carry alone rest s w ready);
        }

    each_closes : (k : ℕ) (n : Alone) → slice_get behind.stores k ≡ Some n → (m : Alone) × (closed rs joint n ≡ Gave Next m) × ReadyAt p k rest last m
    each_closes k n e =
        let at : _ = behind_at k n e in
        let same : n ≡ aw.states k = at.1 ∙ ap state_of (run_gave k at.0) in
        (put rs (scalar_in t) n, closed_is n, subst (λ x. ReadyAt p k rest last (put rs (scalar_in t) x)) (sym same) (ready_behind k at.0))

    all_went : AllAlong p IsNext rest (Gave Next last) (loop_all p d node_turn w)
    all_went =
        say_and_do p rest IsNext Next Next (λ node. closed rs joint) (record s { extra = record s.extra { turns = t.extra.turns } }) last behind told (LoopEnd d noted_ends)
        some behind_many refl (counted_now t.extra.turns (sym (none_counted p d 0 t.extra.turns) ∙ aw.holds.turns)) told_as_noted
        (ap (λ xs. with_turns xs t.extra.turns) aw.holds.noted) each_closes
      where
        with_turns : List Exchange → List ℕ → Notes
        with_turns xs turns = record { exchanges = xs; turns = turns }

  -- ---- one part ended early

  module _ (end : End) (t : State Notes) (went : for_each slots all serial_turn start ≡ Ended end t) (one : OneFell slots (node_count p) serial_turn node_turn (owns_tuple p d) between end part_at) where
    run_ended : run one.node (store one.node) ≡ Ended end one.state
    run_ended = run_is one.node one.below ∙ one.ended

    fell : (part_ended one.node).ended ≡ Some end
    fell = ap (λ r. (part_end d r).ended) run_ended

    fell_at : (part_ended one.node).indices ≡ values_of one.state slots
    fell_at = ap (λ r. (part_end d r).indices) run_ended

    later : (k : ℕ) → k < node_count p → k ≢ one.node → EndsLater (part_ended one.node).indices (part_ended k)
    later k below ne =
        subst (λ vs. EndsLater vs (part_ended k)) (sym fell_at)
        (subst (λ r. EndsLater (values_of one.state slots) (part_end d r)) (sym (run_is k below)) (later_end d (values_of one.state slots) (part_at k) (one.others k below ne)))

    joint_end : joint.ended ≡ Some end
    joint_end =
        ap (λ (a : PartEnd). a.ended) (joint_is ∙ first_of_all p rs part_ended (node_count p) one.node end fell later (node_count p) one.below (omega arith)) ∙ fell

    stopped : (n : Alone) → closed rs joint n ≡ Ended end n
    stopped n = ap (λ o. ending o (set_all (map (λ r. r.variable) rs) joint.values) n) joint_end

    -- ---- nothing is printed

    silent : AllByRecursion (λ y. is_no_print y ≡ true) (statements_of body)
    silent = (body_facts (set p global some (entry.first_have p global some d body fits nothing) d body fits nothing) d refl refl body fits.inner.terms
        (body_nothing p global some (entry.first_have p global some d body fits nothing) d body fits nothing)).prints

    serial_out : t.out ≡ s.out
    serial_out =
        ap (λ (r : Step Notes Flow). (state_of r).out) (sym went)
        ∙ turns_print_nothing slots all serial_turn (λ x. noting_prints_nothing p (serial_cx p input) body silent _) start

    first_out : (state_of (run 0 (store 0))).out ≡ t.out
    first_out =
        ap (λ (r : Step (Unit {0}) Flow). (state_of r).out) (run_is 0 some)
        ∙ turns_print_nothing slots (filter (owns_tuple p d 0) all) (node_turn 0)
        (λ x. ap (λ (f : Run (Unit {0}) Flow). (state_of (f x)).out) (alone p input body 0) ∙ prints_nothing (node_context p 0 input) body silent x)
        (runs.begun_at p global some input d body fits go nothing carry alone rest s w ready 0)
        ∙ (begun_from p 0 rs (store 0)).out
        ∙ sym ((runs.ready_at p global some input d body fits go nothing carry alone rest s w ready 0 some).agrees.out [] refl)
        ∙ sym serial_out

    -- node 0 has the serial text
    abbrev Text : ℕ → State Notes → Alone → Type 0
    Text k u n = k ≡ 0 → n.out ≡ u.out

    abbrev Nothing : ℕ → Flow → State Notes → Alone → Type 0
    Nothing k v u n = Unit {0}

    each_stops : (k : ℕ) (n : Alone) → slice_get behind.stores k ≡ Some n → Meets Text Nothing k (Ended end t) (closed rs joint n)
    each_stops k n e =
        subst (λ q. Meets Text Nothing k (Ended end t) q) (sym (stopped n))
        (refl, λ z. ap (λ (x : Alone). x.out) ((behind_at k n e).1) ∙ ap (λ j. (state_of (run j (store j))).out) z ∙ first_out)

    ends_alike : (q : StepIn Nodes Flow) → AllMeet Text Nothing (saying told behind) (Ended end t) q → AllAlong p IsNext rest (Ended end t) q
    ends_alike (Gave v x) m = absurd m
    ends_alike (Ended f x) m =
        let are : AllAre (saying told behind) Text t x = m.1 in
        let first : _ = there x.stores 0 (let l : length x.stores ≡ node_count p = are.length ∙ behind_many in subst (λ n. 0 < n) (sym l) some) in
        record { same = m.0; out = out_at_first x.stores first.0 first.1 ∙ are.each 0 first.0 first.1 refl }

    all_stopped : AllAlong p IsNext rest (Ended end t) (loop_all p d node_turn w)
    all_stopped =
        ends_alike (loop_all p d node_turn w)
        (all_do_meets Text Nothing Next (λ node. closed rs joint) (saying told behind) (Ended end t) (subst (λ n. 0 < n) (sym behind_many) some) each_stops)

  -- ---- both

  by_turns : (r : Step Notes Flow) → for_each slots all serial_turn start ≡ r → Sides slots (node_count p) serial_turn node_turn (owns_tuple p d) between r part_at
      → AllAlong p IsNext rest (and_then r (λ flow. after flow (leaving slots lefts))) (loop_all p d node_turn w)
  by_turns (Gave Next t) e h = all_went t e h
  by_turns (Gave (Returned v) t) e h = absurd h
  by_turns (Ended end t) e h = all_stopped end t e h

  pub loop_follows : AllAlong p IsNext rest (stmt_of (traced p) (serial_cx p input) (stmt.Loop d body) s) (loop_all p d node_turn w)
  loop_follows =
      subst (λ r. AllAlong p IsNext rest r (loop_all p d node_turn w)) (sym (serial_by (for_each slots all serial_turn start) refl))
      (by_turns (for_each slots all serial_turn start) refl (runs.beside p global some input d body fits go nothing carry alone rest s w ready))

-- All nodes follow a loop directive, where a node's own run follows its body.
pub loops_follow : LoopsFit → AloneIsErased → StatementsCarry → LoopsFollow
loops_follow fit alone carry p global input d body part_fits go nothing rest s w ready =
    subst (λ r. AllAlong p IsNext rest r (loop_all p d (lockstep p input body).at w))
    (ap (λ (f : Run Notes Flow). f s) (at_loop (Run Notes Flow) (TaskRun Notes) (stmt_step (traced p) (serial_cx p input)) task_step d body))
    (loop_follows p global (some_nodes p) input d body (fit p d body part_fits) go nothing carry alone rest s w ready part_fits)
