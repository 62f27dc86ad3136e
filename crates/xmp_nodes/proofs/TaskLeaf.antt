-- All nodes follow tasks.
use Rattle.std.proofs.Common.{◌≡◌, ◌<◌, ◌≤◌, ◌++◌, ◌==◌, ◌⊎◌, inl, inr, if◌then◌else◌, ℕ, zero, suc, Bool, true, false, List, [], ◌∷◌, map, length, Some, None, refl, sym, ap, subst, ◌∙◌, arith}
use Rattle.std.specs.Prelude.{slice_get, unwrap_or}
use Rattle.std.specs.List.{AllByRecursion}
use Rattle.std.proofs.lemmas.Bool.{cases_lt, eq-eqb}
use Rattle.xmp_paths.specs.declared.event.Event.{Event}
use Rattle.std.proofs.lemmas.Option.{none-some, same_Some, slice_get_within}
use Rattle.xmp_base.specs.declared.place.Place.{Place}
use Rattle.xmp_prog.specs.declared.parts.ProgParts.{ProgParts}
use Rattle.xmp_prog.specs.declared.statements.Task.{Task}
use Rattle.xmp_prog.specs.Fits.{node_count}
use Rattle.xmp_prog.specs.NodeSets.{is_node_set}
use Rattle.xmp_paths.specs.Plans.{Plan, sequence}
use Rattle.xmp_paths.specs.Safe.{Safe}
use Rattle.xmp_paths.proofs.SafeLaws.{safe_paths}
use Rattle.xmp_loops.specs.Objects.{all_nodes}
use Rattle.xmp_meaning.specs.declared.ends.End.{End}
use Rattle.xmp_meaning.specs.declared.ends.Flow.{Flow}
use Rattle.xmp_meaning.specs.declared.ends.Flow.TheVariants.{Next}
use Rattle.xmp_meaning.specs.Runs.{State, Step, Gave, Ended, Run, state_of, pure}
use Rattle.xmp_meaning.specs.Exchanges.{Notes, Exchange, TaskEnd, TasksEnd, unprinted, task_end}
use Rattle.xmp_meaning.specs.LoopEnds.{ending}
use Rattle.xmp_meaning.specs.TaskEnds.{leader, first_end, texts}
use Rattle.xmp_meaning.specs.Messages.{Message, message, words_sent}
use Rattle.xmp_meaning.specs.Traffic.{node_beginning, copied}
use Rattle.xmp_move.specs.Stores.{IsIn}
use Rattle.xmp_nodes.specs.Nodes.{Nodes, store_at, saying}
use Rattle.xmp_nodes.specs.Tasks.{own_runs, led_end, task_ends, with_texts}
use Rattle.xmp_nodes.specs.Worlds.{out_of}
use Rattle.xmp_nodes.proofs.Agrees.{Agrees, ReadyAt, Counted, Ready, base_at, at_main, AllAlong, IsNext}
use Rattle.xmp_nodes.proofs.Standing.{IsGlobal}
use Rattle.xmp_nodes.proofs.Leaves.{StatementsCarry, StatementsSkip, AllTasksFit, TasksFollow, noted_task, node_task, task_plan}
use Rattle.xmp_nodes.proofs.InStep.{way_skipped, way_first}
use Rattle.xmp_nodes.proofs.Each.{Alone, each_at, state_at, with_text, texts_at, texts_length, states_length, there, store_there}
use Rattle.xmp_nodes.proofs.NodeBits.{leader_below, leader_has}
use Rattle.xmp_nodes.proofs.Saying.{counts_said}
use Rattle.xmp_nodes.proofs.PackedRows.{some_nodes}
use Rattle.xmp_nodes.proofs.CastLeaf.{noting_one}
use Rattle.xmp_nodes.proofs.CopiedLaws.{copied_stays, tasks_copies}
use Rattle.xmp_nodes.proofs.TaskSteps.{is_member, own_run, are_apart, are_sets, own_of_member}
use Rattle.xmp_nodes.proofs.TaskProgress.{agrees_there, events_all, TasksGood, end_by, end_led, ends_led, Before, NotedLed, AllDone, OneEnds, Comes, Begins, all_serial, all_come}

first_out : (ss : List Alone) (n : Alone) → slice_get ss 0 ≡ Some n → out_of ss ≡ n.out
first_out [] n e = absurd (none-some n e)
first_out (m ∷ ss) n e = ap (λ (u : Alone). u.out) (same_Some m n e)

module _ (carry : StatementsCarry) (skips : StatementsSkip) (p : ProgParts) (global : IsGlobal p) (input : List ℕ) (all : List Task) (at : Place) (good : TasksGood p all)
    (rest : Plan Event) (s : State Notes) (w : Nodes) (ready : Ready p (sequence (task_plan p all at) rest) s w) where
  abbrev none_there : Alone
  none_there = node_beginning p 0 0

  abbrev node_at : ℕ → Alone
  node_at k = store_at none_there w k

  some : 0 < node_count p
  some = some_nodes p

  there_at : (k : ℕ) → k < node_count p → slice_get w.stores k ≡ Some (node_at k)
  there_at k lt = store_there none_there w k (let l = ready.many in omega (arith, l, lt))

  ready_at : (k : ℕ) → k < node_count p → ReadyAt p k (sequence (task_plan p all at) rest) s (node_at k)
  ready_at k lt = ready.nodes k (node_at k) (there_at k lt)

  -- what a node has out of date; of no account without such a node
  bits_of : (k : ℕ) → (k < node_count p) ⊎ (node_count p ≤ k) → ℕ → Bool
  bits_of k (inl lt) = (ready_at k lt).stale
  bits_of k (inr le) = λ object. false

  bits : ℕ → ℕ → Bool
  bits k = bits_of k (cases_lt k (node_count p))

  ready_by : (k : ℕ) → k < node_count p → (c : (k < node_count p) ⊎ (node_count p ≤ k))
      → Safe k (sequence (task_plan p all at) rest) (bits_of k c) × Agrees (at_main p k) (bits_of k c) s (node_at k)
  unfolding bits_of
  ready_by k lt (inl less) = ((ready_at k less).safe, (ready_at k less).agrees)
  ready_by k lt (inr le) = absurd (omega (arith, lt, le))

  ready_bits : (k : ℕ) → k < node_count p → Safe k (sequence (task_plan p all at) rest) (bits k) × Agrees (at_main p k) (bits k) s (node_at k)
  unfolding bits
  ready_bits k lt = ready_by k lt (cases_lt k (node_count p))

  -- ---- the ends

  abbrev x : Exchange
  x = TasksEnd (map (task_end s) (map (noted_task p input) all))

  abbrev s1 : State Notes
  s1 = noting_one x s

  abbrev first_states : ℕ → Alone
  first_states k = unprinted (node_at k)

  abbrev end_told : Task → TaskEnd
  end_told t = end_led carry skips p global input rest s node_at bits t

  abbrev ends_told : List Task → List TaskEnd
  ends_told ts = ends_led carry skips p global input rest s node_at bits ts

  abbrev own : ℕ → Run (Unit {0}) Flow
  own node u = own_run p input node all (unprinted u)

  abbrev steps : List (Step (Unit {0}) Flow)
  steps = own_runs p (map (node_task p input) all) w

  abbrev ends : List TaskEnd
  ends = task_ends p (map (node_task p input) all) steps

  one_end : (t : Task) → IsIn t all → is_node_set p.grid t.nodes ≡ true → led_end p steps (node_task p input t) ≡ end_told t
  one_end t i set =
      let l : ℕ = leader p t.nodes in
      let below : l < node_count p = leader_below p t.nodes set in
      let member : is_member p l t ≡ true = leader_has p t.nodes set in
      ap (λ b. if b then end_by t.nodes (unwrap_or (slice_get steps l) (Gave Next none_there)) else record { nodes = t.nodes; ended = None; text = [] }) member
      ∙ ap (λ o. end_by t.nodes (unwrap_or o (Gave Next none_there))) (each_at own w.stores l (node_at l) (there_at l below))
      ∙ ap (end_by t.nodes) (own_of_member p input l below all good.apart t i member (first_states l))

  each_end : (ts : List Task) → ((t : Task) → IsIn t ts → IsIn t all) → AllByRecursion (λ t. is_node_set p.grid t.nodes ≡ true) ts
      → map (led_end p steps) (map (node_task p input) ts) ≡ map end_told ts
  unfolding IsIn
  each_end [] h sets = refl
  each_end (t ∷ ts) h sets = λ i. one_end t (h t (inl refl)) sets.0 i ∷ each_end ts (λ u m. h u (inr m)) sets.1 i

  ends_are : ends ≡ ends_told all
  ends_are = each_end all (λ t i. i) good.sets

  noted_are : (ts : List Task) → AllByRecursion (NotedLed carry skips p global input rest s node_at bits) ts → map (task_end s) (map (noted_task p input) ts) ≡ map end_told ts
  noted_are [] h = refl
  noted_are (t ∷ ts) h = λ i. h.0 i ∷ noted_are ts h.1 i

  -- ---- before, and behind

  copies_same : (array number : ℕ) → copied s1.extra.exchanges array number ≡ copied s.extra.exchanges array number
  copies_same array number = copied_stays s.extra.exchanges x (tasks_copies (map (task_end s) (map (noted_task p input) all))) array number

  begins : Begins carry skips p global input rest s node_at bits
  begins = record { agrees = λ k lt. (ready_bits k lt).1 }

  before_all : (k : ℕ) → k < node_count p → Before carry skips p global input rest s node_at bits all k s1 (first_states k)
  before_all k lt =
      let r = ready_bits k lt in
      record {
        stale = bits k;
        safe = safe_paths k (sequence (task_plan p all at) rest) (sequence (events_all p all) rest) (bits k) (way_first (events_all p all) (task_plan p all at) rest (way_skipped (events_all p all))) r.0;
        agrees = agrees_there p k (all_nodes p) (all_nodes p) false false (base_at k) None (bits k) s (node_at k) s.out [] s1.extra copies_same (λ b e. absurd (none-some b e)) r.1;
        fresh = λ t i m. refl;
        kept = λ t i m object e. e;
      }

  abbrev w1 : Nodes
  w1 = record w { stores = with_texts (texts ends) 0 w.stores (map state_of steps) }

  abbrev said : ℕ → ℕ → Message
  said = message p (TasksEnd ends)

  text_out : (k : ℕ) (before : List ℕ) (T : List ℕ) (u : State Notes) → base_at k ≡ Some before → s.out ≡ [] ++ (node_at 0).out → u.out ≡ s.out ++ T
      → u.out ≡ before ++ (if k == 0 then (node_at k).out ++ T else (node_at k).out)
  text_out zero before T u e f g =
      g ∙ ap (λ o. o ++ T) f ∙ ap (λ b. b ++ ((node_at 0).out ++ T)) (same_Some [] before e)
      ∙ ap (λ c. before ++ (if c then (node_at 0).out ++ T else (node_at 0).out)) (sym (eq-eqb 0 0 refl))
  text_out (suc k) before T u e f g = absurd (none-some before e)

  first_text : s.out ≡ [] ++ (node_at 0).out
  first_text = (ready_bits 0 some).1.out [] refl

  -- the state of a node behind the directive
  stored_at : (k : ℕ) → k < node_count p → (n : Alone) → slice_get (with_texts (texts ends) 0 w.stores (map state_of steps)) k ≡ Some n
      → n ≡ with_text (texts ends) k (node_at k) (state_of (own k (node_at k)))
  stored_at k lt n e =
      same_Some n (with_text (texts ends) k (node_at k) (state_of (own k (node_at k))))
      (sym e ∙ texts_at (texts ends) w.stores (map state_of steps) k (node_at k) (state_of (own k (node_at k))) (there_at k lt) (state_at own w.stores k (node_at k) (there_at k lt)))

  many_stores : length (with_texts (texts ends) 0 w.stores (map state_of steps)) ≡ node_count p
  many_stores = texts_length (texts ends) 0 w.stores (map state_of steps) (states_length own 0 w.stores) ∙ ready.many

  done : (flow : Flow) (t : State Notes) → AllDone carry skips p global input rest s node_at bits all s1 first_states flow t → AllAlong p IsNext rest (Gave flow t) (ending (first_end ends) (pure Next) (saying said w1))
  done flow t h =
      subst (λ o. AllAlong p IsNext rest (Gave flow t) (ending o (pure Next) (saying said w1))) (sym (ap first_end ends_are ∙ h.none))
      (record {
        same = h.next;
        value = h.next;
        ready = record {
          many = many_stores;
          nodes = λ k n e.
              let lt : k < node_count p = (let i = slice_get_within (with_texts (texts ends) 0 w.stores (map state_of steps)) k n e in let l = many_stores in omega (arith, i, l)) in
              let b = h.behind k lt in
              record {
                stale = b.stale;
                safe = b.safe;
                agrees = subst (λ m. Agrees (at_main p k) b.stale t m) (sym (stored_at k lt n e ∙ ap (λ r. with_text (texts ends) k (node_at k) (state_of r)) (h.does k lt)))
                    (agrees_there p k (all_nodes p) (all_nodes p) false false None (base_at k) b.stale t (h.ends k) t.out (if k == 0 then (node_at k).out ++ texts ends else (node_at k).out) t.extra (λ array number. refl)
                    (λ before f. text_out k before (texts ends) t f first_text (h.out ∙ ap (λ es. s.out ++ texts es) (sym ends_are))) b.agrees);
              };
          counts = subst (λ e. Counted p e w.turns (saying said w1).sent) (sym h.extra)
              (counts_said p s.extra w.turns w.sent said x ready.counts
              (λ from to lf lt ne. ap (λ es. words_sent (message p (TasksEnd es) from to)) (ends_are ∙ sym (noted_are all h.noted))));
        };
      })

  ended : (e : End) (t : State Notes) → OneEnds carry skips p global input rest s node_at bits all s1 e t → AllAlong p IsNext rest (Ended e t) (ending (first_end ends) (pure Next) (saying said w1))
  ended e t h =
      subst (λ o. AllAlong p IsNext rest (Ended e t) (ending o (pure Next) (saying said w1))) (sym (ap first_end ends_are ∙ h.first))
      (record {
        same = refl;
        out =
            let n = there w1.stores 0 (let l = many_stores in let z = some in omega (arith, l, z)) in
            first_out w1.stores n.0 n.1
            ∙ ap (λ (u : Alone). u.out) (stored_at 0 some n.0 n.1)
            ∙ sym (text_out 0 [] (texts ends) t refl first_text (h.out ∙ ap (λ es. s.out ++ texts es) (sym ends_are)));
      })

  comes : (r : Step Notes Flow) → Comes carry skips p global input rest s node_at bits all s1 first_states r → AllAlong p IsNext rest r (ending (first_end ends) (pure Next) (saying said w1))
  comes (Gave flow t) h = done flow t h
  comes (Ended e t) h = ended e t h

  tasks_go : AllAlong p IsNext rest (all_serial carry skips p global input all s1) (ending (first_end ends) (pure Next) (saying said w1))
  tasks_go = comes (all_serial carry skips p global input all s1) (all_come carry skips p global input rest s node_at bits begins all good s1 first_states before_all)

pub tasks_follow : StatementsCarry → StatementsSkip → AllTasksFit → TasksFollow
tasks_follow carry skips fit p global input all at fits returns right rest s w ready =
    let f = fit p all at fits in
    tasks_go carry skips p global input all at (record {
      bodies = f.bodies;
      returns = returns;
      sets = are_sets p all f.step.stands.inside;
      apart = are_apart p all f.step.stands.apart;
      right = λ rule place st. right rule place (inr st);
    }) rest s w ready
