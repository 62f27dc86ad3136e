-- Tasks one after the other in the serial run, beside what each node does of them.
use Rattle.std.proofs.Common.{◌≡◌, ◌<◌, ◌++◌, inl, inr, ℕ, pos, Bool, true, false, List, [], ◌∷◌, map, Option, Some, None, refl, sym, ap, subst, ◌∙◌, append-nil, append_assoc}
use Rattle.std.specs.List.{AllByRecursion}
use Rattle.std.proofs.lemmas.Option.{none-some, same_Some}
use Rattle.xmp_map.specs.declared.grid.NodeSet.{NodeSet}
use Rattle.xmp_prog.specs.declared.parts.ProgParts.{ProgParts}
use Rattle.xmp_prog.specs.declared.statements.Task.{Task}
use Rattle.xmp_prog.specs.Fits.{node_count}
use Rattle.xmp_prog.specs.NodeSets.{is_node_set}
use Rattle.xmp_paths.specs.declared.event.Event.{Event}
use Rattle.xmp_paths.specs.Plans.{Plan, skip, sequence, in_order}
use Rattle.xmp_paths.specs.Safe.{left, Safe, NothingWrong}
use Rattle.xmp_paths.proofs.SafeLaws.{safe_fewer, safe_paths, safe_front, safe_back}
use Rattle.xmp_loops.specs.Objects.{nodes_in, all_nodes}
use Rattle.xmp_flow.specs.Setting.{in_task}
use Rattle.xmp_flow.specs.Statements.{events_of}
use Rattle.xmp_flow.specs.Program.{outermost}
use Rattle.xmp_meaning.specs.declared.ends.End.{End}
use Rattle.xmp_meaning.specs.declared.ends.Flow.{Flow}
use Rattle.xmp_meaning.specs.declared.ends.Flow.TheVariants.{Next}
use Rattle.xmp_meaning.specs.Runs.{State, Step, Gave, Ended, Run, and_then, end_of, state_of}
use Rattle.xmp_meaning.specs.Blocks.{after, block, choose}
use Rattle.xmp_meaning.specs.Handlers.{task_run}
use Rattle.xmp_meaning.specs.Exchanges.{Notes, TaskEnd, unprinted, task_end}
use Rattle.xmp_meaning.specs.TaskEnds.{leader, or_later, first_end, up_to_end, texts}
use Rattle.xmp_meaning.specs.Traffic.{copied}
use Rattle.xmp_move.specs.Stores.{IsIn}
use Rattle.xmp_nodes.proofs.Agrees.{Stand, Agrees, Along, Carried, IsNext, Still, Skipped, base_at, at_main}
use Rattle.xmp_nodes.proofs.Standing.{IsGlobal, PartFits, NoReturn, IsSetting, WritesFit}
use Rattle.xmp_nodes.proofs.Leaves.{StatementsCarry, StatementsSkip, noting, noted_task}
use Rattle.xmp_nodes.proofs.Follow.{right_front, right_back}
use Rattle.xmp_nodes.proofs.InStep.{way_left}
use Rattle.xmp_nodes.proofs.Each.{Alone}
use Rattle.xmp_nodes.proofs.NodeBits.{set_has, leader_below, leader_has}
use Rattle.xmp_nodes.proofs.TaskSteps.{is_member, alone_in, own_run, AreApart, no_other, none_in}

-- ---- one node at another place of the text

-- a node at a place of main where these nodes run
abbrev pub stand_of : ProgParts → (node nodes : ℕ) → (inside : Bool) → (base : Option (List ℕ)) → Stand
stand_of p node nodes inside base = record { program = p; node = node; base = base; rest = λ slot. pos 0; set = record (outermost p) { nodes = nodes; inside = inside } }

-- it agrees there too, with other texts and other notes that have the same copied values
pub agrees_there : (p : ProgParts) (k nodes other : ℕ) (inside within : Bool) (base behind : Option (List ℕ)) (stale : ℕ → Bool) (s : State Notes) (n : Alone)
    (printed own : List ℕ) (notes : Notes) → ((array number : ℕ) → copied notes.exchanges array number ≡ copied s.extra.exchanges array number)
    → ((before : List ℕ) → behind ≡ Some before → printed ≡ before ++ own)
    → Agrees (stand_of p k nodes inside base) stale s n
    → Agrees (stand_of p k other within behind) stale (record s { out = printed; extra = notes }) (record n { out = own })
agrees_there p k nodes other inside within base behind stale s n printed own notes same out g = record {
  whole = record { scalars = g.whole.scalars; rows = g.whole.rows; values = record { scalars = g.whole.values.scalars; cells = g.whole.values.cells } };
  packed = record { scalars = g.packed.scalars; rows = g.packed.rows; no_coarrays = g.packed.no_coarrays };
  typed = g.typed;
  scalars = g.scalars;
  indices = λ slot e. cc;
  sums = λ slot op e. cc;
  copies = g.copies;
  owned = g.owned;
  shadows = λ array t m cell e i h o. g.shadows array t m cell e i h o ∙ sym (same array _);
  current = λ array t m e f w number. same array number ∙ g.current array t m e f w number;
  point = λ d e. cc;
  steps = g.steps;
  out = out;
  taken = g.taken;
}

task_setting : (p : ProgParts) → IsGlobal p → (k : ℕ) → k < node_count p → (set : NodeSet) (base : Option (List ℕ)) → IsSetting (stand_of p k (nodes_in p.grid set) true base)
task_setting p global k below set base = record {
  global = global;
  program = refl;
  below = below;
  loops = refl;
  still = refl;
  all = λ e. cc;
  outside = λ e. refl;
  shared = λ e slot. refl;
  unwritten = λ e array. refl;
  directive = λ d e. absurd (none-some d e);
}

task_writes : (p : ProgParts) (k nodes : ℕ) (base : Option (List ℕ)) (t : Task) → WritesFit (stand_of p k nodes true base) t.body
task_writes p k nodes base t = record { scalars = λ d e. absurd (none-some d e); arrays = λ d e. absurd (none-some d e) }

-- ---- all tasks

abbrev pub events_in : ProgParts → Task → Plan Event
events_in p t = events_of t.body (in_task (outermost p) t.nodes)

abbrev pub events_all : ProgParts → List Task → Plan Event
events_all p ts = in_order (map (events_in p) ts)

-- what is asked of them
pub record TasksGood (p : ProgParts) (ts : List Task) : Type 0 where
  pub bodies : AllByRecursion (λ t. PartFits p t.body) ts
  pub returns : AllByRecursion (λ t. NoReturn t.body) ts
  pub sets : AllByRecursion (λ t. is_node_set p.grid t.nodes ≡ true) ts
  pub apart : AreApart p ts
  pub right : NothingWrong (events_all p ts)

good_rest : (p : ProgParts) (t : Task) (ts : List Task) → TasksGood p (t ∷ ts) → TasksGood p ts
good_rest p t ts g = record { bodies = g.bodies.1; returns = g.returns.1; sets = g.sets.1; apart = g.apart.1; right = right_back (events_in p t) (events_all p ts) g.right }

-- how a step ends a task
abbrev pub end_with : NodeSet → Option End → List ℕ → TaskEnd
end_with nodes e text = record { nodes = nodes; ended = e; text = text }

abbrev pub end_by : {X : Type 0} → NodeSet → Step X Flow → TaskEnd
end_by nodes r = end_with nodes (end_of r) (state_of r).out

abbrev by_member : Bool → Alone → Step (Unit {0}) Flow → Alone
by_member true n r = state_of r
by_member false n r = n

module _ (carry : StatementsCarry) (skips : StatementsSkip) (p : ProgParts) (global : IsGlobal p) (input : List ℕ) where
  abbrev pub serial_of : Task → Run Notes Flow
  serial_of t = noting p input t.body

  abbrev pub all_serial : List Task → Run Notes Flow
  all_serial ts = block (map task_run (map (noted_task p input) ts))

  task_carried : (t : Task) → PartFits p t.body → NoReturn t.body → NothingWrong (events_in p t) → (k : ℕ) → k < node_count p → is_member p k t ≡ true → (base : Option (List ℕ))
      → Carried (stand_of p k (nodes_in p.grid t.nodes) true base) IsNext (events_in p t) (serial_of t) (alone_in p input t k)
  task_carried t fits none right k below m base =
      carry (stand_of p k (nodes_in p.grid t.nodes) true base) (task_setting p global k below t.nodes base) (set_has p t.nodes k below ∙ m) refl input t.body fits
      (task_writes p k (nodes_in p.grid t.nodes) base t) none right

  task_skipped : (t : Task) → PartFits p t.body → NoReturn t.body → NothingWrong (events_in p t) → (k : ℕ) → k < node_count p → is_member p k t ≡ false
      → Skipped (stand_of p k (nodes_in p.grid t.nodes) true None) IsNext (events_in p t) (serial_of t)
  task_skipped t fits none right k below m =
      skips (stand_of p k (nodes_in p.grid t.nodes) true None) (task_setting p global k below t.nodes None) (set_has p t.nodes k below ∙ m) refl refl refl input t.body fits none right

  -- the states before the directive: the serial one, and each node's with what it had out of date
  module _ (rest : Plan Event) (before : State Notes) (nodes : ℕ → Alone) (bits : ℕ → ℕ → Bool) where
    -- the least node of a task, and how it ends the task
    abbrev pub led : Task → Step (Unit {0}) Flow
    led t = alone_in p input t (leader p t.nodes) (unprinted (nodes (leader p t.nodes)))

    abbrev pub end_led : Task → TaskEnd
    end_led t = record { nodes = t.nodes; ended = end_of (led t); text = (state_of (led t)).out }

    abbrev pub ends_led : List Task → List TaskEnd
    ends_led ts = map end_led ts

    -- a node before these tasks: it agrees; where it is a member of one, it is as it was
    pub record Before (ts : List Task) (k : ℕ) (s : State Notes) (n : Alone) : Type 0 where
      pub stale : ℕ → Bool
      pub safe : Safe k (sequence (events_all p ts) rest) stale
      pub agrees : Agrees (stand_of p k (all_nodes p) false None) stale s n
      pub fresh : (t : Task) → IsIn t ts → is_member p k t ≡ true → n ≡ unprinted (nodes k)
      pub kept : (t : Task) → IsIn t ts → is_member p k t ≡ true → (object : ℕ) → bits k object ≡ true → stale object ≡ true

    -- all are done: each node agrees, with its own text
    pub record Behind (k : ℕ) (t : State Notes) (m : Alone) : Type 0 where
      pub stale : ℕ → Bool
      pub safe : Safe k rest stale
      pub agrees : Agrees (stand_of p k (all_nodes p) false None) stale t m

    -- the ends that are noted are those that the leaders tell
    abbrev pub NotedLed : Task → Type 0
    NotedLed t = task_end before (noted_task p input t) ≡ end_led t

    pub record AllDone (ts : List Task) (s : State Notes) (states : ℕ → Alone) (flow : Flow) (t : State Notes) : Type 0 where
      pub next : flow ≡ Next
      pub ends : ℕ → Alone
      pub does : (k : ℕ) → k < node_count p → own_run p input k ts (states k) ≡ Gave Next (ends k)
      pub behind : (k : ℕ) → k < node_count p → Behind k t (ends k)
      pub none : first_end (ends_led ts) ≡ None
      pub out : t.out ≡ s.out ++ texts (ends_led ts)
      pub extra : t.extra ≡ s.extra
      pub noted : AllByRecursion NotedLed ts

    pub record OneEnds (ts : List Task) (s : State Notes) (e : End) (t : State Notes) : Type 0 where
      pub first : first_end (ends_led ts) ≡ Some e
      pub out : t.out ≡ s.out ++ texts (ends_led ts)

    abbrev pub Comes : List Task → State Notes → (ℕ → Alone) → Step Notes Flow → Type 0
    Comes ts s states (Gave flow t) = AllDone ts s states flow t
    Comes ts s states (Ended e t) = OneEnds ts s e t

    -- what is known of the states before
    pub record Begins : Type 0 where
      pub agrees : (k : ℕ) → k < node_count p → Agrees (at_main p k) (bits k) before (nodes k)

    skip_front : (a b c : Plan Event) (k : ℕ) (stale : ℕ → Bool) → Safe k (sequence (sequence a b) c) stale → Safe k (sequence a (sequence b c)) stale
    skip_front a b c k stale h = safe_paths k (sequence (sequence a b) c) (sequence a (sequence b c)) stale (way_left a b c) h

    module _ (begins : Begins) where
      -- a task from the state before: what is noted of it is what its leader tells
      noted_one : (t : Task) → PartFits p t.body → NoReturn t.body → NothingWrong (events_in p t) → is_node_set p.grid t.nodes ≡ true
          → (stale : ℕ → Bool) → Safe (leader p t.nodes) (events_in p t) stale → ((object : ℕ) → bits (leader p t.nodes) object ≡ true → stale object ≡ true)
          → NotedLed t
      noted_one t fits none right good stale safe kept =
          told (serial_of t (unprinted before)) (led t)
          (task_carried t fits none right l below (leader_has p t.nodes good) (Some []) (bits l) (unprinted before) (unprinted (nodes l))
          (safe_fewer l (events_in p t) stale (bits l) kept safe)
          (agrees_there p l (all_nodes p) (nodes_in p.grid t.nodes) false true (base_at l) (Some []) (bits l) before (nodes l) [] [] before.extra (λ array number. refl)
          (λ b e. same_Some [] b e ∙ sym (append-nil b)) (begins.agrees l below)))
        where
          l : ℕ
          l = leader p t.nodes

          below : l < node_count p
          below = leader_below p t.nodes good

          told : (r : Step Notes Flow) (q : Step (Unit {0}) Flow) → Along (stand_of p (leader p t.nodes) (nodes_in p.grid t.nodes) true (Some [])) IsNext (events_in p t) (bits (leader p t.nodes)) (unprinted before) (unprinted (nodes (leader p t.nodes))) r q
              → end_by t.nodes r ≡ end_by t.nodes q
          told (Gave v u) (Gave w m) h = ap (end_with t.nodes None) (h.agrees.out [] refl)
          told (Gave v u) (Ended e m) h = absurd h
          told (Ended e u) (Gave w m) h = absurd h
          told (Ended e u) (Ended f m) h = ap (λ d. end_with t.nodes (Some d) u.out) h.same ∙ ap (end_with t.nodes (Some f)) (h.out [] refl)

      -- ---- one task

      abbrev stepped : Task → ℕ → Alone → Alone
      stepped t k n = by_member (is_member p k t) n (alone_in p input t k n)

      no_both : (b : Bool) → b ≡ true → b ≡ false → ⊥
      no_both true e f = cc
      no_both false e f = cc

      module _ (t : Task) (ts : List Task) (good : TasksGood p (t ∷ ts)) (s : State Notes) (states : ℕ → Alone) where
        abbrev l : ℕ
        l = leader p t.nodes

        l_below : l < node_count p
        l_below = leader_below p t.nodes good.sets.0

        l_member : is_member p l t ≡ true
        l_member = leader_has p t.nodes good.sets.0

        right_one : NothingWrong (events_in p t)
        right_one = right_front (events_in p t) (events_all p ts) good.right

        -- what is done is known
        abbrev Met : Step Notes Flow → Type 0
        Met r = (k : ℕ) → k < node_count p → (b : Before (t ∷ ts) k s (states k))
            → (is_member p k t ≡ true → Along (stand_of p k (nodes_in p.grid t.nodes) true None) IsNext (events_in p t) b.stale s (states k) r (alone_in p input t k (states k)))
            × (is_member p k t ≡ false → Still (stand_of p k (nodes_in p.grid t.nodes) true None) IsNext (events_in p t) b.stale s (states k) r)

        abbrev LedMet : Step Notes Flow → Type 0
        LedMet r = (bits' : ℕ → Bool) × Along (stand_of p l (nodes_in p.grid t.nodes) true (Some s.out)) IsNext (events_in p t) bits' s (unprinted (nodes l)) r (led t)

        at_main_again : (k : ℕ) (base : Option (List ℕ)) (stale : ℕ → Bool) (u : State Notes) (m : Alone)
            → Agrees (stand_of p k (nodes_in p.grid t.nodes) true base) stale u m → Agrees (stand_of p k (all_nodes p) false None) stale u m
        at_main_again k base stale u m g =
            agrees_there p k (nodes_in p.grid t.nodes) (all_nodes p) true false base None stale u m u.out m.out u.extra (λ array number. refl) (λ b e. absurd (none-some b e)) g

        module _ (v : Flow) (s1 : State Notes) (is_next : v ≡ Next) where
          -- a member has done it
          member_goes : (k : ℕ) → k < node_count p → (b : Before (t ∷ ts) k s (states k)) → is_member p k t ≡ true → (q : Step (Unit {0}) Flow)
              → Along (stand_of p k (nodes_in p.grid t.nodes) true None) IsNext (events_in p t) b.stale s (states k) (Gave v s1) q
              → Before ts k s1 (state_of q) × (and_then q (λ flow. after flow (own_run p input k ts)) ≡ own_run p input k ts (state_of q))
          member_goes k lt b m (Ended e n) h = absurd h
          member_goes k lt b m (Gave w n) h = (
            record {
              stale = left k h.way b.stale;
              safe = safe_back k (events_in p t) (sequence (events_all p ts) rest) b.stale (skip_front (events_in p t) (events_all p ts) rest k b.stale b.safe) h.way h.path;
              agrees = at_main_again k None (left k h.way b.stale) s1 n h.agrees;
              fresh = λ u i mu. absurd (no_both (is_member p k u) mu (none_in p k ts (no_other p k lt t ts good.apart.0 m) u i));
              kept = λ u i mu. absurd (no_both (is_member p k u) mu (none_in p k ts (no_other p k lt t ts good.apart.0 m) u i));
            },
            ap (λ flow. after flow (own_run p input k ts) n) (sym h.same ∙ is_next),
          )

          -- another has done nothing
          other_stands : (k : ℕ) (b : Before (t ∷ ts) k s (states k)) → Still (stand_of p k (nodes_in p.grid t.nodes) true None) IsNext (events_in p t) b.stale s (states k) (Gave v s1)
              → Before ts k s1 (states k)
          unfolding IsIn
          other_stands k b h = record {
            stale = left k h.way b.stale;
            safe = safe_back k (events_in p t) (sequence (events_all p ts) rest) b.stale (skip_front (events_in p t) (events_all p ts) rest k b.stale b.safe) h.way h.path;
            agrees = at_main_again k None (left k h.way b.stale) s1 (states k) h.agrees;
            fresh = λ u i mu. b.fresh u (inr i) mu;
            kept = λ u i mu object e. h.kept object (b.kept u (inr i) mu object e);
          }

          node_goes : (k : ℕ) → k < node_count p → (b : Before (t ∷ ts) k s (states k))
              → (is_member p k t ≡ true → Along (stand_of p k (nodes_in p.grid t.nodes) true None) IsNext (events_in p t) b.stale s (states k) (Gave v s1) (alone_in p input t k (states k)))
              → (is_member p k t ≡ false → Still (stand_of p k (nodes_in p.grid t.nodes) true None) IsNext (events_in p t) b.stale s (states k) (Gave v s1))
              → Before ts k s1 (stepped t k (states k)) × (own_run p input k (t ∷ ts) (states k) ≡ own_run p input k ts (stepped t k (states k)))
          node_goes k lt b ran stood = at_test (is_member p k t) refl
            where
              at_test : (c : Bool) → is_member p k t ≡ c
                  → Before ts k s1 (by_member (is_member p k t) (states k) (alone_in p input t k (states k)))
                  × (and_then (choose (is_member p k t) (alone_in p input t k) (λ n. Gave Next n) (states k)) (λ flow. after flow (own_run p input k ts)) ≡ own_run p input k ts (by_member (is_member p k t) (states k) (alone_in p input t k (states k))))
              at_test true e = subst (λ c. Before ts k s1 (by_member c (states k) (alone_in p input t k (states k)))
                  × (and_then (choose c (alone_in p input t k) (λ n. Gave Next n) (states k)) (λ flow. after flow (own_run p input k ts)) ≡ own_run p input k ts (by_member c (states k) (alone_in p input t k (states k))))) (sym e)
                  (member_goes k lt b e (alone_in p input t k (states k)) (ran e))
              at_test false e = subst (λ c. Before ts k s1 (by_member c (states k) (alone_in p input t k (states k)))
                  × (and_then (choose c (alone_in p input t k) (λ n. Gave Next n) (states k)) (λ flow. after flow (own_run p input k ts)) ≡ own_run p input k ts (by_member c (states k) (alone_in p input t k (states k))))) (sym e)
                  (other_stands k b (stood e), refl)

        -- how the leader goes with it
        pub record LedGave (v : Flow) (s1 : State Notes) (q : Step (Unit {0}) Flow) : Type 0 where
          pub next : v ≡ Next
          pub ended : end_of q ≡ None
          pub out : s1.out ≡ s.out ++ (state_of q).out
          pub extra : s1.extra ≡ s.extra

        led_gave : (bits' : ℕ → Bool) (v : Flow) (s1 : State Notes) (q : Step (Unit {0}) Flow)
            → Along (stand_of p l (nodes_in p.grid t.nodes) true (Some s.out)) IsNext (events_in p t) bits' s (unprinted (nodes l)) (Gave v s1) q → LedGave v s1 q
        led_gave bits' v s1 (Gave w m) h = record { next = h.value; ended = refl; out = h.agrees.out s.out refl; extra = h.framed.extra }
        led_gave bits' v s1 (Ended e m) h = absurd h

        -- the tasks behind it
        lift : (v : Flow) (s1 : State Notes) → LedGave v s1 (led t) → NotedLed t
            → ((k : ℕ) → k < node_count p → own_run p input k (t ∷ ts) (states k) ≡ own_run p input k ts (stepped t k (states k)))
            → (r : Step Notes Flow) → Comes ts s1 (λ k. stepped t k (states k)) r → Comes (t ∷ ts) s states r
        lift v s1 g noted own (Gave flow u) h = record {
          next = h.next;
          ends = h.ends;
          does = λ k lt. own k lt ∙ h.does k lt;
          behind = h.behind;
          none = ap (λ o. or_later o (first_end (ends_led ts))) g.ended ∙ h.none;
          out = h.out ∙ text_on (end_of (led t)) g.ended;
          extra = h.extra ∙ g.extra;
          noted = (noted, h.noted);
        }
          where
            text_on : (o : Option End) → o ≡ None → s1.out ++ texts (ends_led ts) ≡ s.out ++ up_to_end o (state_of (led t)).out (texts (ends_led ts))
            text_on o e =
                ap (λ l. l ++ texts (ends_led ts)) g.out
                ∙ append_assoc s.out (state_of (led t)).out (texts (ends_led ts))
                ∙ ap (λ d. s.out ++ up_to_end d (state_of (led t)).out (texts (ends_led ts))) (sym e)
        lift v s1 g noted own (Ended e u) h = record {
          first = ap (λ o. or_later o (first_end (ends_led ts))) g.ended ∙ h.first;
          out = h.out ∙ text_on (end_of (led t)) g.ended;
        }
          where
            text_on : (o : Option End) → o ≡ None → s1.out ++ texts (ends_led ts) ≡ s.out ++ up_to_end o (state_of (led t)).out (texts (ends_led ts))
            text_on o e =
                ap (λ l. l ++ texts (ends_led ts)) g.out
                ∙ append_assoc s.out (state_of (led t)).out (texts (ends_led ts))
                ∙ ap (λ d. s.out ++ up_to_end d (state_of (led t)).out (texts (ends_led ts))) (sym e)

        led_ends : (bits' : ℕ → Bool) (e : End) (s1 : State Notes) (q : Step (Unit {0}) Flow)
            → Along (stand_of p l (nodes_in p.grid t.nodes) true (Some s.out)) IsNext (events_in p t) bits' s (unprinted (nodes l)) (Ended e s1) q
            → (or_later (end_of q) (first_end (ends_led ts)) ≡ Some e) × (s1.out ≡ s.out ++ up_to_end (end_of q) (state_of q).out (texts (ends_led ts)))
        led_ends bits' e s1 (Gave w m) h = absurd h
        led_ends bits' e s1 (Ended f m) h = (ap Some (sym h.same), h.out s.out refl)

        one_comes : (r : Step Notes Flow) → ((k : ℕ) → k < node_count p → Before (t ∷ ts) k s (states k)) → Met r → LedMet r → NotedLed t
            → ((s1 : State Notes) → ((k : ℕ) → k < node_count p → Before ts k s1 (stepped t k (states k))) → Comes ts s1 (λ k. stepped t k (states k)) (all_serial ts s1))
            → Comes (t ∷ ts) s states (and_then r (λ flow. after flow (all_serial ts)))
        one_comes (Gave v s1) b met led_met noted more =
            let g = led_gave led_met.0 v s1 (led t) led_met.1 in
            let goes : (k : ℕ) → k < node_count p → Before ts k s1 (stepped t k (states k)) × (own_run p input k (t ∷ ts) (states k) ≡ own_run p input k ts (stepped t k (states k))) =
            λ k lt. node_goes v s1 g.next k lt (b k lt) (met k lt (b k lt)).0 (met k lt (b k lt)).1 in
            lift v s1 g noted (λ k lt. (goes k lt).1) (after v (all_serial ts) s1)
            (subst (λ flow. Comes ts s1 (λ k. stepped t k (states k)) (after flow (all_serial ts) s1)) (sym g.next) (more s1 (λ k lt. (goes k lt).0)))
        one_comes (Ended e s1) b met led_met noted more =
            let x = led_ends led_met.0 e s1 (led t) led_met.1 in
            record { first = x.0; out = x.1 }

        before_leader : ((k : ℕ) → k < node_count p → Before (t ∷ ts) k s (states k)) → Before (t ∷ ts) l s (states l)
        before_leader b = b l l_below

        front_safe : (k : ℕ) (stale : ℕ → Bool) → Safe k (sequence (events_all p (t ∷ ts)) rest) stale → Safe k (events_in p t) stale
        front_safe k stale h = safe_front k (events_in p t) (events_all p ts) stale (safe_front k (events_all p (t ∷ ts)) rest stale h)

        met_all : Met (serial_of t s)
        met_all k lt b = (
          (λ m. task_carried t good.bodies.0 good.returns.0 right_one k lt m None b.stale s (states k) (front_safe k b.stale b.safe)
              (agrees_there p k (all_nodes p) (nodes_in p.grid t.nodes) false true None None b.stale s (states k) s.out (states k).out s.extra (λ array number. refl) (λ x e. absurd (none-some x e)) b.agrees)),
          (λ m. task_skipped t good.bodies.0 good.returns.0 right_one k lt m b.stale s (states k)
              (agrees_there p k (all_nodes p) (nodes_in p.grid t.nodes) false true None None b.stale s (states k) s.out (states k).out s.extra (λ array number. refl) (λ x e. absurd (none-some x e)) b.agrees)),
        )

        led_met : Before (t ∷ ts) l s (states l) → LedMet (serial_of t s)
        unfolding IsIn
        led_met b = (
          b.stale,
          task_carried t good.bodies.0 good.returns.0 right_one l l_below l_member (Some s.out) b.stale s (unprinted (nodes l)) (front_safe l b.stale b.safe)
              (agrees_there p l (all_nodes p) (nodes_in p.grid t.nodes) false true None (Some s.out) b.stale s (unprinted (nodes l)) s.out [] s.extra (λ array number. refl)
              (λ x e. same_Some s.out x e ∙ sym (append-nil x))
              (subst (λ n. Agrees (stand_of p l (all_nodes p) false None) b.stale s n) (b.fresh t (inl refl) l_member) b.agrees)),
        )

        noted_met : Before (t ∷ ts) l s (states l) → NotedLed t
        unfolding IsIn
        noted_met b = noted_one t good.bodies.0 good.returns.0 right_one good.sets.0 b.stale (front_safe l b.stale b.safe) (b.kept t (inl refl) l_member)

      -- ---- all of them

      pub all_come : (ts : List Task) → TasksGood p ts → (s : State Notes) (states : ℕ → Alone) → ((k : ℕ) → k < node_count p → Before ts k s (states k)) → Comes ts s states (all_serial ts s)
      all_come [] good s states b = record {
        next = refl;
        ends = states;
        does = λ k lt. refl;
        behind = λ k lt. let h = b k lt in record { stale = h.stale; safe = safe_back k skip rest h.stale h.safe [] refl; agrees = h.agrees };
        none = refl;
        out = sym (append-nil s.out);
        extra = refl;
        noted = tt;
      }
      all_come (t ∷ ts) good s states b =
          one_comes t ts good s states (serial_of t s) b (met_all t ts good s states) (led_met t ts good s states (before_leader t ts good s states b)) (noted_met t ts good s states (before_leader t ts good s states b))
          (λ s1 c. all_come ts (good_rest p t ts good) s1 (λ k. stepped t k (states k)) c)
