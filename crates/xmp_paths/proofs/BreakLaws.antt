-- The rules that break in a plan by recursion on it are those that break on its paths.
use Rattle.std.proofs.Common.{◌≡◌, ℕ, zero, suc, Bool, true, false, List, [], ◌∷◌, ◌++◌, ◌⊎◌, inl, inr, sym, ap, ◌∙◌, subst, append_assoc, ◌↔◌, ⊎_elim}
use Rattle.xmp_paths.specs.NodeSets.{has}
use Rattle.xmp_paths.specs.Plans.{Plan, skip, emit, sequence, branch, loop, Path, Repeated, Stands}
use Rattle.xmp_paths.specs.Rules.{Broken, Breaks}
use Rattle.xmp_paths.specs.Walk.{after_events}
use Rattle.xmp_paths.specs.May.{may_leave, after_plan, BreaksAt, BreaksFrom}
use Rattle.xmp_paths.proofs.PathLaws.{Way, some_path, repeated_more, split, not_empty, alone, or_left, walk-append, walk_keeps, way_to, may_forth, may_back, head_stays}
use Rattle.xmp_paths.proofs.StaleLaws.{left_walk, walk_left}
use Rattle.xmp_paths.specs.declared.event.Event.{Event}
use Rattle.xmp_paths.specs.declared.event.Event.TheVariants.{Read, Wrong, Mark}

-- as `ReadsStale`, from copies that may be out of date as `entry` says
record ReadsFrom (plan : Plan Event) (entry : ℕ → ℕ → Bool) (b : Broken) : Type 0 where
  before : List Event
  after : List Event
  object : ℕ
  nodes : ℕ
  node : ℕ
  path : Path plan (before ++ Read object nodes b.rule b.at ∷ after)
  reads : has nodes node ≡ true
  stale : after_events object node before (entry object node) ≡ true

module _ (b : Broken) where
  reads_front : (p q : Plan Event) (entry : ℕ → ℕ → Bool) → ReadsFrom p entry b → ReadsFrom (sequence p q) entry b
  reads_front p q entry r =
      let y = some_path q in
      let read = Read r.object r.nodes b.rule b.at in
      record {
        before = r.before;
        after = r.after ++ y.0;
        object = r.object;
        nodes = r.nodes;
        node = r.node;
        path = record {
          front = r.before ++ read ∷ r.after;
          back = y.0;
          whole = sym (append_assoc r.before (read ∷ r.after) y.0);
          in_front = r.path;
          in_back = y.1;
        };
        reads = r.reads;
        stale = r.stale;
      }

  -- a way before a read leaves the copy out of date where the read finds it so
  stale_behind : (object node : ℕ) (p : Plan Event) (was now : Bool) (x : Way object node p was now) (before : List Event) →
      after_events object node before now ≡ true → after_events object node (x.events ++ before) was ≡ true
  stale_behind object node p was now x before h =
      walk-append object node x.events before was
      ∙ walk_keeps object node before now (after_events object node x.events was) x.stale h

  reads_back : (p q : Plan Event) (entry : ℕ → ℕ → Bool) → ReadsFrom q (after_plan p entry) b → ReadsFrom (sequence p q) entry b
  reads_back p q entry r =
      let was = entry r.object r.node in
      let now = may_leave r.object r.node p was in
      let x = way_to r.object r.node p was now (λ e. may_forth r.object r.node p was e) in
      let read = Read r.object r.nodes b.rule b.at in
      record {
        before = x.events ++ r.before;
        after = r.after;
        object = r.object;
        nodes = r.nodes;
        node = r.node;
        path = record {
          front = x.events;
          back = r.before ++ read ∷ r.after;
          whole = append_assoc x.events r.before (read ∷ r.after);
          in_front = x.path;
          in_back = r.path;
        };
        reads = r.reads;
        stale = stale_behind r.object r.node p was now x r.before r.stale;
      }

  reads_turn : (p : Plan Event) (entry : ℕ → ℕ → Bool) → ReadsFrom p (after_plan (loop p) entry) b → ReadsFrom (loop p) entry b
  reads_turn p entry r =
      let was = entry r.object r.node in
      let now = may_leave r.object r.node (loop p) was in
      let x = way_to r.object r.node (loop p) was now (λ e. may_forth r.object r.node (loop p) was e) in
      let read = Read r.object r.nodes b.rule b.at in
      record {
        before = x.events ++ r.before;
        after = r.after;
        object = r.object;
        nodes = r.nodes;
        node = r.node;
        path = (
          suc x.path.0,
          subst (Repeated (Path p) (suc x.path.0)) (sym (append_assoc x.events r.before (read ∷ r.after)))
              (repeated_more (Path p) x.path.0 x.events (r.before ++ read ∷ r.after) x.path.1 r.path),
        );
        reads = r.reads;
        stale = stale_behind r.object r.node (loop p) was now x r.before r.stale;
      }

  reads_left : (p q : Plan Event) (entry : ℕ → ℕ → Bool) → ReadsFrom p entry b → ReadsFrom (branch p q) entry b
  reads_left p q entry r = record {
    before = r.before;
    after = r.after;
    object = r.object;
    nodes = r.nodes;
    node = r.node;
    path = inl r.path;
    reads = r.reads;
    stale = r.stale;
  }

  reads_right : (p q : Plan Event) (entry : ℕ → ℕ → Bool) → ReadsFrom q entry b → ReadsFrom (branch p q) entry b
  reads_right p q entry r = record {
    before = r.before;
    after = r.after;
    object = r.object;
    nodes = r.nodes;
    node = r.node;
    path = inr r.path;
    reads = r.reads;
    stale = r.stale;
  }

  breaks_forth : (p : Plan Event) (entry : ℕ → ℕ → Bool) → BreaksFrom p entry b → ReadsFrom p entry b ⊎ Stands p (Wrong b.rule b.at)
  breaks_forth skip entry h = absurd h
  breaks_forth (emit (Read object nodes rule at)) entry h = inl (record {
    before = [];
    after = [];
    object = object;
    nodes = nodes;
    node = h.1.0;
    path = ap (λ c. Read object nodes c.rule c.at ∷ []) (sym h.0);
    reads = h.1.1;
    stale = h.1.2;
  })
  breaks_forth (emit (Wrong rule at)) entry h = inr (ap (λ c. Wrong c.rule c.at) h)
  breaks_forth (emit (Mark object current stale)) entry h = absurd h
  breaks_forth (sequence p q) entry h =
      ⊎_elim
      (λ k. ⊎_elim (λ r. inl (reads_front p q entry r)) (λ s. inr (inl s)) (breaks_forth p entry k))
      (λ k. ⊎_elim (λ r. inl (reads_back p q entry r)) (λ s. inr (inr s)) (breaks_forth q (after_plan p entry) k)) h
  breaks_forth (branch p q) entry h =
      ⊎_elim
      (λ k. ⊎_elim (λ r. inl (reads_left p q entry r)) (λ s. inr (inl s)) (breaks_forth p entry k))
      (λ k. ⊎_elim (λ r. inl (reads_right p q entry r)) (λ s. inr (inr s)) (breaks_forth q entry k)) h
  breaks_forth (loop p) entry h =
      ⊎_elim (λ r. inl (reads_turn p entry r)) (λ s. inr s) (breaks_forth p (after_plan (loop p) entry) h)

  -- ---- and back

  reads_here : (e : Event) (entry : ℕ → ℕ → Bool) (object nodes node : ℕ) → Read object nodes b.rule b.at ≡ e →
      has nodes node ≡ true → entry object node ≡ true → BreaksAt e entry b
  reads_here (Read target set rule at) entry object nodes node is h k =
      let one : rule ≡ b.rule = cc in
      let two : at ≡ b.at = cc in
      let three : nodes ≡ set = cc in
      let four : object ≡ target = cc in (
        ap (λ r. record { rule = r; at = at }) one ∙ ap (λ a. record { rule = b.rule; at = a }) two,
        (node, ap (λ n. has n node) (sym three) ∙ h, ap (λ o. entry o node) (sym four) ∙ k),
      )
  reads_here (Wrong rule at) entry object nodes node is h k = cc
  reads_here (Mark target current stale) entry object nodes node is h k = cc

  -- a read in one of some turns is in one turn, from the copies that may be out of date at the head of a turn
  record InOneTurn (p : Plan Event) (object nodes node : ℕ) (head : Bool) : Type 0 where
    before : List Event
    after : List Event
    path : Path p (before ++ Read object nodes b.rule b.at ∷ after)
    stale : after_events object node before head ≡ true

  in_one_turn : (p : Plan Event) (object nodes node : ℕ) (head : Bool) →
      ((xs : List Event) (c : Bool) → Path p xs → (c ≡ true → head ≡ true) → after_events object node xs c ≡ true → head ≡ true) →
      (n : ℕ) (before after : List Event) (c : Bool) → (c ≡ true → head ≡ true) →
      Repeated (Path p) n (before ++ Read object nodes b.rule b.at ∷ after) → after_events object node before c ≡ true →
      InOneTurn p object nodes node head
  in_one_turn p object nodes node head stays zero before after c m r k = absurd (not_empty before after (Read object nodes b.rule b.at) r)
  in_one_turn p object nodes node head stays (suc n) before after c m r k =
      ⊎_elim
      (λ s. record {
        before = before;
        after = s.0;
        path = subst (Path p) s.1 r.in_front;
        stale = walk_keeps object node before c head m k;
      })
      (λ s. in_one_turn p object nodes node head stays n s.0 after (after_events object node r.front c) (stays r.front c r.in_front m)
      (subst (Repeated (Path p) n) s.2 r.in_back)
      (sym (walk-append object node r.front s.0 c) ∙ (ap (λ l. after_events object node l c) (sym s.1) ∙ k)))
      (split before after r.front r.back (Read object nodes b.rule b.at) r.whole)

  breaks_reads : (p : Plan Event) (entry : ℕ → ℕ → Bool) → ReadsFrom p entry b → BreaksFrom p entry b
  breaks_reads skip entry r = absurd (not_empty r.before r.after (Read r.object r.nodes b.rule b.at) r.path)
  breaks_reads (emit e) entry r =
      let a = alone r.before r.after (Read r.object r.nodes b.rule b.at) e r.path in
      reads_here e entry r.object r.nodes r.node a.1 r.reads
      (ap (λ l. after_events r.object r.node l (entry r.object r.node)) (sym a.0) ∙ r.stale)
  breaks_reads (sequence p q) entry r =
      let read = Read r.object r.nodes b.rule b.at in
      let was = entry r.object r.node in
      let w = r.path in
      ⊎_elim
      (λ s. inl (breaks_reads p entry (record {
        before = r.before;
        after = s.0;
        object = r.object;
        nodes = r.nodes;
        node = r.node;
        path = subst (Path p) s.1 w.in_front;
        reads = r.reads;
        stale = r.stale;
      })))
      (λ s. inr (breaks_reads q (after_plan p entry) (record {
        before = s.0;
        after = r.after;
        object = r.object;
        nodes = r.nodes;
        node = r.node;
        path = subst (Path q) s.2 w.in_back;
        reads = r.reads;
        stale = walk_keeps r.object r.node s.0 (after_events r.object r.node w.front was) (may_leave r.object r.node p was)
            (may_back r.object r.node p w.front was w.in_front)
            (sym (walk-append r.object r.node w.front s.0 was) ∙ (ap (λ l. after_events r.object r.node l was) (sym s.1) ∙ r.stale));
      })))
      (split r.before r.after w.front w.back read w.whole)
  breaks_reads (branch p q) entry r =
      ⊎_elim
      (λ w. inl (breaks_reads p entry (record {
        before = r.before;
        after = r.after;
        object = r.object;
        nodes = r.nodes;
        node = r.node;
        path = w;
        reads = r.reads;
        stale = r.stale;
      })))
      (λ w. inr (breaks_reads q entry (record {
        before = r.before;
        after = r.after;
        object = r.object;
        nodes = r.nodes;
        node = r.node;
        path = w;
        reads = r.reads;
        stale = r.stale;
      })))
      r.path
  breaks_reads (loop p) entry r =
      let was = entry r.object r.node in
      let t = in_one_turn p r.object r.nodes r.node (may_leave r.object r.node (loop p) was) (head_stays r.object r.node p was)
      r.path.0 r.before r.after was (λ e. or_left was (may_leave r.object r.node p was) e) r.path.1 r.stale in
      breaks_reads p (after_plan (loop p) entry) (record {
        before = t.before;
        after = t.after;
        object = r.object;
        nodes = r.nodes;
        node = r.node;
        path = t.path;
        reads = r.reads;
        stale = t.stale;
      })

  wrong_here : (e : Event) (entry : ℕ → ℕ → Bool) → e ≡ Wrong b.rule b.at → BreaksAt e entry b
  wrong_here (Read target set rule at) entry is = cc
  wrong_here (Wrong rule at) entry is =
      let one : rule ≡ b.rule = cc in
      let two : at ≡ b.at = cc in
      ap (λ r. record { rule = r; at = at }) one ∙ ap (λ a. record { rule = b.rule; at = a }) two
  wrong_here (Mark target current stale) entry is = cc

  breaks_wrong : (p : Plan Event) (entry : ℕ → ℕ → Bool) → Stands p (Wrong b.rule b.at) → BreaksFrom p entry b
  breaks_wrong skip entry s = absurd s
  breaks_wrong (emit e) entry s = wrong_here e entry s
  breaks_wrong (sequence p q) entry s = ⊎_elim (λ k. inl (breaks_wrong p entry k)) (λ k. inr (breaks_wrong q (after_plan p entry) k)) s
  breaks_wrong (branch p q) entry s = ⊎_elim (λ k. inl (breaks_wrong p entry k)) (λ k. inr (breaks_wrong q entry k)) s
  breaks_wrong (loop p) entry s = breaks_wrong p (after_plan (loop p) entry) s

-- from copies that are all current the recursion has the rules that break on the paths
pub breaks_is : (p : Plan Event) (b : Broken) → BreaksFrom p (λ object node. false) b ↔ Breaks p b
breaks_is p b = (
  λ h. ⊎_elim
      (λ r. inl (record {
        before = r.before;
        after = r.after;
        object = r.object;
        nodes = r.nodes;
        node = r.node;
        path = r.path;
        reads = r.reads;
        stale = walk_left r.object r.node r.before r.stale;
      }))
      (λ s. inr s) (breaks_forth b p (λ object node. false) h),
  λ h. ⊎_elim
      (λ r. breaks_reads b p (λ object node. false) (record {
        before = r.before;
        after = r.after;
        object = r.object;
        nodes = r.nodes;
        node = r.node;
        path = r.path;
        reads = r.reads;
        stale = left_walk r.object r.node r.before false r.stale;
      }))
      (λ s. breaks_wrong b p (λ object node. false) s) h,
)
