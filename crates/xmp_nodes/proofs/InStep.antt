-- All nodes in step follow the run that notes: along a sequence, a branch and a loop, and where each does something by
-- itself.
use Rattle.std.proofs.Common.{◌≡◌, ◌<◌, ◌++◌, inl, inr, ℕ, Bool, true, false, List, [], ◌∷◌, map, length, Some, refl, sym, subst, ap, ◌∙◌, append_assoc, arith}
use Rattle.std.specs.Prelude.{slice_get}
use Rattle.std.specs.List.{AllByRecursion}
use Rattle.std.proofs.lemmas.Option.{slice_get_within}
use Rattle.xmp_prog.specs.declared.parts.ProgParts.{ProgParts}
use Rattle.xmp_prog.specs.Fits.{node_count}
use Rattle.xmp_paths.specs.declared.event.Event.{Event}
use Rattle.xmp_paths.specs.Plans.{Plan, skip, sequence, branch, Path, in_order}
use Rattle.xmp_paths.specs.Safe.{left, Safe}
use Rattle.xmp_paths.proofs.SafeLaws.{safe_paths, safe_front, safe_back}
use Rattle.xmp_meaning.specs.declared.ends.Flow.{Flow}
use Rattle.xmp_meaning.specs.declared.ends.Flow.TheVariants.{Next}
use Rattle.xmp_meaning.specs.Runs.{State, StepIn, RunIn, Step, Run, Gave, Ended, and_then, ◌>>=◌, pure}
use Rattle.xmp_meaning.specs.Blocks.{after, then_run, block, choose}
use Rattle.xmp_meaning.specs.Exchanges.{Notes}
use Rattle.xmp_nodes.specs.Nodes.{Nodes, all_do}
use Rattle.xmp_nodes.specs.Worlds.{out_of}
use Rattle.xmp_nodes.proofs.Agrees.{Along, Carried, IsNext, base_at, at_main, ReadyAt, Counted, Ready, AllAlong, AllFollow}
use Rattle.xmp_nodes.proofs.Each.{Alone, AllAre, Meets, AllMeet, all_do_meets, there}

-- ---- ways of sequences

pub way_first : (p q r : Plan Event) → ((way : List Event) → Path p way → Path q way) → (way : List Event) → Path (sequence p r) way → Path (sequence q r) way
way_first p q r h way w = record { front = w.front; back = w.back; whole = w.whole; in_front = h w.front w.in_front; in_back = w.in_back }

pub way_last : (r p q : Plan Event) → ((way : List Event) → Path p way → Path q way) → (way : List Event) → Path (sequence r p) way → Path (sequence r q) way
way_last r p q h way w = record { front = w.front; back = w.back; whole = w.whole; in_front = w.in_front; in_back = h w.back w.in_back }

pub way_right : (p q r : Plan Event) (way : List Event) → Path (sequence (sequence p q) r) way → Path (sequence p (sequence q r)) way
way_right p q r way w = record {
  front = w.in_front.front;
  back = w.in_front.back ++ w.back;
  whole = w.whole ∙ (ap (λ l. l ++ w.back) w.in_front.whole ∙ append_assoc w.in_front.front w.in_front.back w.back);
  in_front = w.in_front.in_front;
  in_back = record { front = w.in_front.back; back = w.back; whole = refl; in_front = w.in_front.in_back; in_back = w.in_back };
}

pub way_left : (p q r : Plan Event) (way : List Event) → Path (sequence p (sequence q r)) way → Path (sequence (sequence p q) r) way
way_left p q r way w = record {
  front = w.front ++ w.in_back.front;
  back = w.in_back.back;
  whole = w.whole ∙ (ap (λ l. w.front ++ l) w.in_back.whole ∙ sym (append_assoc w.front w.in_back.front w.in_back.back));
  in_front = record { front = w.front; back = w.in_back.front; whole = refl; in_front = w.in_front; in_back = w.in_back.in_front };
  in_back = w.in_back.in_back;
}

pub way_skipped : (r : Plan Event) (way : List Event) → Path r way → Path (sequence skip r) way
way_skipped r way w = record { front = []; back = way; whole = refl; in_front = refl; in_back = w }

-- ---- nodes that are ready

pub ready_paths : (p : ProgParts) (a b : Plan Event) (s : State Notes) (w : Nodes) → ((way : List Event) → Path b way → Path a way) → Ready p a s w → Ready p b s w
ready_paths p a b s w h r = record {
  many = r.many;
  nodes = λ node n e.
      let x = r.nodes node n e in
      record { stale = x.stale; safe = safe_paths node a b x.stale h x.safe; agrees = x.agrees };
  counts = r.counts;
}

module _ (p : ProgParts) where
  -- ---- steps

  all_weaker : {A : Type 0} (V W : A → Type 0) (a b : Plan Event) (r : Step Notes A) (q : StepIn Nodes A) → ((v : A) → V v → W v)
      → ((way : List Event) → Path b way → Path a way) → AllAlong p V a r q → AllAlong p W b r q
  all_weaker V W a b (Gave v t) (Gave u w) f g h = record { same = h.same; value = f v h.value; ready = ready_paths p a b t w g h.ready }
  all_weaker V W a b (Gave v t) (Ended e w) f g h = absurd h
  all_weaker V W a b (Ended e t) (Gave u w) f g h = absurd h
  all_weaker V W a b (Ended e t) (Ended d w) f g h = h

  all_along : {A B : Type 0} (V : A → Type 0) (W : B → Type 0) (b rest : Plan Event) (f : A → Run Notes B) (g : A → RunIn Nodes B)
      (r : Step Notes A) (q : StepIn Nodes A) → AllAlong p V (sequence b rest) r q → ((v : A) → V v → AllFollow p W b (f v) (g v))
      → AllAlong p W rest (and_then r f) (and_then q g)
  all_along V W b rest f g (Gave v t) (Gave u w) h c =
      subst (λ y. AllAlong p W rest (f v t) (g y w)) h.same (c v h.value rest t w h.ready)
  all_along V W b rest f g (Gave v t) (Ended e w) h c = absurd h
  all_along V W b rest f g (Ended e t) (Gave u w) h c = absurd h
  all_along V W b rest f g (Ended e t) (Ended d w) h c = h

  -- ---- runs

  pub all_pure : {A : Type 0} (V : A → Type 0) (v : A) → V v → AllFollow p V skip (pure v) (pure v)
  all_pure V v h rest s w r = record { same = refl; value = h; ready = ready_paths p (sequence skip rest) rest s w (way_skipped rest) r }

  pub all_value : {A : Type 0} (V W : A → Type 0) (a : Plan Event) (f : Run Notes A) (g : RunIn Nodes A) → ((v : A) → V v → W v)
      → AllFollow p V a f g → AllFollow p W a f g
  all_value V W a f g h c rest s w r = all_weaker V W rest rest (f s) (g w) h (λ way x. x) (c rest s w r)

  pub all_paths : {A : Type 0} (V : A → Type 0) (a b : Plan Event) (f : Run Notes A) (g : RunIn Nodes A) → ((way : List Event) → Path a way → Path b way)
      → AllFollow p V a f g → AllFollow p V b f g
  all_paths V a b f g h c rest s w r = c rest s w (ready_paths p (sequence b rest) (sequence a rest) s w (way_first a b rest h) r)

  pub all_on : {A B : Type 0} (V : A → Type 0) (W : B → Type 0) (a b : Plan Event) (f : Run Notes A) (g : RunIn Nodes A)
      (f' : A → Run Notes B) (g' : A → RunIn Nodes B) → AllFollow p V a f g → ((v : A) → V v → AllFollow p W b (f' v) (g' v))
      → AllFollow p W (sequence a b) (f >>= f') (g >>= g')
  all_on V W a b f g f' g' c d rest s w r =
      all_along V W b rest f' g' (f s) (g w) (c (sequence b rest) s w (ready_paths p (sequence (sequence a b) rest) (sequence a (sequence b rest)) s w (way_left a b rest) r)) d

  after_next : (W : Flow → Type 0) (b : Plan Event) (f : Run Notes Flow) (g : RunIn Nodes Flow) → AllFollow p W b f g
      → (flow : Flow) → IsNext flow → AllFollow p W b (after flow f) (after flow g)
  after_next W b f g c flow h = subst (λ x. AllFollow p W b (after x f) (after x g)) (sym h) c

  pub all_then : (W : Flow → Type 0) (a b : Plan Event) (f f' : Run Notes Flow) (g g' : RunIn Nodes Flow)
      → AllFollow p IsNext a f g → AllFollow p W b f' g' → AllFollow p W (sequence a b) (then_run f f') (then_run g g')
  all_then W a b f f' g g' c d = all_on IsNext W a b f g (λ flow. after flow f') (λ flow. after flow g') c (after_next W b f' g' d)

  pub all_choose : {A : Type 0} (V : A → Type 0) (a b : Plan Event) (f f' : Run Notes A) (g g' : RunIn Nodes A) (v : Bool)
      → AllFollow p V a f g → AllFollow p V b f' g' → AllFollow p V (branch a b) (choose v f f') (choose v g g')
  all_choose V a b f f' g g' true c d = all_paths V a (branch a b) f g (λ way w. inl w) c
  all_choose V a b f f' g g' false c d = all_paths V b (branch a b) f' g' (λ way w. inr w) d

  -- a list of statements, each with its plan
  pub all_block : {S : Type 0} (plan : S → Plan Event) (f : S → Run Notes Flow) (g : S → RunIn Nodes Flow) (all : List S)
      → AllByRecursion (λ x. AllFollow p IsNext (plan x) (f x) (g x)) all
      → AllFollow p IsNext (in_order (map plan all)) (block (map f all)) (block (map g all))
  all_block plan f g [] h = all_pure IsNext Next refl
  all_block plan f g (x ∷ xs) h =
      all_then IsNext (plan x) (in_order (map plan xs)) (f x) (block (map f xs)) (g x) (block (map g xs)) h.0 (all_block plan f g xs h.1)

  -- ---- every node by itself

  -- a node's step, from where it was ready
  abbrev alone_ends : (node : ℕ) → State Notes → Alone → Type 0
  alone_ends node s n = (before : List ℕ) → base_at node ≡ Some before → s.out ≡ before ++ n.out

  abbrev alone_goes : {A : Type 0} (V : A → Type 0) (rest : Plan Event) (extra : Notes) → ℕ → A → State Notes → Alone → Type 0
  alone_goes V rest extra node v s n = V v × ReadyAt p node rest s n × (s.extra ≡ extra)

  alone_meets : {A : Type 0} (V : A → Type 0) (a rest : Plan Event) (node : ℕ) (stale : ℕ → Bool) (s : State Notes) (n : Alone) (r : Step Notes A) (q : Step (Unit {0}) A)
      → Safe node (sequence a rest) stale → Along (at_main p node) V a stale s n r q → Meets alone_ends (alone_goes V rest s.extra) node r q
  alone_meets V a rest node stale s n (Gave v t) (Gave u m) safe h = (
    h.same,
    (h.value, record { stale = left node h.way stale; safe = safe_back node a rest stale safe h.way h.path; agrees = h.agrees }, h.framed.extra),
  )
  alone_meets V a rest node stale s n (Gave v t) (Ended e m) safe h = absurd h
  alone_meets V a rest node stale s n (Ended e t) (Gave u m) safe h = absurd h
  alone_meets V a rest node stale s n (Ended e t) (Ended d m) safe h = (h.same, h.out)

  first_out : (s : State Notes) (v : Nodes) → 0 < length v.stores → ((k : ℕ) (n : Alone) → slice_get v.stores k ≡ Some n → alone_ends k s n) → out_of v.stores ≡ s.out
  first_out s v some each = at_stores v.stores refl
    where
      at_stores : (ss : List Alone) → v.stores ≡ ss → out_of v.stores ≡ s.out
      at_stores [] e = absurd (omega (arith, some, ap (λ l. length l) e))
      at_stores (n ∷ ss) e = ap out_of e ∙ sym (each 0 n (ap (λ l. slice_get l 0) e) [] refl)

  of_all : {A : Type 0} (V : A → Type 0) (rest : Plan Event) (s : State Notes) (w : Nodes) → length w.stores ≡ node_count p → 0 < node_count p
      → Counted p s.extra w.turns w.sent → (r : Step Notes A) (q : StepIn Nodes A)
      → AllMeet alone_ends (alone_goes V rest s.extra) w r q → AllAlong p V rest r q
  of_all V rest s w many some counts (Gave v t) (Gave u x) m =
      let all : AllAre w (λ k. alone_goes V rest s.extra k v) t x = m.1 in
      let long : length x.stores ≡ node_count p = all.length ∙ many in
      let first = there x.stores 0 (omega (arith, some, long)) in
      let of_first = all.each 0 first.0 first.1 in
      record {
        same = m.0;
        value = of_first.0;
        ready = record {
          many = long;
          nodes = λ node n e. (all.each node n e).1;
          counts = subst (λ e. Counted p e x.turns x.sent) (sym of_first.2)
              (subst (λ l. Counted p s.extra x.turns l) (sym all.sent) (subst (λ l. Counted p s.extra l w.sent) (sym all.turns) counts));
        };
      }
  of_all V rest s w many some counts (Gave v t) (Ended e x) m = absurd m
  of_all V rest s w many some counts (Ended e t) (Gave u x) m = absurd m
  of_all V rest s w many some counts (Ended e t) (Ended d x) m =
      let all : AllAre w alone_ends t x = m.1 in
      record { same = m.0; out = first_out t x (omega (arith, some, all.length, many)) all.each }

  -- every node does a step by itself
  pub all_alone : {A : Type 0} (V : A → Type 0) (a : Plan Event) (none : A) (f : Run Notes A) (g : ℕ → Run (Unit {0}) A) → 0 < node_count p
      → ((node : ℕ) → node < node_count p → Carried (at_main p node) V a f (g node)) → AllFollow p V a f (all_do none g)
  all_alone V a none f g some each rest s w r =
      of_all V rest s w r.many some r.counts (f s) (all_do none g w)
      (all_do_meets alone_ends (alone_goes V rest s.extra) none g w (f s) (omega (arith, some, r.many)) (λ k n e.
      let x = r.nodes k n e in
      alone_meets V a rest k x.stale s n (f s) (g k n) x.safe
      (each k (let i = slice_get_within w.stores k n e in let l = r.many in omega (arith, i, l)) x.stale s n (safe_front k a rest x.stale x.safe) x.agrees)))
