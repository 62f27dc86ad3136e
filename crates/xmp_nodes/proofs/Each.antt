-- What every node does by itself, node by node.
use Rattle.std.proofs.Common.{◌≡◌, ◌<◌, ◌+◌, ◌++◌, ◌==◌, if◌then◌else◌, ℕ, zero, suc, List, [], ◌∷◌, map, length, Option, Some, None, option_map, refl, sym, ap, subst, ◌∙◌, arith, zero-add}
use Rattle.std.specs.Prelude.{slice_get, unwrap_or}
use Rattle.std.specs.List.{range_with_len}
use Rattle.std.proofs.lemmas.Option.{slice_get-map, none-some, same_Some}
use Rattle.std.proofs.lemmas.List.{length-map}
use Rattle.xmp_prog.specs.declared.parts.ProgParts.{ProgParts}
use Rattle.xmp_prog.specs.declared.statements.LoopDirective.{LoopDirective}
use Rattle.xmp_prog.specs.Fits.{node_count}
use Rattle.xmp_meaning.specs.Runs.{State, StepIn, Step, Gave, Ended, Run, state_of}
use Rattle.xmp_meaning.specs.Messages.{Message, words_sent}
use Rattle.xmp_meaning.specs.Traffic.{node_beginning}
use Rattle.xmp_meaning_laws.specs.Agreement.{StepsMeet}
use Rattle.xmp_nodes.specs.Nodes.{bounded, Nodes, nodes_beginning, store_at, each_does, led, with_steps, all_do, raised_by, rows_raised, saying}
use Rattle.xmp_nodes.specs.Parts.{own_tuples, own_turns}
use Rattle.xmp_nodes.specs.Tasks.{with_texts}

abbrev pub Alone : Type 0
Alone = State (Unit {0})

-- ---- lists by their numbers

none_more : (a : ℕ) → a ≡ a + 0
none_more a = omega arith

next_on : (a k : ℕ) → suc a + k ≡ a + suc k
next_on a k = omega arith

pub mapped_at : {A B : Type 0} (f : A → B) (xs : List A) (k : ℕ) (y : B) → slice_get (map f xs) k ≡ Some y
    → (x : A) × (slice_get xs k ≡ Some x) × (y ≡ f x)
mapped_at f [] k y e = absurd (none-some y e)
mapped_at f (x ∷ xs) zero y e = (x, refl, sym (same_Some (f x) y e))
mapped_at f (x ∷ xs) (suc k) y e = mapped_at f xs k y e

pub at_mapped : {A B : Type 0} (f : A → B) (xs : List A) (k : ℕ) (x : A) → slice_get xs k ≡ Some x → slice_get (map f xs) k ≡ Some (f x)
at_mapped f xs k x e = slice_get-map f xs k ∙ ap (option_map f) e

-- below the length there is an element
pub there : {A : Type 0} (xs : List A) (k : ℕ) → k < length xs → (x : A) × (slice_get xs k ≡ Some x)
there [] k h = absurd (omega (arith, h))
there (x ∷ xs) zero h = (x, refl)
there (x ∷ xs) (suc k) h = there xs k (omega (arith, h))

-- a range's number in its place
pub range_at : (a n k : ℕ) → k < n → slice_get (range_with_len a n) k ≡ Some (a + k)
range_at a zero k h = absurd (omega (arith, h))
range_at a (suc n) zero h = ap Some (let e : a ≡ a + 0 = omega arith in e)
range_at a (suc n) (suc k) h = range_at (a + 1) n k (omega (arith, h)) ∙ ap Some (let e : a + 1 + k ≡ a + suc k = omega arith in e)

pub ranged_at : {A : Type 0} (f : ℕ → A) (n k : ℕ) → k < n → slice_get (map f (range_with_len 0 n)) k ≡ Some (f k)
ranged_at f n k h = at_mapped f (range_with_len 0 n) k (0 + k) (range_at 0 n k h) ∙ ap (λ j. Some (f j)) (zero-add k)

-- ---- the steps of all nodes

module _ {A : Type 0} (run : ℕ → Run (Unit {0}) A) where
  pub each_length : (node : ℕ) (ss : List Alone) → length (each_does run node ss) ≡ length ss
  each_length node [] = refl
  each_length node (s ∷ ss) = ap suc (each_length (suc node) ss)

  each_from : (node : ℕ) (ss : List Alone) (k : ℕ) → slice_get (each_does run node ss) k ≡ option_map (run (node + k)) (slice_get ss k)
  each_from node [] k = refl
  each_from node (s ∷ ss) zero = ap (λ n. Some (run n s)) (none_more node)
  each_from node (s ∷ ss) (suc k) = each_from (suc node) ss k ∙ ap (λ n. option_map (run n) (slice_get ss k)) (next_on node k)

  -- the step of a node is its run from its own state
  pub each_is : (ss : List Alone) (k : ℕ) → slice_get (each_does run 0 ss) k ≡ option_map (run k) (slice_get ss k)
  each_is ss k = each_from 0 ss k ∙ ap (λ n. option_map (run n) (slice_get ss k)) (zero-add k)

  pub each_at : (ss : List Alone) (k : ℕ) (s : Alone) → slice_get ss k ≡ Some s → slice_get (each_does run 0 ss) k ≡ Some (run k s)
  each_at ss k s e = each_is ss k ∙ ap (option_map (run k)) e

  of_step : (k : ℕ) (o : Option Alone) (t : Step (Unit {0}) A) → option_map (run k) o ≡ Some t → (s : Alone) × (o ≡ Some s) × (t ≡ run k s)
  of_step k None t e = absurd (none-some t e)
  of_step k (Some s) t e = (s, refl, sym (same_Some (run k s) t e))

  -- and each step is one of a node that is there
  pub step_of_node : (ss : List Alone) (k : ℕ) (t : Step (Unit {0}) A) → slice_get (each_does run 0 ss) k ≡ Some t
      → (s : Alone) × (slice_get ss k ≡ Some s) × (t ≡ run k s)
  step_of_node ss k t e = of_step k (slice_get ss k) t (sym (each_is ss k) ∙ e)

  -- the states behind the steps
  pub state_at : (ss : List Alone) (k : ℕ) (s : Alone) → slice_get ss k ≡ Some s → slice_get (map state_of (each_does run 0 ss)) k ≡ Some (state_of (run k s))
  state_at ss k s e = at_mapped state_of (each_does run 0 ss) k (run k s) (each_at ss k s e)

  pub state_of_node : (ss : List Alone) (k : ℕ) (t : Alone) → slice_get (map state_of (each_does run 0 ss)) k ≡ Some t
      → (s : Alone) × (slice_get ss k ≡ Some s) × (t ≡ state_of (run k s))
  state_of_node ss k t e =
      let m = mapped_at state_of (each_does run 0 ss) k t e in
      let n = step_of_node ss k m.0 m.1 in
      (n.0, n.1, m.2 ∙ ap state_of n.2)

  pub states_length : (node : ℕ) (ss : List Alone) → length (map state_of (each_does run node ss)) ≡ length ss
  states_length node ss = length-map (each_does run node ss) state_of ∙ each_length node ss

-- the state of a node that is there
pub store_is : (none : Alone) (w : Nodes) (k : ℕ) (s : Alone) → slice_get w.stores k ≡ Some s → store_at none w k ≡ s
store_is none w k s e = ap (λ o. unwrap_or o none) e

pub store_there : (none : Alone) (w : Nodes) (k : ℕ) → k < length w.stores → slice_get w.stores k ≡ Some (store_at none w k)
store_there none w k h = let t = there w.stores k h in t.1 ∙ ap Some (sym (store_is none w k t.0 t.1))

-- ---- all nodes beside one run

-- All nodes are as many as before, and nothing more is counted; of the state of each something holds.
pub record AllAre (w : Nodes) {S : Type 0} (P : ℕ → S → Alone → Type 0) (s : S) (v : Nodes) : Type 0 where
  pub length : length v.stores ≡ length w.stores
  pub turns : v.turns ≡ w.turns
  pub sent : v.sent ≡ w.sent
  pub each : (k : ℕ) (n : Alone) → slice_get v.stores k ≡ Some n → P k s n

module _ {S A : Type 0} (E : ℕ → S → Alone → Type 0) (Q : ℕ → A → S → Alone → Type 0) where
  -- a node's step beside the one run
  abbrev pub Meets : (k : ℕ) → StepIn S A → Step (Unit {0}) A → Type 0
  Meets k r q = StepsMeet (E k) (λ a b s n. (a ≡ b) × Q k a s n) r q

  -- and all nodes' step
  abbrev pub AllMeet : Nodes → StepIn S A → StepIn Nodes A → Type 0
  AllMeet w r q = StepsMeet (AllAre w E) (λ a b s v. (a ≡ b) × AllAre w (λ k. Q k a) s v) r q

  of_gave : (k : ℕ) (a : A) (s : S) (q : Step (Unit {0}) A) → Meets k (Gave a s) q → Q k a s (state_of q)
  of_gave k a s (Gave b n) m = m.1
  of_gave k a s (Ended e n) m = absurd m

  of_ended : (k : ℕ) (e : _) (s : S) (q : Step (Unit {0}) A) → Meets k (Ended e s) q → E k s (state_of q)
  of_ended k e s (Gave b n) m = absurd m
  of_ended k e s (Ended f n) m = m.1

  leads : (none : A) (w v : Nodes) (r : StepIn S A) (q : Step (Unit {0}) A) (rest : List (Step (Unit {0}) A)) → Meets 0 r q
      → ((a : A) (s : S) → r ≡ Gave a s → AllAre w (λ k. Q k a) s v) → ((e : _) (s : S) → r ≡ Ended e s → AllAre w E s v)
      → AllMeet w r (led none (q ∷ rest) v)
  leads none w v (Gave a s) (Gave b n) rest m gave ended = (m.0, gave a s refl)
  leads none w v (Gave a s) (Ended f n) rest m gave ended = absurd m
  leads none w v (Ended e s) (Gave b n) rest m gave ended = absurd m
  leads none w v (Ended e s) (Ended f n) rest m gave ended = (m.0, ended e s refl)

  -- Where each node's step meets the one run, so does all nodes' step.
  pub all_do_meets : (none : A) (run : ℕ → Run (Unit {0}) A) (w : Nodes) (r : StepIn S A) → 0 < length w.stores
      → ((k : ℕ) (n : Alone) → slice_get w.stores k ≡ Some n → Meets k r (run k n))
      → AllMeet w r (all_do none run w)
  all_do_meets none run w r some each = at_stores w.stores refl
    where
      after : Nodes
      after = with_steps (each_does run 0 w.stores) w

      gave : (a : A) (s : S) → r ≡ Gave a s → AllAre w (λ k. Q k a) s after
      gave a s e = record {
        length = states_length run 0 w.stores;
        turns = refl;
        sent = refl;
        each = λ k n at.
            let m = state_of_node run w.stores k n at in
            subst (Q k a s) (sym m.2) (of_gave k a s (run k m.0) (subst (λ x. Meets k x (run k m.0)) e (each k m.0 m.1)));
      }

      ended : (e : _) (s : S) → r ≡ Ended e s → AllAre w E s after
      ended e s same = record {
        length = states_length run 0 w.stores;
        turns = refl;
        sent = refl;
        each = λ k n at.
            let m = state_of_node run w.stores k n at in
            subst (E k s) (sym m.2) (of_ended k e s (run k m.0) (subst (λ x. Meets k x (run k m.0)) same (each k m.0 m.1)));
      }

      at_stores : (ss : List Alone) → w.stores ≡ ss → AllMeet w r (led none (each_does run 0 w.stores) after)
      at_stores [] e = absurd (omega (arith, some, ap (λ l. length l) e))
      at_stores (n ∷ ss) e = subst (λ l. AllMeet w r (led none (each_does run 0 l) after)) (sym e)
          (leads none w after r (run 0 n) (each_does run 1 ss) (each 0 n (ap (λ l. slice_get l 0) e)) gave ended)

-- ---- counts

pub raised_at : (more : ℕ → ℕ) (ns : List ℕ) (k n : ℕ) → slice_get ns k ≡ Some n → slice_get (raised_by more 0 ns) k ≡ Some (bounded (n + more k))
raised_at more ns k n e = from 0 ns k ∙ ap (λ (o : Option ℕ). option_map (λ m. bounded (m + more (0 + k))) o) e ∙ ap (λ j. Some (bounded (n + more j))) (zero-add k)
  where
    from : (a : ℕ) (ns : List ℕ) (k : ℕ) → slice_get (raised_by more a ns) k ≡ option_map (λ m. bounded (m + more (a + k))) (slice_get ns k)
    from a [] k = refl
    from a (n ∷ ns) zero = ap (λ j. Some (bounded (n + more j))) (none_more a)
    from a (n ∷ ns) (suc k) = from (suc a) ns k ∙ ap (λ j. option_map (λ m. bounded (m + more j)) (slice_get ns k)) (next_on a k)

pub raised_length : (more : ℕ → ℕ) (a : ℕ) (ns : List ℕ) → length (raised_by more a ns) ≡ length ns
raised_length more a [] = refl
raised_length more a (n ∷ ns) = ap suc (raised_length more (suc a) ns)

pub rows_at : (more : ℕ → ℕ → ℕ) (rows : List (List ℕ)) (k : ℕ) (row : List ℕ) → slice_get rows k ≡ Some row
    → slice_get (rows_raised more 0 rows) k ≡ Some (raised_by (more k) 0 row)
rows_at more rows k row e = from 0 rows k ∙ ap (λ (o : Option (List ℕ)). option_map (λ r. raised_by (more (0 + k)) 0 r) o) e ∙ ap (λ j. Some (raised_by (more j) 0 row)) (zero-add k)
  where
    from : (a : ℕ) (rows : List (List ℕ)) (k : ℕ) → slice_get (rows_raised more a rows) k ≡ option_map (λ r. raised_by (more (a + k)) 0 r) (slice_get rows k)
    from a [] k = refl
    from a (r ∷ rows) zero = ap (λ j. Some (raised_by (more j) 0 r)) (none_more a)
    from a (r ∷ rows) (suc k) = from (suc a) rows k ∙ ap (λ j. option_map (λ r. raised_by (more j) 0 r) (slice_get rows k)) (next_on a k)

pub rows_length : (more : ℕ → ℕ → ℕ) (a : ℕ) (rows : List (List ℕ)) → length (rows_raised more a rows) ≡ length rows
rows_length more a [] = refl
rows_length more a (r ∷ rows) = ap suc (rows_length more (suc a) rows)

-- the words from one node to another, once these messages are sent
pub said_at : (said : ℕ → ℕ → Message) (w : Nodes) (from to n : ℕ) (row : List ℕ) → slice_get w.sent from ≡ Some row → slice_get row to ≡ Some n
    → (after : List ℕ) × (slice_get (saying said w).sent from ≡ Some after) × (slice_get after to ≡ Some (bounded (n + (if from == to then 0 else words_sent (said from to)))))
said_at said w from to n row e f = (
  raised_by (λ j. if from == j then 0 else words_sent (said from j)) 0 row,
  rows_at (λ i j. if i == j then 0 else words_sent (said i j)) w.sent from row e,
  raised_at (λ j. if from == j then 0 else words_sent (said from j)) row to n f,
)

pub turns_at : (p : ProgParts) (d : LoopDirective) (ss : List Alone) (k : ℕ) (s : Alone) → slice_get ss k ≡ Some s
    → slice_get (own_turns p d 0 ss) k ≡ Some (length (own_tuples p d k s))
turns_at p d ss k s e = from 0 ss k ∙ ap (λ (o : Option Alone). option_map (λ t. length (own_tuples p d (0 + k) t)) o) e ∙ ap (λ j. Some (length (own_tuples p d j s))) (zero-add k)
  where
    from : (a : ℕ) (ss : List Alone) (k : ℕ) → slice_get (own_turns p d a ss) k ≡ option_map (λ t. length (own_tuples p d (a + k) t)) (slice_get ss k)
    from a [] k = refl
    from a (s ∷ ss) zero = ap (λ j. Some (length (own_tuples p d j s))) (none_more a)
    from a (s ∷ ss) (suc k) = from (suc a) ss k ∙ ap (λ j. option_map (λ t. length (own_tuples p d j t)) (slice_get ss k)) (next_on a k)

-- ---- texts

-- a node's state behind its tasks, with the output that it keeps
abbrev pub with_text : (text : List ℕ) → (node : ℕ) → (before after : Alone) → Alone
with_text text node before after = record after { out = if node == 0 then before.out ++ text else before.out }

pub texts_length : (text : List ℕ) (node : ℕ) (before after : List Alone) → length after ≡ length before → length (with_texts text node before after) ≡ length before
texts_length text node [] after e = refl
texts_length text node (b ∷ before) [] e = absurd (omega (arith, e))
texts_length text node (b ∷ before) (s ∷ after) e = ap suc (texts_length text (suc node) before after (omega (arith, e)))

texts_from : (text : List ℕ) (node : ℕ) (before after : List Alone) (k : ℕ) (b s : Alone) → slice_get before k ≡ Some b → slice_get after k ≡ Some s
    → slice_get (with_texts text node before after) k ≡ Some (with_text text (node + k) b s)
texts_from text node [] after k b s e f = absurd (none-some b e)
texts_from text node (c ∷ before) [] k b s e f = absurd (none-some s f)
texts_from text node (c ∷ before) (t ∷ after) zero b s e f =
    ap Some (λ i. with_text text (none_more node i) (same_Some c b e i) (same_Some t s f i))
texts_from text node (c ∷ before) (t ∷ after) (suc k) b s e f =
    texts_from text (suc node) before after k b s e f ∙ ap (λ j. Some (with_text text j b s)) (next_on node k)

pub texts_at : (text : List ℕ) (before after : List Alone) (k : ℕ) (b s : Alone) → slice_get before k ≡ Some b → slice_get after k ≡ Some s
    → slice_get (with_texts text 0 before after) k ≡ Some (with_text text k b s)
texts_at text before after k b s e f = texts_from text 0 before after k b s e f ∙ ap (λ j. Some (with_text text j b s)) (zero-add k)

-- ---- the beginning

pub begins_many : (p : ProgParts) (steps : ℕ) → length (nodes_beginning p steps).stores ≡ node_count p
begins_many p steps = length-map (range_with_len 0 (node_count p)) (λ node. node_beginning p node steps) ∙ range_length 0 (node_count p)
  where
    range_length : (a n : ℕ) → length (range_with_len a n) ≡ n
    range_length a zero = refl
    range_length a (suc n) = ap suc (range_length (a + 1) n)

pub begins_at : (p : ProgParts) (steps k : ℕ) → k < node_count p → slice_get (nodes_beginning p steps).stores k ≡ Some (node_beginning p k steps)
begins_at p steps k h = ranged_at (λ node. node_beginning p node steps) (node_count p) k h
