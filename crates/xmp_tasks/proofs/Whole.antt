-- What the runner does with tasks is the definition's step.
use Rattle.std.proofs.Common.{◌≡◌, ◌∙◌, refl, sym, ap, ap₂, ℕ, suc, ◌==◌, Bool, true, false, if◌then◌else◌, List, [], ◌∷◌, ◌++◌, map, Option, Some, None, slice_get, arith}
use Rattle.std.specs.Prelude.{unwrap_or}
use Rattle.std.specs.Option.{option_map}
use Rattle.std.proofs.lemmas.Option.{slice_get-map}
use Rattle.xmp_prog.specs.declared.parts.ProgParts.{ProgParts}
use Rattle.xmp_prog.specs.declared.statements.Task.{Task}
use Rattle.xmp_prog.specs.NodeSets.{has_node}
use Rattle.xmp_meaning.specs.declared.ends.End.{End}
use Rattle.xmp_meaning.specs.declared.ends.Flow.{Flow}
use Rattle.xmp_meaning.specs.declared.ends.Flow.TheVariants.{Next}
use Rattle.xmp_meaning.specs.Runs.{State, Step, Gave, Run, pure, end_of, state_of}
use Rattle.xmp_meaning.specs.Exchanges.{TaskEnd, TasksEnd, unprinted}
use Rattle.xmp_meaning.specs.LoopEnds.{ending}
use Rattle.xmp_meaning.specs.Messages.{message}
use Rattle.xmp_meaning.specs.TaskEnds.{leader, own_tasks, first_end, texts}
use Rattle.xmp_meaning.specs.Traffic.{node_context, node_beginning}
use Rattle.xmp_nodes.specs.Nodes.{Nodes, each_does, saying}
use Rattle.xmp_nodes.specs.Tasks.{task_at, led_end, task_ends, with_texts, tasks_all}
use Rattle.xmp_stores.specs.Each.{each_by}
use Rattle.xmp_tasks.specs.declared.own.Own.{Own}
use Rattle.xmp_tasks.specs.OfText.{task_of, tasks_of}
use Rattle.xmp_tasks.specs.Members.{task_in, own_run, own_of, left_with}
use Rattle.xmp_tasks.specs.Ends.{where_so, ended_in, text_in, end_by, ends_by, with_text}

module _ (p : ProgParts) (input : List ℕ) (ts : List Task) where
  -- what a node does with its own tasks, as the runner and as the definition say it
  abbrev step : ℕ → Run (Unit {0}) Flow
  step node s = own_run p node (node_context p node input) ts (unprinted s)

  abbrev meant : ℕ → Run (Unit {0}) Flow
  meant node s = own_tasks p node (map (task_at node) (tasks_of p input ts)) (unprinted s)

  abbrev gives : ℕ → State (Unit {0}) → Own
  gives node s = own_of (step node s)

  abbrev leaves : ℕ → State (Unit {0}) → State (Unit {0})
  leaves node s = left_with s.out (step node s)

  tasks_at : (node : ℕ) (xs : List Task) → map (task_in (node_context p node input)) xs ≡ map (task_at node) (map (task_of p input) xs)
  tasks_at node [] = refl
  tasks_at node (x ∷ xs) = ap (λ l. task_in (node_context p node input) x ∷ l) (tasks_at node xs)

  same_step : (node : ℕ) (s : State (Unit {0})) → step node s ≡ meant node s
  same_step node s = ap (λ l. own_tasks p node l (unprinted s)) (tasks_at node ts)

  owns_are : (node : ℕ) (ss : List (State (Unit {0}))) → each_by gives node ss ≡ map own_of (each_does meant node ss)
  owns_are node [] = refl
  owns_are node (s ∷ ss) = ap₂ (λ a l. a ∷ l) (ap own_of (same_step node s)) (owns_are (suc node) ss)

  -- ---- ends

  abbrev made : Task → Option Own → TaskEnd
  made t o = record { nodes = t.nodes; ended = ended_in o; text = text_in o }

  abbrev meant_end : Task → Bool → Step (Unit {0}) Flow → TaskEnd
  meant_end t b s = if b then record { nodes = t.nodes; ended = end_of s; text = (state_of s).out } else record { nodes = t.nodes; ended = None; text = [] }

  made_is : (t : Task) (b : Bool) (o : Option (Step (Unit {0}) Flow)) → made t (where_so b (option_map own_of o)) ≡ meant_end t b (unwrap_or o (Gave Next (node_beginning p 0 0)))
  made_is t false o = refl
  made_is t true None = refl
  made_is t true (Some s) = refl

  end_is : (steps : List (Step (Unit {0}) Flow)) (t : Task) → end_by p (map own_of steps) t ≡ led_end p steps (task_of p input t)
  end_is steps t =
      let k : ℕ = leader p t.nodes in
      ap (λ o. made t (where_so (has_node p.grid t.nodes k) o)) (slice_get-map own_of steps k) ∙ made_is t (has_node p.grid t.nodes k) (slice_get steps k)

  ends_are : (steps : List (Step (Unit {0}) Flow)) (xs : List Task) → ends_by p (map own_of steps) xs ≡ task_ends p (map (task_of p input) xs) steps
  ends_are steps [] = refl
  ends_are steps (x ∷ xs) = ap₂ (λ a l. a ∷ l) (end_is steps x) (ends_are steps xs)

  -- ---- stores

  none_is_first : (k : ℕ) → (suc k == 0) ≡ false
  none_is_first k = grind arith

  others_keep : (text : List ℕ) (node : ℕ) (ss : List (State (Unit {0}))) → with_texts text (suc node) ss (map state_of (each_does meant (suc node) ss)) ≡ each_by leaves (suc node) ss
  others_keep text node [] = refl
  others_keep text node (s ∷ ss) = ap₂ (λ a l. a ∷ l)
      (ap (λ b. left_with (if b then s.out ++ text else s.out) (meant (suc node) s)) (none_is_first node) ∙ ap (left_with s.out) (sym (same_step (suc node) s)))
      (others_keep text (suc node) ss)

  stores_are : (text : List ℕ) (ss : List (State (Unit {0}))) → with_texts text 0 ss (map state_of (each_does meant 0 ss)) ≡ with_text text (each_by leaves 0 ss)
  stores_are text [] = refl
  stores_are text (s ∷ ss) = ap₂ (λ a l. a ∷ l) (ap (left_with (s.out ++ text)) (sym (same_step 0 s))) (others_keep text 0 ss)

  -- ---- all

  pub whole : (w new : Nodes) → new ≡ saying (message p (TasksEnd (ends_by p (each_by gives 0 w.stores) ts))) (record w { stores = with_text (texts (ends_by p (each_by gives 0 w.stores) ts)) (each_by leaves 0 w.stores) }) →
      tasks_all p (tasks_of p input ts) w ≡ ending (first_end (ends_by p (each_by gives 0 w.stores) ts)) (pure Next) new
  whole w new h =
      let es : List TaskEnd = task_ends p (tasks_of p input ts) (each_does meant 0 w.stores) in
      let e : es ≡ ends_by p (each_by gives 0 w.stores) ts = sym (ap (λ os. ends_by p os ts) (owns_are 0 w.stores) ∙ ends_are (each_does meant 0 w.stores) ts) in
      ap (λ ss. ending (first_end es) (pure {S = Nodes} Next) (saying (message p (TasksEnd es)) (record w { stores = ss }))) (stores_are (texts es) w.stores)
      ∙ (ap (λ xs. ending (first_end xs) (pure {S = Nodes} Next) (saying (message p (TasksEnd xs)) (record w { stores = with_text (texts xs) (each_by leaves 0 w.stores) }))) e
      ∙ ap (ending (first_end (ends_by p (each_by gives 0 w.stores) ts)) (pure {S = Nodes} Next)) (sym h))

  -- step by step, as the runner has it
  pub found : (w ran printed new : Nodes) (owns given : List Own) (end : Option End) → owns ≡ given → given ≡ each_by gives 0 w.stores → ran ≡ record w { stores = each_by leaves 0 w.stores } →
      printed ≡ record ran { stores = with_text (texts (ends_by p owns ts)) ran.stores } → new ≡ saying (message p (TasksEnd (ends_by p owns ts))) printed → end ≡ first_end (ends_by p owns ts) →
      tasks_all p (tasks_of p input ts) w ≡ ending end (pure Next) new
  found w ran printed new owns given end same gave left wrote said first =
      let os : owns ≡ each_by gives 0 w.stores = same ∙ gave in
      let es : ends_by p owns ts ≡ ends_by p (each_by gives 0 w.stores) ts = ap (λ os. ends_by p os ts) os in
      whole w new (said
      ∙ (ap (saying (message p (TasksEnd (ends_by p owns ts)))) (wrote ∙ ap (λ (r : Nodes). record r { stores = with_text (texts (ends_by p owns ts)) r.stores }) left)
      ∙ ap (λ xs. saying (message p (TasksEnd xs)) (record w { stores = with_text (texts xs) (each_by leaves 0 w.stores) })) es))
      ∙ sym (ap (λ e. ending e (pure {S = Nodes} Next) new) (first ∙ ap first_end es))

-- The first of all states prints a text.
pub first_printed : (text : List ℕ) {s t : State (Unit {0})} {rest all : List (State (Unit {0}))} → all ≡ s ∷ rest → t ≡ record s { out = s.out ++ text } → t ∷ rest ≡ with_text text all
first_printed text {rest = rest} whole first = ap (λ x. x ∷ rest) first ∙ sym (ap (with_text text) whole)
