-- Tasks: each node runs the tasks of which it is a member; the least node of each set tells the others how it ended, and
-- node 0 what it printed (XcalableMP 1.4, task and tasks constructs).
use Rattle.std.specs.Prelude.{ℕ, suc, ◌==◌, ◌++◌, if◌then◌else◌, List, [], ◌∷◌, map, slice_get, unwrap_or}
use Rattle.xmp_base.specs.declared.place.Place.{Place}
use Rattle.xmp_map.specs.declared.grid.NodeSet.{NodeSet}
use Rattle.xmp_prog.specs.declared.parts.ProgParts.{ProgParts}
use Rattle.xmp_meaning.specs.declared.ends.Flow.{Flow}
use Rattle.xmp_meaning.specs.declared.ends.Flow.TheVariants.{Next}
use Rattle.xmp_meaning.specs.Runs.{State, Step, Gave, RunIn, Run, pure, state_of}
use Rattle.xmp_meaning.specs.Blocks.{then_run}
use Rattle.xmp_meaning.specs.Handlers.{TaskIn}
use Rattle.xmp_meaning.specs.Exchanges.{TaskEnd, TasksEnd, unprinted}
use Rattle.xmp_meaning.specs.LoopEnds.{ending}
use Rattle.xmp_meaning.specs.TaskEnds.{leader, own_tasks, own_end, first_end, texts}
use Rattle.xmp_meaning.specs.Messages.{message}
use Rattle.xmp_meaning.specs.Traffic.{node_beginning}
use Rattle.xmp_nodes.specs.Nodes.{Nodes, each_does, say}

-- A task: its nodes, what a node does that runs it, and the place of its word.
pub record TaskOf : Type 0 where
  pub nodes : NodeSet
  pub at : (node : ℕ) → Run (Unit {0}) Flow
  pub place : Place

abbrev pub task_at : (node : ℕ) → TaskOf → TaskIn (State (Unit {0}))
task_at node t = record { nodes = t.nodes; run = t.at node; at = t.place }

-- each node runs its own tasks, with nothing printed
abbrev pub own_runs : ProgParts → List TaskOf → Nodes → List (Step (Unit {0}) Flow)
own_runs p all w = each_does (λ node s. own_tasks p node (map (task_at node) all) (unprinted s)) 0 w.stores

-- the end of a task as its least node ended
abbrev pub led_end : ProgParts → List (Step (Unit {0}) Flow) → TaskOf → TaskEnd
led_end p steps t =
    let node = leader p t.nodes in
    own_end p node (unwrap_or (slice_get steps node) (Gave Next (node_beginning p 0 0))) (task_at node t)

abbrev pub task_ends : ProgParts → List TaskOf → List (Step (Unit {0}) Flow) → List TaskEnd
task_ends p all steps = map (led_end p steps) all

-- the output of each node as it was, and at node 0 behind it the texts of the tasks up to the first that ended early
abbrev pub with_texts : (text : List ℕ) → (node : ℕ) → (before after : List (State (Unit {0}))) → List (State (Unit {0}))
with_texts text node [] after = []
with_texts text node (b ∷ before) [] = []
with_texts text node (b ∷ before) (s ∷ after) =
    record s { out = if node == 0 then b.out ++ text else b.out } ∷ with_texts text (suc node) before after

-- the end of the first task in the text that ended early is the end of all
abbrev pub tasks_all : ProgParts → List TaskOf → RunIn Nodes Flow
tasks_all p all = λ w.
    let steps = own_runs p all w in
    let ends = task_ends p all steps in
    then_run (say (λ x. message p (TasksEnd ends))) (ending (first_end ends) (pure Next))
    (record w { stores = with_texts (texts ends) 0 w.stores (map state_of steps) })
