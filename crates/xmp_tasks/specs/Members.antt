-- What a node makes of its own tasks.
use Rattle.std.specs.Prelude.{ℕ, List, map}
use Rattle.xmp_prog.specs.declared.parts.ProgParts.{ProgParts}
use Rattle.xmp_prog.specs.declared.statements.Task.{Task}
use Rattle.xmp_meaning.specs.declared.ends.Flow.{Flow}
use Rattle.xmp_meaning.specs.Context.{Context}
use Rattle.xmp_meaning.specs.Runs.{State, Step, Run, end_of, state_of}
use Rattle.xmp_meaning.specs.Handlers.{TaskIn, erased}
use Rattle.xmp_meaning.specs.Statements.{stmt_of}
use Rattle.xmp_meaning.specs.TaskEnds.{own_tasks}
use Rattle.xmp_tasks.specs.declared.own.Own.{Own}

-- a task, in a context
abbrev pub task_in : Context → Task → TaskIn (State (Unit {0}))
task_in c t = record { nodes = t.nodes; run = stmt_of erased c t.body; at = t.at }

-- the tasks of which a node is a member, one after the other
abbrev pub own_run : ProgParts → (node : ℕ) → Context → List Task → Run (Unit {0}) Flow
own_run p node c ts = own_tasks p node (map (task_in c) ts)

-- how they ended, and what is printed then
abbrev pub own_of : Step (Unit {0}) Flow → Own
own_of step = record { ended = end_of step; text = (state_of step).out }

-- the state then, with its output as it was before
abbrev pub left_with : (out : List ℕ) → Step (Unit {0}) Flow → State (Unit {0})
left_with out step = record (state_of step) { out = out }
