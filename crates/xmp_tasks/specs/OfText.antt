-- Tasks as they stand in a program.
use Rattle.std.specs.Prelude.{ℕ, List, map}
use Rattle.xmp_prog.specs.declared.parts.ProgParts.{ProgParts}
use Rattle.xmp_prog.specs.declared.statements.Task.{Task}
use Rattle.xmp_meaning.specs.Handlers.{erased}
use Rattle.xmp_meaning.specs.Statements.{stmt_of}
use Rattle.xmp_meaning.specs.Traffic.{node_context}
use Rattle.xmp_nodes.specs.Tasks.{TaskOf}

-- a node that runs a task runs its statement, whose directives mean nothing there
abbrev pub task_of : ProgParts → (input : List ℕ) → Task → TaskOf
task_of p input t = record { nodes = t.nodes; at = λ node. stmt_of erased (node_context p node input) t.body; place = t.at }

abbrev pub tasks_of : ProgParts → (input : List ℕ) → List Task → List TaskOf
tasks_of p input ts = map (task_of p input) ts
