use Rattle.std.proofs.Common.{◌≡◌, map, drop}
use Rattle.xmp_prog.specs.declared.statements.Stmt.TheVariants as s
use Rattle.xmp_names.specs.Walk.{and_then, close_scope, ◌>>=◌, pure}
use Rattle.xmp_directives.specs.Directives.{tasks_in, tasks_of}
use Rattle.xmp_walk.specs.Program.{block_of, inside_item, items_of, task_step}
use Rattle.xmp_walk.proofs.blocks.+statement.Given as goal

-- what is left to do from here gives what the whole gives
abbrev pub invariant-block-list : goal.invariant-block-list
invariant-block-list l =
    block_of (map inside_item l.fn.list) l.fn.world
    ≡ and_then (items_of l.done (map inside_item (drop l.x-index l.list)) l.world) (λ made. close_scope >>= (λ _. pure (s.Block made)))

abbrev pub invariant-tasks-list : goal.invariant-tasks-list
invariant-tasks-list l =
    tasks_of l.line (map task_step l.fn.list) l.fn.world
    ≡ and_then (tasks_in l.before l.done (map task_step (drop l.head-index l.list)) l.world) (λ tasks. pure (s.Tasks tasks l.line.word))
