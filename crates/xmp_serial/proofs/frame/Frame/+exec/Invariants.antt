use Rattle.std.proofs.Common.{◌≡◌, map, drop, ◌-◌, ◌+◌, ◌*◌, suc, length}
use Rattle.xmp_serial.specs.Lines.{context_at}
use Rattle.xmp_meaning.specs.Handlers.{erased, task_run}
use Rattle.xmp_meaning.specs.Expressions.{expr_of, holds}
use Rattle.xmp_meaning.specs.Loops.{inside, nest, step_up, turn}
use Rattle.xmp_meaning.specs.Blocks.{block, then_run, turns}
use Rattle.xmp_serial.specs.Turns.{run_of, task_of}
use Rattle.xmp_serial.proofs.frame.Frame.+exec.Given as goal

-- in each loop: what is left to do from here gives what the whole gives
abbrev pub invariant-exec_all-all : goal.invariant-exec_all-all
invariant-exec_all-all g l =
    let f : _ = run_of (context_at l.self.program.now l.self.packed l.self.node l.self.input.now (g.C.Callee.calls l.self.callee.now)) in
    block (map f l.fn.all) l.fn.state ≡ block (map f (drop l.s-index l.all)) l.state

abbrev pub invariant-exec_tasks-tasks : goal.invariant-exec_tasks-tasks
invariant-exec_tasks-tasks g l =
    let f : _ = task_of (context_at l.self.program.now l.self.packed l.self.node l.self.input.now (g.C.Callee.calls l.self.callee.now)) in
    block (map task_run (map f l.fn.all)) l.fn.state ≡ block (map task_run (map f (drop l.task-index l.all))) l.state

abbrev pub invariant-exec_while-turns : goal.invariant-exec_while-turns
invariant-exec_while-turns g l =
    let cx : _ = context_at l.self.program.now l.self.packed l.self.node l.self.input.now (g.C.Callee.calls l.self.callee.now) in
    let test : _ = holds (expr_of erased cx l.test) in
    let body : _ = turn (run_of cx l.body) in
    turns (suc l.most) test body l.fn.state ≡ turns (suc (l.most - l._turn)) test body l.state

abbrev pub invariant-count_up-turns : goal.invariant-count_up-turns
invariant-count_up-turns g l =
    let cx : _ = context_at l.self.program.now l.self.packed l.self.node l.self.input.now (g.C.Callee.calls l.self.callee.now) in
    let test : _ = inside erased cx l.head in
    let body : _ = then_run (nest erased cx l.inner (run_of cx l.body)) (step_up l.head) in
    turns l.most test body l.fn.state ≡ turns (l.most - l._turn) test body l.state

-- depth first; at one depth the loops of a nest that are left, and the steps between them
abbrev pub decreases-exec : goal.decreases-exec
decreases-exec g l = goal.size-exec g l * 73786976294838206464

abbrev pub decreases-exec_all : goal.decreases-exec_all
decreases-exec_all g l = goal.size-exec_all g l * 73786976294838206464 + 1

abbrev pub decreases-exec_tasks : goal.decreases-exec_tasks
decreases-exec_tasks g l = goal.size-exec_tasks g l * 73786976294838206464 + 1

abbrev pub decreases-exec_while : goal.decreases-exec_while
decreases-exec_while g l = goal.size-exec_while g l * 73786976294838206464 + 2

abbrev pub decreases-while_turn : goal.decreases-while_turn
decreases-while_turn g l = goal.size-while_turn g l * 73786976294838206464 + 1

abbrev pub decreases-exec_nest : goal.decreases-exec_nest
decreases-exec_nest g l = goal.size-exec_nest g l * 73786976294838206464 + (4 * length l.heads.now + 1)

abbrev pub decreases-exec_counted : goal.decreases-exec_counted
decreases-exec_counted g l = goal.size-exec_counted g l * 73786976294838206464 + (4 * length l.inner.now + 4)

abbrev pub decreases-count_up : goal.decreases-count_up
decreases-count_up g l = goal.size-count_up g l * 73786976294838206464 + (4 * length l.inner.now + 3)

abbrev pub decreases-counted_turn : goal.decreases-counted_turn
decreases-counted_turn g l = goal.size-counted_turn g l * 73786976294838206464 + (4 * length l.inner.now + 2)
