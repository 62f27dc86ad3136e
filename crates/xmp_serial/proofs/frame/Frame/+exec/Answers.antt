use Rattle.std.proofs.Common.{◌≡◌, ◌<◌, ◌+◌, ◌-◌, ◌∙◌, ℕ, suc, List, Bool, true, ap, sym, map, arith, rules, Err}
use Rattle.xmp_prog.specs.declared.statements.Stmt.{Stmt}
use Rattle.xmp_prog.specs.declared.statements.Task.{Task}
use Rattle.xmp_meaning.specs.declared.ends.Flow.{Flow}
use Rattle.xmp_meaning.specs.Runs.{Run}
use Rattle.xmp_serial.specs.Lines.{context_at}
use Rattle.xmp_meaning.specs.Handlers.{erased, task_run}
use Rattle.xmp_meaning.specs.Expressions.{expr_of, holds}
use Rattle.xmp_meaning.specs.Loops.{inside, nest, step_up, turn}
use Rattle.xmp_meaning.specs.Blocks.{block, then_run, turns}
use Rattle.xmp_meaning.specs.Context.{Context}
use Rattle.xmp_serial.specs.Turns.{run_of, task_of}
use Rattle.xmp_serial.proofs.Steps.{done, goes_on, halts, is_over, one_more, one_turn}
use Rattle.xmp_serial.proofs.Whiles.{block_is, tasks_is, while_done}
use Rattle.xmp_serial.proofs.frame.Frame.+exec.Goals as goal

pub exec-returns-in-While : goal.exec-returns-in-While
exec-returns-in-While g t c =
    let cx : Context = context_at c.args.self.now.program.now c.args.self.now.packed c.args.self.now.node c.args.self.now.input.now (g.C.Callee.calls c.args.self.now.callee.now) in
    while_done cx c.args.s.now c.in-While.e c.in-While.body c.get-in-While.result.now c.in-While.field-2 c.args.state.now
    c.exec_while.result c.exec_while.new.state c.in-While.is c.get-in-While.ensures c.exec_while.ensures

pub exec-returns-in-Block : goal.exec-returns-in-Block
exec-returns-in-Block g t c =
    let cx : Context = context_at c.args.self.now.program.now c.args.self.now.packed c.args.self.now.node c.args.self.now.input.now (g.C.Callee.calls c.args.self.now.callee.now) in
    done (run_of cx c.args.s.now c.args.state.now) (block (map (run_of cx) c.as_slice.result.now) c.args.state.now) c.exec_all.result c.exec_all.new.state
    (ap (λ (x : Stmt). run_of cx x c.args.state.now) c.in-Block.is
    ∙ ap (λ (f : Run (Unit {0}) Flow). f c.args.state.now) (block_is cx c.in-Block.all)
    ∙ ap (λ (xs : List Stmt). block (map (run_of cx) xs) c.args.state.now) (sym c.as_slice.ensures))
    c.exec_all.ensures

pub exec-returns-in-Tasks : goal.exec-returns-in-Tasks
exec-returns-in-Tasks g t c =
    let cx : Context = context_at c.args.self.now.program.now c.args.self.now.packed c.args.self.now.node c.args.self.now.input.now (g.C.Callee.calls c.args.self.now.callee.now) in
    done (run_of cx c.args.s.now c.args.state.now) (block (map task_run (map (task_of cx) c.as_slice-in-Tasks.result.now)) c.args.state.now) c.exec_tasks.result c.exec_tasks.new.state
    (ap (λ (x : Stmt). run_of cx x c.args.state.now) c.in-Tasks.is
    ∙ ap (λ (f : Run (Unit {0}) Flow). f c.args.state.now) (tasks_is cx c.in-Tasks.all c.in-Tasks.field-1)
    ∙ ap (λ (xs : List Task). block (map task_run (map (task_of cx) xs)) c.args.state.now) (sym c.as_slice-in-Tasks.ensures))
    c.exec_tasks.ensures

pub exec_while-turns-preserved : goal.exec_while-turns-preserved
exec_while-turns-preserved g t c =
    let cx : Context = context_at c.args.self.now.program.now c.args.self.now.packed c.args.self.now.node c.args.self.now.input.now (g.C.Callee.calls c.args.self.now.callee.now) in
    let test : Run (Unit {0}) Bool = holds (expr_of erased cx c.args.test.now) in
    let body : Run (Unit {0}) Flow = turn (run_of cx c.args.body.now) in
    let lt : c.turns._turn < c.steps-most.result = omega arith in
    one_more (λ (n : ℕ). turns n test body c.while_turn.new.state) c.steps-most.result c.turns._turn lt
    (c.turns.invariant ∙ goes_on test body c.turns.state c.while_turn.new.state c.in-Ok-None.field-0 c.in-Ok-None.field-0-is (c.in-Ok-None.ensures {u = tt})
    (c.steps-most.result - c.turns._turn))

pub count_up-turns-preserved : goal.count_up-turns-preserved
count_up-turns-preserved g t c =
    let cx : Context = context_at c.args.self.now.program.now c.args.self.now.packed c.args.self.now.node c.args.self.now.input.now (g.C.Callee.calls c.args.self.now.callee.now) in
    let test : Run (Unit {0}) Bool = inside erased cx c.args.head.now in
    let body : Run (Unit {0}) Flow = then_run (nest erased cx c.args.inner.now (run_of cx c.args.body.now)) (step_up c.args.head.now) in
    let lt : c.turns._turn < c.args.most = omega arith in
    let e : turns c.args.most test body c.args.state.now ≡ turns (suc (c.args.most - (c.turns._turn + 1))) test body c.turns.state
    = one_more (λ (n : ℕ). turns n test body c.turns.state) c.args.most c.turns._turn lt c.turns.invariant in
    e ∙ goes_on test body c.turns.state c.counted_turn.new.state c.in-Ok-None.field-0 c.in-Ok-None.field-0-is (c.in-Ok-None.ensures {u = tt}) (c.args.most - (c.turns._turn + 1))

pub count_up-returns-in-Ok-Some : goal.count_up-returns-in-Ok-Some
count_up-returns-in-Ok-Some g t c =
    let cx : Context = context_at c.args.self.now.program.now c.args.self.now.packed c.args.self.now.node c.args.self.now.input.now (g.C.Callee.calls c.args.self.now.callee.now) in
    let test : Run (Unit {0}) Bool = inside erased cx c.args.head.now in
    let body : Run (Unit {0}) Flow = then_run (nest erased cx c.args.inner.now (run_of cx c.args.body.now)) (step_up c.args.head.now) in
    let lt : c.turns._turn < c.args.most = omega arith in
    let e : turns c.args.most test body c.args.state.now ≡ turns (suc (c.args.most - (c.turns._turn + 1))) test body c.turns.state
    = one_more (λ (n : ℕ). turns n test body c.turns.state) c.args.most c.turns._turn lt c.turns.invariant in
    e ∙ is_over test body c.turns.state c.counted_turn.new.state c.in-Ok-Some.field-0 c.in-Ok-Some.flow c.in-Ok-Some.field-0-is (c.in-Ok-Some.ensures {u = tt}) (c.args.most - (c.turns._turn + 1))

pub count_up-returns-in-Err : goal.count_up-returns-in-Err
count_up-returns-in-Err g t c =
    let cx : Context = context_at c.args.self.now.program.now c.args.self.now.packed c.args.self.now.node c.args.self.now.input.now (g.C.Callee.calls c.args.self.now.callee.now) in
    let test : Run (Unit {0}) Bool = inside erased cx c.args.head.now in
    let body : Run (Unit {0}) Flow = then_run (nest erased cx c.args.inner.now (run_of cx c.args.body.now)) (step_up c.args.head.now) in
    let lt : c.turns._turn < c.args.most = omega arith in
    let e : turns c.args.most test body c.args.state.now ≡ turns (suc (c.args.most - (c.turns._turn + 1))) test body c.turns.state
    = one_more (λ (n : ℕ). turns n test body c.turns.state) c.args.most c.turns._turn lt c.turns.invariant in
    done (turns c.args.most test body c.args.state.now) (turns (suc (c.args.most - (c.turns._turn + 1))) test body c.turns.state) (Err c.in-Err.halt) c.counted_turn.new.state e
    (halts test body c.turns.state c.counted_turn.new.state c.in-Err.halt (c.args.most - (c.turns._turn + 1)) (c.in-Err.ensures {u = tt}))

pub counted_turn-returns-in-Next : goal.counted_turn-returns-in-Next
counted_turn-returns-in-Next g t c =
    let cx : Context = context_at c.args.self.now.program.now c.args.self.now.packed c.args.self.now.node c.args.self.now.input.now (g.C.Callee.calls c.args.self.now.callee.now) in
    let yes : c.in_ok-inside.field-0 ≡ true = search rules in
    λ n. one_turn (inside erased cx c.args.head.now) (nest erased cx c.args.inner.now (run_of cx c.args.body.now)) (step_up c.args.head.now) n
    c.args.state.now c.inside.new.state c.exec_nest.new.state c.step_up.new.state c.in_ok-inside.field-0 c.in_ok-exec_nest.field-0
    (c.in_ok-inside.ensures {u = tt}) yes (c.in_ok-exec_nest.ensures {u = tt}) c.in-Next.is c.step_up.ensures
