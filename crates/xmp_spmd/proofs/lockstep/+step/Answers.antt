use Rattle.std.proofs.Common.{◌≡◌, ◌<◌, ◌+◌, ◌-◌, ◌∙◌, ℕ, suc, List, Bool, true, ap, sym, map, arith, rules, Err}
use Rattle.xmp_prog.specs.declared.parts.ProgParts.{ProgParts}
use Rattle.xmp_prog.specs.declared.statements.Stmt.{Stmt}
use Rattle.xmp_prog.specs.declared.statements.Task.{Task}
use Rattle.xmp_meaning.specs.declared.ends.Flow.{Flow}
use Rattle.xmp_meaning.specs.declared.ends.Flow.TheVariants.{Next}
use Rattle.xmp_meaning.specs.Runs.{RunIn}
use Rattle.xmp_meaning.specs.Blocks.{block, turns}
use Rattle.xmp_meaning.specs.Handlers.{erased}
use Rattle.xmp_meaning.specs.Loops.{step_up}
use Rattle.xmp_meaning.specs.Statements.{stmt_of}
use Rattle.xmp_meaning.specs.Traffic.{node_context}
use Rattle.xmp_nodes.specs.Lockstep.{steps_left, while_all}
use Rattle.xmp_nodes.specs.Nodes.{Nodes, all_do}
use Rattle.xmp_nodes.specs.Parts.{loop_all}
use Rattle.xmp_nodes.specs.Tasks.{tasks_all}
use Rattle.xmp_tasks.specs.OfText.{tasks_of}
use Rattle.xmp_spmd.specs.Steps.{all_hold, all_inside, all_of, counted_all, counted_turn, paid_turn}
use Rattle.xmp_spmd.proofs.Turning.{done, goes_on, halts, is_over, one_more, turned}
use Rattle.xmp_spmd.proofs.Unfolding.{block_all, counted_is, loop_is, tasks_are, while_is}
use Rattle.xmp_spmd.proofs.lockstep.+step.Goals as goal

pub step-returns-in-Block : goal.step-returns-in-Block
step-returns-in-Block t c =
    let p : ProgParts = c.args.together.now.program.now in
    let i : List ℕ = c.args.together.now.input.now in
    done (all_of p i c.args.s.now c.args.nodes.now) (block (map (all_of p i) c.as_slice.result.now) c.args.nodes.now) c.step_all.result c.step_all.new.nodes
    (ap (λ (x : Stmt). all_of p i x c.args.nodes.now) c.in-Block.is
    ∙ ap (λ (f : RunIn Nodes Flow). f c.args.nodes.now) (block_all p i c.in-Block.all)
    ∙ ap (λ (xs : List Stmt). block (map (all_of p i) xs) c.args.nodes.now) (sym c.as_slice.ensures))
    c.step_all.ensures

pub step-returns-in-While : goal.step-returns-in-While
step-returns-in-While t c =
    let p : ProgParts = c.args.together.now.program.now in
    let i : List ℕ = c.args.together.now.input.now in
    done (all_of p i c.args.s.now c.args.nodes.now) (while_all (all_hold p i c.in-While.e) (all_of p i c.get-in-While.result.now) c.args.nodes.now) c.uncounted.result c.uncounted.new.nodes
    (ap (λ (x : Stmt). all_of p i x c.args.nodes.now) c.in-While.is
    ∙ ap (λ (f : RunIn Nodes Flow). f c.args.nodes.now) (while_is p i c.in-While.e c.in-While.body c.in-While.field-2)
    ∙ ap (λ (b : Stmt). while_all (all_hold p i c.in-While.e) (all_of p i b) c.args.nodes.now) (sym c.get-in-While.ensures))
    c.uncounted.ensures

pub step-returns-in-Counted : goal.step-returns-in-Counted
step-returns-in-Counted t c =
    let p : ProgParts = c.args.together.now.program.now in
    let i : List ℕ = c.args.together.now.input.now in
    done (all_of p i c.args.s.now c.args.nodes.now) (counted_all p i c.in-Counted.head c.get-in-Counted.result.now c.args.nodes.now) c.counted.result c.counted.new.nodes
    (ap (λ (x : Stmt). all_of p i x c.args.nodes.now) c.in-Counted.is
    ∙ ap (λ (f : RunIn Nodes Flow). f c.args.nodes.now) (counted_is p i c.in-Counted.head c.in-Counted.body)
    ∙ ap (λ (b : Stmt). counted_all p i c.in-Counted.head b c.args.nodes.now) (sym c.get-in-Counted.ensures))
    c.counted.ensures

pub step-returns-in-Loop : goal.step-returns-in-Loop
step-returns-in-Loop t c =
    let p : ProgParts = c.args.together.now.program.now in
    let i : List ℕ = c.args.together.now.input.now in
    done (all_of p i c.args.s.now c.args.nodes.now) (loop_all p c.in-Loop.directive (λ node. stmt_of erased (node_context p node i) c.get-in-Loop.result.now) c.args.nodes.now) c.run_parts.result c.run_parts.new.nodes
    (ap (λ (x : Stmt). all_of p i x c.args.nodes.now) c.in-Loop.is
    ∙ ap (λ (f : RunIn Nodes Flow). f c.args.nodes.now) (loop_is p i c.in-Loop.directive c.in-Loop.body)
    ∙ ap (λ (b : Stmt). loop_all p c.in-Loop.directive (λ node. stmt_of erased (node_context p node i) b) c.args.nodes.now) (sym c.get-in-Loop.ensures))
    c.run_parts.ensures

pub step-returns-in-Tasks : goal.step-returns-in-Tasks
step-returns-in-Tasks t c =
    let p : ProgParts = c.args.together.now.program.now in
    let i : List ℕ = c.args.together.now.input.now in
    done (all_of p i c.args.s.now c.args.nodes.now) (tasks_all p (tasks_of p i c.as_slice-in-Tasks.result.now) c.args.nodes.now) c.run_tasks.result c.run_tasks.new.nodes
    (ap (λ (x : Stmt). all_of p i x c.args.nodes.now) c.in-Tasks.is
    ∙ ap (λ (f : RunIn Nodes Flow). f c.args.nodes.now) (tasks_are p i c.in-Tasks.all c.in-Tasks.field-1)
    ∙ ap (λ (xs : List Task). tasks_all p (tasks_of p i xs) c.args.nodes.now) (sym c.as_slice-in-Tasks.ensures))
    c.run_tasks.ensures

pub count_up-turns-preserved : goal.count_up-turns-preserved
count_up-turns-preserved t c =
    let p : ProgParts = c.args.together.now.program.now in
    let i : List ℕ = c.args.together.now.input.now in
    let test : RunIn Nodes Bool = all_inside p i c.args.head.now in
    let body : RunIn Nodes Flow = counted_turn p i c.args.head.now c.args.body.now in
    let lt : c.turns._turn < c.args.most = omega arith in
    let e : turns c.args.most test body c.args.nodes.now ≡ turns (suc (c.args.most - (c.turns._turn + 1))) test body c.turns.nodes
    = one_more (λ (n : ℕ). turns n test body c.turns.nodes) c.args.most c.turns._turn lt c.turns.invariant in
    e ∙ goes_on test body c.turns.nodes c.counted_turn.new.nodes c.in-Ok-None.field-0 c.in-Ok-None.field-0-is (c.in-Ok-None.ensures {u = tt}) (c.args.most - (c.turns._turn + 1))

pub count_up-returns-in-Ok-Some : goal.count_up-returns-in-Ok-Some
count_up-returns-in-Ok-Some t c =
    let p : ProgParts = c.args.together.now.program.now in
    let i : List ℕ = c.args.together.now.input.now in
    let test : RunIn Nodes Bool = all_inside p i c.args.head.now in
    let body : RunIn Nodes Flow = counted_turn p i c.args.head.now c.args.body.now in
    let lt : c.turns._turn < c.args.most = omega arith in
    let e : turns c.args.most test body c.args.nodes.now ≡ turns (suc (c.args.most - (c.turns._turn + 1))) test body c.turns.nodes
    = one_more (λ (n : ℕ). turns n test body c.turns.nodes) c.args.most c.turns._turn lt c.turns.invariant in
    e ∙ is_over test body c.turns.nodes c.counted_turn.new.nodes c.in-Ok-Some.field-0 c.in-Ok-Some.flow c.in-Ok-Some.field-0-is (c.in-Ok-Some.ensures {u = tt}) (c.args.most - (c.turns._turn + 1))

pub count_up-returns-in-Err : goal.count_up-returns-in-Err
count_up-returns-in-Err t c =
    let p : ProgParts = c.args.together.now.program.now in
    let i : List ℕ = c.args.together.now.input.now in
    let test : RunIn Nodes Bool = all_inside p i c.args.head.now in
    let body : RunIn Nodes Flow = counted_turn p i c.args.head.now c.args.body.now in
    let lt : c.turns._turn < c.args.most = omega arith in
    let e : turns c.args.most test body c.args.nodes.now ≡ turns (suc (c.args.most - (c.turns._turn + 1))) test body c.turns.nodes
    = one_more (λ (n : ℕ). turns n test body c.turns.nodes) c.args.most c.turns._turn lt c.turns.invariant in
    done (turns c.args.most test body c.args.nodes.now) (turns (suc (c.args.most - (c.turns._turn + 1))) test body c.turns.nodes) (Err c.in-Err.halt) c.counted_turn.new.nodes e
    (halts test body c.turns.nodes c.counted_turn.new.nodes c.in-Err.halt (c.args.most - (c.turns._turn + 1)) (c.in-Err.ensures {u = tt}))

pub go_on-turns-preserved : goal.go_on-turns-preserved
go_on-turns-preserved t c =
    let p : ProgParts = c.args.together.now.program.now in
    let i : List ℕ = c.args.together.now.input.now in
    let test : RunIn Nodes Bool = all_hold p i c.args.test.now in
    let body : RunIn Nodes Flow = paid_turn p i c.args.body.now in
    let lt : c.turns._turn < c.args.most = omega arith in
    let e : turns c.args.most test body c.args.nodes.now ≡ turns (suc (c.args.most - (c.turns._turn + 1))) test body c.turns.nodes
    = one_more (λ (n : ℕ). turns n test body c.turns.nodes) c.args.most c.turns._turn lt c.turns.invariant in
    e ∙ goes_on test body c.turns.nodes c.uncounted_turn.new.nodes c.in-Ok-None.field-0 c.in-Ok-None.field-0-is (c.in-Ok-None.ensures {u = tt}) (c.args.most - (c.turns._turn + 1))

pub go_on-returns-in-Ok-Some : goal.go_on-returns-in-Ok-Some
go_on-returns-in-Ok-Some t c =
    let p : ProgParts = c.args.together.now.program.now in
    let i : List ℕ = c.args.together.now.input.now in
    let test : RunIn Nodes Bool = all_hold p i c.args.test.now in
    let body : RunIn Nodes Flow = paid_turn p i c.args.body.now in
    let lt : c.turns._turn < c.args.most = omega arith in
    let e : turns c.args.most test body c.args.nodes.now ≡ turns (suc (c.args.most - (c.turns._turn + 1))) test body c.turns.nodes
    = one_more (λ (n : ℕ). turns n test body c.turns.nodes) c.args.most c.turns._turn lt c.turns.invariant in
    e ∙ is_over test body c.turns.nodes c.uncounted_turn.new.nodes c.in-Ok-Some.field-0 c.in-Ok-Some.flow c.in-Ok-Some.field-0-is (c.in-Ok-Some.ensures {u = tt}) (c.args.most - (c.turns._turn + 1))

pub go_on-returns-in-Err : goal.go_on-returns-in-Err
go_on-returns-in-Err t c =
    let p : ProgParts = c.args.together.now.program.now in
    let i : List ℕ = c.args.together.now.input.now in
    let test : RunIn Nodes Bool = all_hold p i c.args.test.now in
    let body : RunIn Nodes Flow = paid_turn p i c.args.body.now in
    let lt : c.turns._turn < c.args.most = omega arith in
    let e : turns c.args.most test body c.args.nodes.now ≡ turns (suc (c.args.most - (c.turns._turn + 1))) test body c.turns.nodes
    = one_more (λ (n : ℕ). turns n test body c.turns.nodes) c.args.most c.turns._turn lt c.turns.invariant in
    done (turns c.args.most test body c.args.nodes.now) (turns (suc (c.args.most - (c.turns._turn + 1))) test body c.turns.nodes) (Err c.in-Err.halt) c.uncounted_turn.new.nodes e
    (halts test body c.turns.nodes c.uncounted_turn.new.nodes c.in-Err.halt (c.args.most - (c.turns._turn + 1)) (c.in-Err.ensures {u = tt}))

pub counted_turn-returns-in-Next : goal.counted_turn-returns-in-Next
counted_turn-returns-in-Next t c =
    let p : ProgParts = c.args.together.now.program.now in
    let i : List ℕ = c.args.together.now.input.now in
    let yes : c.in_ok-all_do.field-0 ≡ true = search rules in
    turned (all_inside p i c.args.head.now) (all_of p i c.args.body.now) (all_do Next (λ node. step_up c.args.head.now))
    c.args.nodes.now c.all_do.new.nodes c.step.new.nodes c.stepped_up.new.nodes c.in_ok-all_do.field-0 c.in_ok-step.field-0 c.stepped_up.result
    (c.in_ok-all_do.ensures {u = tt}) yes (c.in_ok-step.ensures {u = tt}) c.in-Next.is c.stepped_up.ensures

pub uncounted-returns-in-Ok-Some : goal.uncounted-returns-in-Ok-Some
uncounted-returns-in-Ok-Some t c =
    let p : ProgParts = c.args.together.now.program.now in
    let i : List ℕ = c.args.together.now.input.now in
    let test : RunIn Nodes Bool = all_hold p i c.args.test.now in
    let body : RunIn Nodes Flow = paid_turn p i c.args.body.now in
    is_over test body c.args.nodes.now c.uncounted_turn.new.nodes c.in-Ok-Some.field-0 c.in-Ok-Some.flow c.in-Ok-Some.field-0-is (c.in-Ok-Some.ensures {u = tt}) (steps_left c.args.nodes.now.stores)

pub uncounted-returns-in-Err : goal.uncounted-returns-in-Err
uncounted-returns-in-Err t c =
    let p : ProgParts = c.args.together.now.program.now in
    let i : List ℕ = c.args.together.now.input.now in
    let test : RunIn Nodes Bool = all_hold p i c.args.test.now in
    let body : RunIn Nodes Flow = paid_turn p i c.args.body.now in
    halts test body c.args.nodes.now c.uncounted_turn.new.nodes c.in-Err.halt (steps_left c.args.nodes.now.stores) (c.in-Err.ensures {u = tt})
