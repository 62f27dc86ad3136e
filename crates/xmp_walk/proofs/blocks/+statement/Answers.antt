use Rattle.std.proofs.Common.{◌≡◌, ◌∙◌, ap, sym, map, length, List, [], ◌∷◌}
use Rattle.std.specs.Option.{option_map}
use Rattle.xmp_prog.specs.declared.statements.Stmt as made
use Rattle.xmp_prog.specs.declared.statements.Stmt.TheVariants as s
use Rattle.xmp_names.specs.Walk.{Run, ◌>>=◌, and_then, close_scope, pure, typed}
use Rattle.xmp_walk.specs.Statements.{else_of, for_of, for_parts, if_of, loop_of, while_of}
use Rattle.xmp_directives.specs.Directives.{judged_loop, lone_task, loop_line, made_task, nest_of, task_line, tasks_of}
use Rattle.xmp_walk.specs.Program.{loop_directive, block_of, else_step, inside_item, plain_of, stmt_of, task_step}
use Rattle.xmp_walk.proofs.Seen.{seen_block, seen_for, seen_if, seen_loop, seen_plain, seen_task, seen_tasks, seen_while}
use Rattle.xmp_walk.proofs.Joins.{after, joined, joined_pure, paired}
use Rattle.xmp_names.proofs.Walks.{same_walk}
use Rattle.xmp_walk.proofs.blocks.+statement.Goals as goal

pub statement-returns-in-Plain : goal.statement-returns-in-Plain
statement-returns-in-Plain n c =
    let w : _ = c.args.world.now in
    same_walk (stmt_of c.args.x.now w) (plain_of c.in-Plain.x w) c.plain.result c.plain.new.world
    (ap (λ s. stmt_of s w) c.in-Plain.is ∙ ap (λ r. r w) (seen_plain c.in-Plain.x)) c.plain.ensures

pub statement-returns-in-Block : goal.statement-returns-in-Block
statement-returns-in-Block n c =
    let w : _ = c.args.world.now in
    let x : _ = c.in-Block.list in
    same_walk (stmt_of c.args.x.now w) (block_of (map inside_item c.as_slice.result.now) w) c.block.result c.block.new.world
    (ap (λ s. stmt_of s w) c.in-Block.is
    ∙ (ap (λ r. r w) (seen_block x.open x.item x.close) ∙ ap (λ l. block_of (map inside_item l) w) (sym c.as_slice.ensures)))
    c.block.ensures

pub statement-returns-in_ok-begun-in-If : goal.statement-returns-in_ok-begun-in-If
statement-returns-in_ok-begun-in-If n c =
    let w : _ = c.args.world.now in
    let x : _ = c.in-If in
    let begun : _ = c.in_ok-begun-in-If.begun in
    let other : Run made.Stmt = else_of (option_map else_step x.other) in
    same_walk (stmt_of c.args.x.now w) (and_then (other c.if_begun.new.world) (λ b. pure (s.If begun.0.made begun.1 b))) c.if_made.result c.else_of-no.new.world
    (ap (λ s. stmt_of s w) x.is
    ∙ (ap (λ r. r w) (seen_if x.field-0 x.test x.body x.other)
    ∙ (ap (λ b. if_of x.test.item (stmt_of b) (option_map else_step x.other) w) (sym c.get.ensures)
    ∙ paired (typed x.test.item w) (stmt_of c.get.result.now) (λ t. λ a. other >>= (λ b. pure (s.If t.made a b))) begun.0 begun.1 c.if_begun.new.world c.in_ok-begun-in-If.ensures)))
    (joined_pure (other c.if_begun.new.world) (λ b. s.If begun.0.made begun.1 b) c.else_of-no.result c.if_made.result c.else_of-no.new.world c.else_of-no.ensures c.if_made.ensures)

pub statement-returns-in-While : goal.statement-returns-in-While
statement-returns-in-While n c =
    let w : _ = c.args.world.now in
    let test : _ = c.in-While.test in
    same_walk (stmt_of c.args.x.now w) (while_of c.in-While.at test.item (stmt_of c.get-in-While.result.now) w) c.while_loop.result c.while_loop.new.world
    (ap (λ s. stmt_of s w) c.in-While.is
    ∙ (ap (λ r. r w) (seen_while c.in-While.at test c.in-While.body) ∙ ap (λ b. while_of c.in-While.at test.item (stmt_of b) w) (sym c.get-in-While.ensures)))
    c.while_loop.ensures

pub statement-returns-in-For : goal.statement-returns-in-For
statement-returns-in-For n c =
    let w : _ = c.args.world.now in
    same_walk (stmt_of c.args.x.now w) (for_of c.in-For.head (stmt_of c.get-in-For.result.now) w) c.for_loop.result c.for_loop.new.world
    (ap (λ s. stmt_of s w) c.in-For.is
    ∙ (ap (λ r. r w) (seen_for c.in-For.head c.in-For.body) ∙ ap (λ b. for_of c.in-For.head (stmt_of b) w) (sym c.get-in-For.ensures)))
    c.for_loop.ensures

pub statement-returns-in-Loop : goal.statement-returns-in-Loop
statement-returns-in-Loop n c =
    let w : _ = c.args.world.now in
    same_walk (stmt_of c.args.x.now w) (loop_directive c.in-Loop.line c.in-Loop.head (stmt_of c.get-in-Loop.result.now) w) c.loop_statement.result c.loop_statement.new.world
    (ap (λ s. stmt_of s w) c.in-Loop.is
    ∙ (ap (λ r. r w) (seen_loop c.in-Loop.line c.in-Loop.head c.in-Loop.body) ∙ ap (λ b. loop_directive c.in-Loop.line c.in-Loop.head (stmt_of b) w) (sym c.get-in-Loop.ensures)))
    c.loop_statement.ensures

pub statement-returns-in-Task : goal.statement-returns-in-Task
statement-returns-in-Task n c =
    let w : _ = c.args.world.now in
    same_walk (stmt_of c.args.x.now w) (lone_task c.in-Task.line (stmt_of c.get-in-Task.result.now) w) c.lone_task.result c.lone_task.new.world
    (ap (λ s. stmt_of s w) c.in-Task.is
    ∙ (ap (λ r. r w) (seen_task c.in-Task.line c.in-Task.body) ∙ ap (λ b. lone_task c.in-Task.line (stmt_of b) w) (sym c.get-in-Task.ensures)))
    c.lone_task.ensures

pub statement-returns-in-Tasks : goal.statement-returns-in-Tasks
statement-returns-in-Tasks n c =
    let w : _ = c.args.world.now in
    let x : _ = c.in-Tasks.list in
    same_walk (stmt_of c.args.x.now w) (tasks_of c.in-Tasks.line (map task_step c.as_slice-in-Tasks.result.now) w) c.tasks.result c.tasks.new.world
    (ap (λ s. stmt_of s w) c.in-Tasks.is
    ∙ (ap (λ r. r w) (seen_tasks c.in-Tasks.line x.open x.item x.close) ∙ ap (λ l. tasks_of c.in-Tasks.line (map task_step l) w) (sym c.as_slice-in-Tasks.ensures)))
    c.tasks.ensures

pub while_loop-returns : goal.while_loop-returns
while_loop-returns n c =
    let test : _ = c.in_ok-test.test in
    after (typed c.args.test.now c.args.world.now) (λ t. stmt_of c.args.body.now >>= (λ a. pure (s.While t.made a c.args.at)))
    test c.while_made.result c.boxed_typed.new.world c.statement-body.new.world c.in_ok-test.ensures
    (joined_pure (stmt_of c.args.body.now c.boxed_typed.new.world) (λ a. s.While test.made a c.args.at)
    c.statement-body.result c.while_made.result c.statement-body.new.world c.statement-body.ensures c.while_made.ensures)

pub for_loop-returns : goal.for_loop-returns
for_loop-returns n c =
    let head : _ = c.args.head.now in
    let parts : _ = c.in_ok-parts.parts in
    after (for_parts head c.args.world.now) (λ ps. stmt_of c.args.body.now >>= (λ b. close_scope >>= (λ _. pure (loop_of head ps b))))
    parts c.for_made.result c.for_parts.new.world c.for_made.new.world c.in_ok-parts.ensures
    (joined (stmt_of c.args.body.now c.for_parts.new.world) (λ b. close_scope >>= (λ _. pure (loop_of head parts b)))
    c.statement-body.result c.for_made.result c.statement-body.new.world c.for_made.new.world c.statement-body.ensures c.for_made.ensures)

pub loop_statement-returns : goal.loop_statement-returns
loop_statement-returns n c =
    let line : _ = c.args.line.now in
    let parts : _ = c.in_ok-parts.parts in
    after (loop_line line c.args.world.now)
    (λ ps. for_of c.args.head.now (stmt_of c.args.body.now) >>= (λ loop. judged_loop line.line.word ps (nest_of (length ps.names) loop)))
    parts c.loop_made.result c.loop_line.new.world c.loop_made.new.world c.in_ok-parts.ensures
    (joined (for_of c.args.head.now (stmt_of c.args.body.now) c.loop_line.new.world) (λ loop. judged_loop line.line.word parts (nest_of (length parts.names) loop))
    c.for_loop-made.result c.loop_made.result c.for_loop-made.new.world c.loop_made.new.world c.for_loop-made.ensures c.loop_made.ensures)

pub lone_task-returns : goal.lone_task-returns
lone_task-returns n c =
    let line : _ = c.args.line.now in
    let nodes : _ = c.in_ok-nodes.nodes in
    after (task_line [] line c.args.world.now) (λ ns. stmt_of c.args.body.now >>= (λ b. pure (s.Tasks (made_task ns b line.line.word ∷ []) line.line.word)))
    nodes c.task_made.result c.task_line.new.world c.statement-body.new.world c.in_ok-nodes.ensures
    (joined_pure (stmt_of c.args.body.now c.task_line.new.world) (λ b. s.Tasks (made_task nodes b line.line.word ∷ []) line.line.word)
    c.statement-body.result c.task_made.result c.statement-body.new.world c.statement-body.ensures c.task_made.ensures)
