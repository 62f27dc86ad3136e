use Rattle.std.proofs.Common.{rules, ◌≡◌, ℕ, true, false, sym, refl, ap, ◌∙◌, arith, ◌≤◌, ◌<◌}
use Rattle.std.proofs.lemmas.Result.{err_from_is_err_and}
use Rattle.xmp_lex.specs.declared.token.TokenKind.TheVariants as t
use Rattle.xmp_lex.specs.declared.token.Mark.TheVariants as m
use Rattle.xmp_lex.specs.declared.token.Reserved.TheVariants as reserved
use Rattle.xmp_syntax.specs.Grammar as g
use Rattle.xmp_syntax.specs.Grammar.{directive_of, line_of}
use Rattle.xmp_reader.proofs.Held.{is_this_mark, is_this_word, is_this_pragma}
use Rattle.xmp_reader.proofs.Opening.{seq, into, skip, first, second, again, no_more, chosen}
use Rattle.xmp_reader.proofs.Listing.{split, whole, once_more, if_so, if_not, none_so_far, one_more, entered}
use Rattle.xmp_parse.proofs.Statements.{statement_at}
use Rattle.xmp_line_reader.proofs.Dispatch.{by_line, directive_in_block, by_directive, by_no_directive, agrees}
use Rattle.xmp_parse.proofs.ItemsRead.{once_more_not, no_more_not, items_each, items_fit}
use Rattle.xmp_parse.proofs.BlockParts.{a_declaration, a_line, statement_comes, statement_refused, left_behind, no_other, tasks_each, tasks_fit}
use Rattle.xmp_parse.proofs.BlockViews.{view_else}
use Rattle.xmp_parse.proofs.blocks.+statement.Goals as goal

pub statement-returns-in_err-block-clause-goes : goal.statement-returns-in_err-block-clause-goes
statement-returns-in_err-block-clause-goes n c = λ s L K w.
    let p = err_from_is_err_and c.from_residual.result c.from_residual.ensures.1 in
    rw (p.1, p.2) (c.in_err-block.ensures.goes s _ _ (statement_at (t.Mark m.OpenBrace) (is_this_mark m.OpenBrace _ (sym c.if-is_mark.ensures)) w))

pub statement-returns-then-is_mark-clause-goes : goal.statement-returns-then-is_mark-clause-goes
statement-returns-then-is_mark-clause-goes n c = λ s L K w. c.in_ok-block.ensures.goes s _ _ (statement_at (t.Mark m.OpenBrace) (is_this_mark m.OpenBrace _ (sym c.if-is_mark.ensures)) w)

pub statement-returns-then-is_word-clause-goes : goal.statement-returns-then-is_word-clause-goes
statement-returns-then-is_word-clause-goes n c = λ s L K w. c.if_statement.ensures.goes s _ _ (statement_at (t.Word reserved.If) (is_this_word reserved.If _ (sym c.if-is_word.ensures)) w)

pub statement-returns-then-is_word-2-clause-goes : goal.statement-returns-then-is_word-2-clause-goes
statement-returns-then-is_word-2-clause-goes n c = λ s L K w. c.while_statement.ensures.goes s _ _ (statement_at (t.Word reserved.While) (is_this_word reserved.While _ (sym c.if-is_word-2.ensures)) w)

pub statement-returns-in_err-parts-clause-goes : goal.statement-returns-in_err-parts-clause-goes
statement-returns-in_err-parts-clause-goes n c = λ s L K w.
    let p = err_from_is_err_and c.from_residual-in_err-parts.result c.from_residual-in_err-parts.ensures.1 in
    rw (p.1, p.2) (c.in_err-parts.ensures.goes s _ _ (statement_at (t.Word reserved.For) (is_this_word reserved.For _ (sym c.if-is_word-3.ensures)) w))

pub statement-returns-then-is_word-3-clause-goes : goal.statement-returns-then-is_word-3-clause-goes
statement-returns-then-is_word-3-clause-goes n c = λ s L K w. c.in_ok-parts.ensures.goes s _ _ (statement_at (t.Word reserved.For) (is_this_word reserved.For _ (sym c.if-is_word-3.ensures)) w)

pub statement-returns-in_err-start-clause-goes : goal.statement-returns-in_err-start-clause-goes
statement-returns-in_err-start-clause-goes n c = λ s L K w.
    let p = err_from_is_err_and c.from_residual-in_err-start.result c.from_residual-in_err-start.ensures.1 in
    rw (p.1, p.2) (c.in_err-start.ensures.goes s _ _ (seq (statement_at t.Pragma (is_this_pragma _ (sym c.if-is_pragma.ensures)) w)))

pub statement-returns-then-is_pragma-clause-goes : goal.statement-returns-then-is_pragma-clause-goes
statement-returns-then-is_pragma-clause-goes n c = λ s L K w. c.directive.ensures.goes directive_of (agrees _) s _ _ (c.in_ok-start.ensures.goes s _ _ (seq (statement_at t.Pragma (is_this_pragma _ (sym c.if-is_pragma.ensures)) w)))

pub statement-returns-in_err-statement-clause-goes : goal.statement-returns-in_err-statement-clause-goes
statement-returns-in_err-statement-clause-goes n c = λ s L K w.
    let p = err_from_is_err_and c.from_residual-in_err-statement.result c.from_residual-in_err-statement.ensures.1 in
    rw (p.1, p.2) (c.in_err-statement.ensures.goes (sym c.if-is_mark.ensures, sym c.if-is_word.ensures, sym c.if-is_word-2.ensures, sym c.if-is_word-3.ensures, sym c.if-is_pragma.ensures) s _ _ (w))

pub statement-returns-clause-goes : goal.statement-returns-clause-goes
statement-returns-clause-goes n c = λ s L K w. c.in_ok-statement.ensures.goes (sym c.if-is_mark.ensures, sym c.if-is_word.ensures, sym c.if-is_word-2.ensures, sym c.if-is_word-3.ensures, sym c.if-is_pragma.ensures) s _ _ (w)

pub block-returns-in_err-open-clause-goes : goal.block-returns-in_err-open-clause-goes
block-returns-in_err-open-clause-goes n c = λ s L K w.
    let p = err_from_is_err_and c.from_residual.result c.from_residual.ensures.1 in
    rw (p.1, p.2) (c.in_err-open.ensures.goes s _ _ (seq w))

pub block-returns-in_err-item-clause-goes : goal.block-returns-in_err-item-clause-goes
block-returns-in_err-item-clause-goes n c = λ s L K w.
    let p = err_from_is_err_and c.from_residual-in_err-item.result c.from_residual-in_err-item.ensures.1 in
    rw (p.1, p.2) (c.in_err-item.ensures.goes s _ _ (split (c.in_ok-open.ensures.goes s _ _ (seq w))))

pub block-returns-in_err-close-clause-goes : goal.block-returns-in_err-close-clause-goes
block-returns-in_err-close-clause-goes n c = λ s L K w.
    let p = err_from_is_err_and c.from_residual-in_err-close.result c.from_residual-in_err-close.ensures.1 in
    rw (p.1, p.2) (c.in_err-close.ensures.goes s _ _ (c.in_ok-item.ensures.goes s _ _ (split (c.in_ok-open.ensures.goes s _ _ (seq w)))))

pub block-returns-clause-goes : goal.block-returns-clause-goes
block-returns-clause-goes n c = λ s L K w. c.in_ok-close.ensures.goes s _ _ (c.in_ok-item.ensures.goes s _ _ (split (c.in_ok-open.ensures.goes s _ _ (seq w))))

pub tasks_block-returns-in_err-open-clause-goes : goal.tasks_block-returns-in_err-open-clause-goes
tasks_block-returns-in_err-open-clause-goes n c = λ s L K w.
    let p = err_from_is_err_and c.from_residual.result c.from_residual.ensures.1 in
    rw (p.1, p.2) (c.in_err-open.ensures.goes s _ _ (seq w))

pub tasks_block-returns-in_err-item-clause-goes : goal.tasks_block-returns-in_err-item-clause-goes
tasks_block-returns-in_err-item-clause-goes n c = λ s L K w.
    let p = err_from_is_err_and c.from_residual-in_err-item.result c.from_residual-in_err-item.ensures.1 in
    rw (p.1, p.2) (c.in_err-item.ensures.goes s _ _ (split (c.in_ok-open.ensures.goes s _ _ (seq w))))

pub tasks_block-returns-in_err-close-clause-goes : goal.tasks_block-returns-in_err-close-clause-goes
tasks_block-returns-in_err-close-clause-goes n c = λ s L K w.
    let p = err_from_is_err_and c.from_residual-in_err-close.result c.from_residual-in_err-close.ensures.1 in
    rw (p.1, p.2) (c.in_err-close.ensures.goes s _ _ (c.in_ok-item.ensures.goes s _ _ (split (c.in_ok-open.ensures.goes s _ _ (seq w)))))

pub tasks_block-returns-clause-goes : goal.tasks_block-returns-clause-goes
tasks_block-returns-clause-goes n c = λ s L K w. c.in_ok-close.ensures.goes s _ _ (c.in_ok-item.ensures.goes s _ _ (split (c.in_ok-open.ensures.goes s _ _ (seq w))))

pub block_items-returns-in_err-item-clause-goes : goal.block_items-returns-in_err-item-clause-goes
block_items-returns-in_err-item-clause-goes n c = λ s L K w.
    let p = err_from_is_err_and c.from_residual.result c.from_residual.ensures.1 in
    rw (p.1, p.2) (c.in_err-item.ensures.goes s _ _ (once_more_not (g.is_mark m.CloseBrace) (sym c.loop-alloc-test.ensures) (c.loop-alloc.invariant.goes s L K w)))

pub block_items-returns-clause-goes : goal.block_items-returns-clause-goes
block_items-returns-clause-goes n c = λ s L K w. no_more_not (g.is_mark m.CloseBrace) (sym c.loop-alloc-test.ensures) (c.loop-alloc.invariant.goes s L K w)

pub block_items-returns-clause-reads : goal.block_items-returns-clause-reads
block_items-returns-clause-reads n c = c.loop-alloc.invariant.reads ∙ items_each c.loop-alloc.items c.loop-alloc.rest.tokens.now

pub block_items-returns-clause-fits : goal.block_items-returns-clause-fits
block_items-returns-clause-fits n c = items_fit c.loop-alloc.items c.loop-alloc.invariant.fits

pub block_items-loop-alloc-preserved : goal.block_items-loop-alloc-preserved
block_items-loop-alloc-preserved n c = rw (c.in_ok-push.ensures.ok, c.in_ok-boxed.ensures)
    (one_more _ _ _ _ c.args.r c.loop-alloc.items c.loop-alloc.rest c.in_ok-item.r c.in_ok-item.item c.loop-alloc.invariant
    (λ s L K w. c.in_ok-item.ensures.goes s _ _ (once_more_not (g.is_mark m.CloseBrace) (sym c.loop-alloc-test.ensures) w)) c.in_ok-item.ensures.reads c.in_ok-item.ensures.fits c.in_ok-item.ensures.shorter)

pub block_items-loop-alloc-init : goal.block_items-loop-alloc-init
block_items-loop-alloc-init n c = rw c.new-items.ensures (none_so_far _ _ _ _ _)

pub block_item-returns-in_err-declaration-clause-goes : goal.block_item-returns-in_err-declaration-clause-goes
block_item-returns-in_err-declaration-clause-goes n c = λ s L K w.
    let p = err_from_is_err_and c.from_residual.result c.from_residual.ensures.1 in
    rw (p.1, p.2) (c.in_err-declaration.ensures.goes s _ _ (a_declaration (sym c.if-is_type.ensures) w))

pub block_item-returns-then-is_type-clause-goes : goal.block_item-returns-then-is_type-clause-goes
block_item-returns-then-is_type-clause-goes n c = λ s L K w. c.in_ok-declaration.ensures.goes s _ _ (a_declaration (sym c.if-is_type.ensures) w)

pub block_item-returns-then-is_pragma-clause-goes : goal.block_item-returns-then-is_pragma-clause-goes
block_item-returns-then-is_pragma-clause-goes n c = λ s L K w. c.line_in_block.ensures.goes s _ _ (a_line (sym c.if-is_pragma.ensures) w)

pub block_item-returns-in_err-statement-clause-goes : goal.block_item-returns-in_err-statement-clause-goes
block_item-returns-in_err-statement-clause-goes n c = λ s L K w.
    let p = err_from_is_err_and c.from_residual-in_err-statement.result c.from_residual-in_err-statement.ensures.1 in
    rw (p.1, p.2) (statement_refused s _ K _ _ (sym c.if-is_type.ensures) (sym c.if-is_pragma.ensures) w (λ v. c.in_err-statement.ensures.goes _ L K v))

pub block_item-returns-clause-goes : goal.block_item-returns-clause-goes
block_item-returns-clause-goes n c = λ s L K w.
    statement_comes s _ K _ _ K _ (sym c.if-is_type.ensures) (sym c.if-is_pragma.ensures) c.in_ok-statement.ensures.shorter w (λ v. c.in_ok-statement.ensures.goes _ L K v)

pub line_in_block-returns-in_err-start-clause-goes : goal.line_in_block-returns-in_err-start-clause-goes
line_in_block-returns-in_err-start-clause-goes n c = λ s L K w.
    let p = err_from_is_err_and c.from_residual.result c.from_residual.ensures.1 in
    rw (p.1, p.2) (c.in_err-start.ensures.goes s _ _ (seq w))

pub line_in_block-returns-in-Some-clause-goes : goal.line_in_block-returns-in-Some-clause-goes
line_in_block-returns-in-Some-clause-goes n c = λ s L K w. c.mapping_item.ensures.goes s _ _ (by_line c.in-Some.word (sym c.in-Some.ensures) (c.in_ok-start.ensures.goes s _ _ (seq w)))

pub line_in_block-returns-in-None-clause-goes : goal.line_in_block-returns-in-None-clause-goes
line_in_block-returns-in-None-clause-goes n c = λ s L K w. c.directive_item.ensures.goes line_of (directive_in_block _ (sym c.in-None.ensures)) s _ _ (c.in_ok-start.ensures.goes s _ _ (seq w))

pub directive_item-returns-in_err-statement-clause-goes : goal.directive_item-returns-in_err-statement-clause-goes
directive_item-returns-in_err-statement-clause-goes n c = λ f a s L K w.
    let p = err_from_is_err_and c.from_residual.result c.from_residual.ensures.1 in
    rw (p.1, p.2) (c.in_err-statement.ensures.goes f a s _ _ w)

pub directive_item-returns-clause-goes : goal.directive_item-returns-clause-goes
directive_item-returns-clause-goes n c = λ f a s L K w. c.in_ok-statement.ensures.goes f a s _ _ w

pub held-returns-in_err-body-clause-goes : goal.held-returns-in_err-body-clause-goes
held-returns-in_err-body-clause-goes n c = λ s L K w.
    let p = err_from_is_err_and c.from_residual.result c.from_residual.ensures.1 in
    rw (p.1, p.2) (c.in_err-body.ensures.goes s _ _ (w))

pub held-returns-clause-goes : goal.held-returns-clause-goes
held-returns-clause-goes n c = λ s L K w. left_behind c.in_ok-body.r c.leaving.result c.args.outer c.leaving.ensures.tokens c.leaving.ensures.depth (c.in_ok-body.ensures.goes s _ _ w)

pub if_statement-returns-in_err-head-clause-goes : goal.if_statement-returns-in_err-head-clause-goes
if_statement-returns-in_err-head-clause-goes n c = λ s L K w.
    let p = err_from_is_err_and c.from_residual.result c.from_residual.ensures.1 in
    rw (p.1, p.2) (c.in_err-head.ensures.goes s _ _ _ (split w))

pub if_statement-returns-in-Err-clause-goes : goal.if_statement-returns-in-Err-clause-goes
if_statement-returns-in-Err-clause-goes n c = λ s L K w. c.in-Err.ensures.goes s _ _ (c.in_ok-head.ensures.goes s _ _ _ (split w))

pub if_statement-returns-in-Ok-clause-goes : goal.if_statement-returns-in-Ok-clause-goes
if_statement-returns-in-Ok-clause-goes n c = λ s L K w. c.if_behind.ensures.goes s _ _ (c.in-Ok.ensures.goes s _ _ (c.in_ok-head.ensures.goes s _ _ _ (split w)))

pub if_behind-returns-then-not-is_word-clause-goes : goal.if_behind-returns-then-not-is_word-clause-goes
if_behind-returns-then-not-is_word-clause-goes n c = λ s L K w. skip (second (sym c.if-not-is_word.ensures) w)

pub if_behind-returns-in-Ok-clause-goes : goal.if_behind-returns-in-Ok-clause-goes
if_behind-returns-in-Ok-clause-goes n c = λ s L K w. c.in-Ok.ensures.goes s _ _ (chosen (sym c.if-not-is_word.ensures) w)

pub if_behind-returns-in-Err-clause-goes : goal.if_behind-returns-in-Err-clause-goes
if_behind-returns-in-Err-clause-goes n c = λ s L K w. c.in-Err.ensures.goes s _ _ (chosen (sym c.if-not-is_word.ensures) w)

pub if_behind-returns-in-Ok-clause-fits : goal.if_behind-returns-in-Ok-clause-fits
if_behind-returns-in-Ok-clause-fits n c = rw (view_else _ _ _ _) (c.requires.condition, c.requires.fits, no_other _ _ c.requires.no_else (sym c.if-not-is_word.ensures), c.in-Ok.ensures.fits)

pub else_part-returns-in_err-mark-clause-goes : goal.else_part-returns-in_err-mark-clause-goes
else_part-returns-in_err-mark-clause-goes n c = λ s L K w.
    let p = err_from_is_err_and c.from_residual.result c.from_residual.ensures.1 in
    rw (p.1, p.2) (c.in_err-mark.ensures.goes s _ _ (seq (entered (split w))))

pub else_part-returns-in_err-no-clause-goes : goal.else_part-returns-in_err-no-clause-goes
else_part-returns-in_err-no-clause-goes n c = λ s L K w.
    let p = err_from_is_err_and c.from_residual-in_err-no.result c.from_residual-in_err-no.ensures.1 in
    rw (p.1, p.2) (c.in_err-no.ensures.goes s _ _ (c.in_ok-mark.ensures.goes s _ _ (seq (entered (split w)))))

pub else_part-returns-clause-goes : goal.else_part-returns-clause-goes
else_part-returns-clause-goes n c = λ s L K w. c.in_ok-no.ensures.goes s _ _ (c.in_ok-mark.ensures.goes s _ _ (seq (entered (split w))))

pub while_statement-returns-in_err-head-clause-goes : goal.while_statement-returns-in_err-head-clause-goes
while_statement-returns-in_err-head-clause-goes n c = λ s L K w.
    let p = err_from_is_err_and c.from_residual.result c.from_residual.ensures.1 in
    rw (p.1, p.2) (c.in_err-head.ensures.goes s _ _ _ (w))

pub while_statement-returns-in-Err-clause-goes : goal.while_statement-returns-in-Err-clause-goes
while_statement-returns-in-Err-clause-goes n c = λ s L K w. c.in-Err.ensures.goes s _ _ (c.in_ok-head.ensures.goes s _ _ _ w)

pub while_statement-returns-in-Ok-clause-goes : goal.while_statement-returns-in-Ok-clause-goes
while_statement-returns-in-Ok-clause-goes n c = λ s L K w. c.in-Ok.ensures.goes s _ _ (c.in_ok-head.ensures.goes s _ _ _ w)

pub for_statement-returns-in_err-head-clause-goes : goal.for_statement-returns-in_err-head-clause-goes
for_statement-returns-in_err-head-clause-goes n c = λ s L K w.
    let p = err_from_is_err_and c.from_residual.result c.from_residual.ensures.1 in
    rw (p.1, p.2) (c.in_err-head.ensures.goes s _ _ _ (w))

pub for_statement-returns-in-Err-clause-goes : goal.for_statement-returns-in-Err-clause-goes
for_statement-returns-in-Err-clause-goes n c = λ s L K w. c.in-Err.ensures.goes s _ _ (c.in_ok-head.ensures.goes s _ _ _ w)

pub for_statement-returns-in-Ok-clause-goes : goal.for_statement-returns-in-Ok-clause-goes
for_statement-returns-in-Ok-clause-goes n c = λ s L K w. c.in-Ok.ensures.goes s _ _ (c.in_ok-head.ensures.goes s _ _ _ w)

pub task-returns-in_err-line-clause-goes : goal.task-returns-in_err-line-clause-goes
task-returns-in_err-line-clause-goes n c = λ s L K w.
    let p = err_from_is_err_and c.from_residual.result c.from_residual.ensures.1 in
    rw (p.1, p.2) (c.in_err-line.ensures.goes s _ _ (w))

pub task-returns-in_err-body-clause-goes : goal.task-returns-in_err-body-clause-goes
task-returns-in_err-body-clause-goes n c = λ s L K w.
    let p = err_from_is_err_and c.from_residual-in_err-body.result c.from_residual-in_err-body.ensures.1 in
    rw (p.1, p.2) (c.in_err-body.ensures.goes s _ _ (c.in_ok-line.ensures.goes s _ _ w))

pub task-returns-clause-goes : goal.task-returns-clause-goes
task-returns-clause-goes n c = λ s L K w. c.in_ok-body.ensures.goes s _ _ (c.in_ok-line.ensures.goes s _ _ w)

pub directive-returns-in-Some-clause-goes : goal.directive-returns-in-Some-clause-goes
directive-returns-in-Some-clause-goes n c = λ f a s L K w. c.directive_line.ensures.goes s _ _ (by_directive f c.in-Some.word a (sym c.in-Some.ensures) w)

pub directive-returns-in-None-clause-goes : goal.directive-returns-in-None-clause-goes
directive-returns-in-None-clause-goes n c = λ f a s L K w. rw c.unexpected.ensures.value (by_no_directive s _ K _ f a (sym c.in-None.ensures) w)

pub directive_line-returns-in-Loop-clause-goes : goal.directive_line-returns-in-Loop-clause-goes
directive_line-returns-in-Loop-clause-goes n c = rw c.in-Loop.is c.loop_directive.ensures.goes

pub directive_line-returns-in-Task-clause-goes : goal.directive_line-returns-in-Task-clause-goes
directive_line-returns-in-Task-clause-goes n c = rw c.in-Task.is c.task_statement.ensures.goes

pub directive_line-returns-in-Tasks-clause-goes : goal.directive_line-returns-in-Tasks-clause-goes
directive_line-returns-in-Tasks-clause-goes n c = rw c.in-Tasks.is c.tasks.ensures.goes

pub directive_line-returns-in-Reflect-clause-goes : goal.directive_line-returns-in-Reflect-clause-goes
directive_line-returns-in-Reflect-clause-goes n c = rw c.in-Reflect.is (c.plain_directive.ensures.goes tt)

pub directive_line-returns-in-Barrier-clause-goes : goal.directive_line-returns-in-Barrier-clause-goes
directive_line-returns-in-Barrier-clause-goes n c = rw c.in-Barrier.is (c.plain_directive-in-Barrier.ensures.goes tt)

pub directive_line-returns-in-Bcast-clause-goes : goal.directive_line-returns-in-Bcast-clause-goes
directive_line-returns-in-Bcast-clause-goes n c = rw c.in-Bcast.is (c.plain_directive-in-Bcast.ensures.goes tt)

pub directive_line-returns-in-Gmove-clause-goes : goal.directive_line-returns-in-Gmove-clause-goes
directive_line-returns-in-Gmove-clause-goes n c = rw c.in-Gmove.is (c.plain_directive-in-Gmove.ensures.goes tt)

pub task_statement-returns-in_err-task-clause-goes : goal.task_statement-returns-in_err-task-clause-goes
task_statement-returns-in_err-task-clause-goes n c = λ s L K w.
    let p = err_from_is_err_and c.from_residual.result c.from_residual.ensures.1 in
    rw (p.1, p.2) (c.in_err-task.ensures.goes s _ _ (w))

pub task_statement-returns-clause-goes : goal.task_statement-returns-clause-goes
task_statement-returns-clause-goes n c = λ s L K w. c.in_ok-task.ensures.goes s _ _ (w)

pub loop_directive-returns-in_err-line-clause-goes : goal.loop_directive-returns-in_err-line-clause-goes
loop_directive-returns-in_err-line-clause-goes n c = λ s L K w.
    let p = err_from_is_err_and c.from_residual.result c.from_residual.ensures.1 in
    rw (p.1, p.2) (c.in_err-line.ensures.goes s _ _ (w))

pub loop_directive-returns-in_err-held-clause-goes : goal.loop_directive-returns-in_err-held-clause-goes
loop_directive-returns-in_err-held-clause-goes n c = λ s L K w.
    let p = err_from_is_err_and c.from_residual-in_err-held.result c.from_residual-in_err-held.ensures.1 in
    rw (p.1, p.2) (c.in_err-held.ensures.goes s _ _ (whole (c.in_ok-line.ensures.goes s _ _ w)))

pub loop_directive-returns-clause-goes : goal.loop_directive-returns-clause-goes
loop_directive-returns-clause-goes n c = λ s L K w. left_behind c.in_ok-held.r c.leaving.result c.args.r.depth c.leaving.ensures.tokens c.leaving.ensures.depth (c.in_ok-held.ensures.goes s _ _ (whole (c.in_ok-line.ensures.goes s _ _ w)))

pub tasks-returns-in_err-line-clause-goes : goal.tasks-returns-in_err-line-clause-goes
tasks-returns-in_err-line-clause-goes n c = λ s L K w.
    let p = err_from_is_err_and c.from_residual.result c.from_residual.ensures.1 in
    rw (p.1, p.2) (c.in_err-line.ensures.goes s _ _ (w))

pub tasks-returns-in_err-tasks-clause-goes : goal.tasks-returns-in_err-tasks-clause-goes
tasks-returns-in_err-tasks-clause-goes n c = λ s L K w.
    let p = err_from_is_err_and c.from_residual-in_err-tasks.result c.from_residual-in_err-tasks.ensures.1 in
    rw (p.1, p.2) (c.in_err-tasks.ensures.goes s _ _ (c.in_ok-line.ensures.goes s _ _ w))

pub tasks-returns-clause-goes : goal.tasks-returns-clause-goes
tasks-returns-clause-goes n c = λ s L K w. left_behind c.in_ok-tasks.r c.leaving.result c.args.r.depth c.leaving.ensures.tokens c.leaving.ensures.depth (c.in_ok-tasks.ensures.goes s _ _ (c.in_ok-line.ensures.goes s _ _ w))

pub task_items-returns-in_err-start-clause-goes : goal.task_items-returns-in_err-start-clause-goes
task_items-returns-in_err-start-clause-goes n c = λ s L K w.
    let p = err_from_is_err_and c.from_residual.result c.from_residual.ensures.1 in
    rw (p.1, p.2) (c.in_err-start.ensures.goes s _ _ (seq (once_more (sym c.loop-alloc-test.ensures) (c.loop-alloc.invariant.goes s L K w))))

pub task_items-returns-in_err-item-clause-goes : goal.task_items-returns-in_err-item-clause-goes
task_items-returns-in_err-item-clause-goes n c = λ s L K w.
    let p = err_from_is_err_and c.from_residual-in_err-item.result c.from_residual-in_err-item.ensures.1 in
    rw (p.1, p.2) (c.in_err-item.ensures.goes s _ _ (whole (c.in_ok-start.ensures.goes s _ _ (seq (once_more (sym c.loop-alloc-test.ensures) (c.loop-alloc.invariant.goes s L K w))))))

pub task_items-returns-clause-goes : goal.task_items-returns-clause-goes
task_items-returns-clause-goes n c = λ s L K w. no_more (sym c.loop-alloc-test.ensures) (c.loop-alloc.invariant.goes s L K w)

pub task_items-returns-clause-reads : goal.task_items-returns-clause-reads
task_items-returns-clause-reads n c = c.loop-alloc.invariant.reads ∙ tasks_each c.loop-alloc.items c.loop-alloc.rest.tokens.now

pub task_items-returns-clause-fits : goal.task_items-returns-clause-fits
task_items-returns-clause-fits n c = tasks_fit c.loop-alloc.items c.loop-alloc.invariant.fits

pub task_items-loop-alloc-preserved : goal.task_items-loop-alloc-preserved
task_items-loop-alloc-preserved n c = rw c.in_ok-push.ensures.ok
    (one_more _ _ _ _ c.args.r c.loop-alloc.items c.loop-alloc.rest c.in_ok-item.r c.in_ok-item.item c.loop-alloc.invariant
    (λ s L K w. c.in_ok-item.ensures.goes s _ _ (whole (c.in_ok-start.ensures.goes s _ _ (seq (once_more (sym c.loop-alloc-test.ensures) w)))))
    (c.in_ok-start.ensures.reads ∙ c.in_ok-item.ensures.reads) (c.in_ok-item.ensures.fits.0, c.in_ok-item.ensures.fits.1, tt)
    (let a = c.in_ok-start.ensures.shorter in let b = c.in_ok-item.ensures.shorter in omega (arith, a, b)))

pub task_items-loop-alloc-init : goal.task_items-loop-alloc-init
task_items-loop-alloc-init n c = rw c.new-items.ensures (none_so_far _ _ _ _ _)
