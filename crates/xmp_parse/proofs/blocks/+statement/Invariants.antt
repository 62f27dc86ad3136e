use Rattle.std.proofs.Common.{length, ◌+◌, ◌*◌, ◌≤◌}
use Rattle.std.specs.Prelude.{not}
use Rattle.xmp_lex.specs.declared.token.Mark.TheVariants as m
use Rattle.xmp_syntax.specs.Parts as p
use Rattle.xmp_syntax.specs.Reading.{part, many, tok, plain, ◌·◌}
use Rattle.xmp_syntax.specs.Grammar.{is_mark, is_pragma}
use Rattle.xmp_parse.specs.Blocks.{spell_item, FitsItem, spell_task, FitsTask}
use Rattle.xmp_reader.proofs.Listing.{ListSoFar}
use Rattle.xmp_parse.proofs.blocks.+statement.Given as goal

abbrev pub decreases-statement : goal.decreases-statement
decreases-statement l = 16 * length l.r.tokens.now + 3

abbrev pub decreases-block : goal.decreases-block
decreases-block l = 16 * length l.r.tokens.now + 2

abbrev pub decreases-block_items : goal.decreases-block_items
decreases-block_items l = 16 * length l.r.tokens.now + 5

abbrev pub decreases-block_item : goal.decreases-block_item
decreases-block_item l = 16 * length l.r.tokens.now + 4

abbrev pub decreases-line_in_block : goal.decreases-line_in_block
decreases-line_in_block l = 16 * length l.r.tokens.now + 3

abbrev pub decreases-held : goal.decreases-held
decreases-held l = 16 * length l.r.tokens.now + 4

abbrev pub decreases-if_statement : goal.decreases-if_statement
decreases-if_statement l = 16 * length l.r.tokens.now + 2

abbrev pub decreases-if_behind : goal.decreases-if_behind
decreases-if_behind l = 16 * length l.r.tokens.now + 2

abbrev pub decreases-else_part : goal.decreases-else_part
decreases-else_part l = 16 * length l.r.tokens.now + 1

abbrev pub decreases-while_statement : goal.decreases-while_statement
decreases-while_statement l = 16 * length l.r.tokens.now + 2

abbrev pub decreases-for_statement : goal.decreases-for_statement
decreases-for_statement l = 16 * length l.r.tokens.now + 2

abbrev pub decreases-directive : goal.decreases-directive
decreases-directive l = 16 * length l.r.tokens.now + 3

abbrev pub decreases-directive_item : goal.decreases-directive_item
decreases-directive_item l = 16 * length l.r.tokens.now + 4

abbrev pub decreases-directive_line : goal.decreases-directive_line
decreases-directive_line l = 16 * length l.r.tokens.now + 2

abbrev pub decreases-task_statement : goal.decreases-task_statement
decreases-task_statement l = 16 * length l.r.tokens.now + 1

abbrev pub decreases-loop_directive : goal.decreases-loop_directive
decreases-loop_directive l = 16 * length l.r.tokens.now

abbrev pub decreases-task : goal.decreases-task
decreases-task l = 16 * length l.r.tokens.now

abbrev pub decreases-tasks : goal.decreases-tasks
decreases-tasks l = 16 * length l.r.tokens.now

abbrev pub decreases-tasks_block : goal.decreases-tasks_block
decreases-tasks_block l = 16 * length l.r.tokens.now

abbrev pub decreases-task_items : goal.decreases-task_items
decreases-task_items l = 16 * length l.r.tokens.now + 1

abbrev pub invariant-block_items-loop-alloc : goal.invariant-block_items-loop-alloc
invariant-block_items-loop-alloc l = ListSoFar _ (many (λ k. not (is_mark m.CloseBrace k)) (part p.block_item)) spell_item FitsItem l.r l.items l.rest

abbrev pub decreases-block_items-loop-alloc : goal.decreases-block_items-loop-alloc
decreases-block_items-loop-alloc l = length l.rest.tokens.now

abbrev pub invariant-task_items-loop-alloc : goal.invariant-task_items-loop-alloc
invariant-task_items-loop-alloc l = ListSoFar _ (many is_pragma (tok plain is_pragma · part p.task)) spell_task FitsTask l.r l.items l.rest

abbrev pub decreases-task_items-loop-alloc : goal.decreases-task_items-loop-alloc
decreases-task_items-loop-alloc l = length l.rest.tokens.now
