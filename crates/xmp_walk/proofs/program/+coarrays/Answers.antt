use Rattle.std.proofs.Common.{◌∙◌, ap, sym}
use Rattle.std.specs.List.{list_any}
use Rattle.xmp_walk.specs.Program.{coarray_in, coarray_stmt}
use Rattle.xmp_walk.proofs.Coarrays.{block_has, tasks_have}
use Rattle.xmp_walk.proofs.program.+coarrays.Goals as goal

pub statement_has-returns-in-Block : goal.statement_has-returns-in-Block
statement_has-returns-in-Block t c =
    let x : _ = c.in-Block.list in
    c.items_have.ensures ∙ ap (list_any coarray_in) c.as_slice.ensures ∙ sym (block_has x.open x.item x.close) ∙ ap coarray_stmt (sym c.in-Block.is)

pub statement_has-returns-in-Tasks : goal.statement_has-returns-in-Tasks
statement_has-returns-in-Tasks t c =
    let x : _ = c.in-Tasks.tasks in
    c.tasks_have.ensures ∙ ap (list_any (λ y. coarray_stmt y.1)) c.as_slice-in-Tasks.ensures
    ∙ sym (tasks_have c.in-Tasks.field-0 x.open x.item x.close) ∙ ap coarray_stmt (sym c.in-Tasks.is)
