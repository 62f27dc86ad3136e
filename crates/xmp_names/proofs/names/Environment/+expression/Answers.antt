use Rattle.std.proofs.Common.{◌≡◌, ◌∙◌, sym, ap, subst, map, IfOk}
use Rattle.xmp_names.specs.declared.typed.Typed.{Typed}
use Rattle.xmp_names.specs.Expressions.{each_subscript, expr_of, inside_of, no_parts, read}
use Rattle.xmp_names.proofs.Rolls.{read_is}
use Rattle.xmp_names.proofs.Steps.{linked_step, next_step}
use Rattle.xmp_names.proofs.names.Environment.+expression.Goals as goal

pub expression-returns-in_ok-image-in-Read : goal.expression-returns-in_ok-image-in-Read
expression-returns-in_ok-image-in-Read n c =
    let w : _ = c.args.self.now in
    let r : _ = c.in-Read.reference in
    let same : read w r.name c.in_ok-subscripts-in-Read.subscripts c.in_ok-image-in-Read.image ≡ expr_of w c.args.e.now =
    ap (λ p. read w r.name p c.in_ok-image-in-Read.image) (c.in_ok-subscripts-in-Read.ensures ∙ ap (λ ds. each_subscript no_parts (map (inside_of w) ds)) c.as_slice.ensures)
    ∙ ap (read w r.name (each_subscript no_parts (map (inside_of w) r.subscripts))) c.in_ok-image-in-Read.ensures
    ∙ sym (read_is w r) ∙ ap (expr_of w) (sym c.in-Read.is) in
    subst (λ (v : Typed). IfOk c.read.result (λ r. r ≡ v)) same c.read.ensures

pub chain-links-preserved : goal.chain-links-preserved
chain-links-preserved n c =
    let w : _ = c.args.self.now in
    c.links.invariant
    ∙ linked_step w c.args.links.now c.links.link-index c.link-item.result c.links.so_far c.expression-right.result c.in_ok-so_far.so_far c.get.result.now c.operator_of-op.result
    c.links-test.true c.link-item.is c.get.ensures c.operator_of-op.ensures c.expression-right.ensures c.in_ok-so_far.ensures

pub arguments-more-preserved : goal.arguments-more-preserved
arguments-more-preserved n c =
    let w : _ = c.args.self.now in
    c.more.invariant
    ∙ next_step w c.as_slice-next-items.result.now c.more.next-index c.next-item.result c.more.all c.in_ok-all-in-Some-2.all c.in_ok-part-in-Some.part c.more-test.true c.next-item.is
    (c.in_ok-part-in-Some.ensures ∙ ap (expr_of w) c.get-in-more.ensures)
    c.in_ok-all-in-Some-2.ensures
