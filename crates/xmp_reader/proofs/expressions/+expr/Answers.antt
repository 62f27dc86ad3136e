use Rattle.std.proofs.Common.{rules, ◌≡◌, ℕ, true, false, sym, refl, ap, ◌∙◌, arith, suc, subst, List, ◌∷◌}
use Rattle.xmp_reader.proofs.Views.{longer_fits, view_parens}
use Rattle.xmp_lex.specs.declared.token.Token.{Token}
use Rattle.xmp_lex.specs.declared.token.TokenKind.TheVariants as t
use Rattle.xmp_syntax.specs.View.{expr_view, links_view}
use Rattle.xmp_syntax.specs.Fits.{FitsLinks}
use Rattle.xmp_syntax.specs.Spell.{◌at◌, spell}
use Rattle.xmp_reader.proofs.Longer.{links_longer, subscripts_longer, rest_longer}
use Rattle.std.proofs.lemmas.Result.{err_from_is_err_and}
use Rattle.xmp_reader.proofs.Opening.{seq, into, skip, first, second, again, no_more, first_not, second_not, chosen, without_image, a_number, a_name, a_paren, a_unary, no_operand}
use Rattle.xmp_reader.proofs.Levels.{plus_one, level_start, level_next, level_end, more_links, same_levels}
use Rattle.xmp_syntax.specs.Grammar as g
use Rattle.xmp_lex.specs.declared.token.Mark.TheVariants as m
use Rattle.xmp_reader.proofs.expressions.+expr.Goals as goal

pub arguments-returns-in_err-open-clause-goes : goal.arguments-returns-in_err-open-clause-goes
arguments-returns-in_err-open-clause-goes n c = λ s L K w.
    let p = err_from_is_err_and c.from_residual.result c.from_residual.ensures.1 in
    rw (p.1, p.2) (c.in_err-open.ensures.goes s _ _ (into w))

pub arguments-returns-in_err-close-clause-goes : goal.arguments-returns-in_err-close-clause-goes
arguments-returns-in_err-close-clause-goes n c = λ s L K w.
    let p = err_from_is_err_and c.from_residual-in_err-close.result c.from_residual-in_err-close.ensures.1 in
    rw (p.1, p.2) (c.in_err-close.ensures.goes s _ _ (skip (second_not (g.is_mark m.CloseParen) (sym c.if-is_mark.ensures) (seq (c.in_ok-open.ensures.goes s _ _ (into w))))))

pub arguments-returns-then-is_mark-clause-goes : goal.arguments-returns-then-is_mark-clause-goes
arguments-returns-then-is_mark-clause-goes n c = λ s L K w. c.in_ok-close.ensures.goes s _ _ (skip (second_not (g.is_mark m.CloseParen) (sym c.if-is_mark.ensures) (seq (c.in_ok-open.ensures.goes s _ _ (into w)))))

pub arguments-returns-in_err-first-clause-goes : goal.arguments-returns-in_err-first-clause-goes
arguments-returns-in_err-first-clause-goes n c = λ s L K w.
    let p = err_from_is_err_and c.from_residual-in_err-first.result c.from_residual-in_err-first.ensures.1 in
    rw (p.1, p.2) (c.in_err-first.ensures.goes s _ _ (first_not (g.is_mark m.CloseParen) (sym c.if-is_mark.ensures) (seq (c.in_ok-open.ensures.goes s _ _ (into w)))))

pub arguments-returns-in_err-more-clause-goes : goal.arguments-returns-in_err-more-clause-goes
arguments-returns-in_err-more-clause-goes n c = λ s L K w.
    let p = err_from_is_err_and c.from_residual-in_err-more.result c.from_residual-in_err-more.ensures.1 in
    rw (p.1, p.2) (c.in_err-more.ensures.goes s _ _ (c.in_ok-first.ensures.goes s _ _ (first_not (g.is_mark m.CloseParen) (sym c.if-is_mark.ensures) (seq (c.in_ok-open.ensures.goes s _ _ (into w))))))

pub arguments-returns-in_err-close-2-clause-goes : goal.arguments-returns-in_err-close-2-clause-goes
arguments-returns-in_err-close-2-clause-goes n c = λ s L K w.
    let p = err_from_is_err_and c.from_residual-in_err-close-2.result c.from_residual-in_err-close-2.ensures.1 in
    rw (p.1, p.2) (c.in_err-close-2.ensures.goes s _ _ (c.in_ok-more.ensures.goes s _ _ (c.in_ok-first.ensures.goes s _ _ (first_not (g.is_mark m.CloseParen) (sym c.if-is_mark.ensures) (seq (c.in_ok-open.ensures.goes s _ _ (into w)))))))

pub arguments-returns-clause-goes : goal.arguments-returns-clause-goes
arguments-returns-clause-goes n c = λ s L K w. c.in_ok-close-2.ensures.goes s _ _ (c.in_ok-more.ensures.goes s _ _ (c.in_ok-first.ensures.goes s _ _ (first_not (g.is_mark m.CloseParen) (sym c.if-is_mark.ensures) (seq (c.in_ok-open.ensures.goes s _ _ (into w))))))

pub both_branches-returns-in_err-question-clause-goes : goal.both_branches-returns-in_err-question-clause-goes
both_branches-returns-in_err-question-clause-goes n c = λ s L K w.
    let p = err_from_is_err_and c.from_residual.result c.from_residual.ensures.1 in
    rw (p.1, p.2) (c.in_err-question.ensures.goes s _ _ (seq w))

pub both_branches-returns-in_err-yes-clause-goes : goal.both_branches-returns-in_err-yes-clause-goes
both_branches-returns-in_err-yes-clause-goes n c = λ s L K w.
    let p = err_from_is_err_and c.from_residual-in_err-yes.result c.from_residual-in_err-yes.ensures.1 in
    rw (p.1, p.2) (c.in_err-yes.ensures.goes s _ _ (seq (c.in_ok-question.ensures.goes s _ _ (seq w))))

pub both_branches-returns-in_err-mark-clause-goes : goal.both_branches-returns-in_err-mark-clause-goes
both_branches-returns-in_err-mark-clause-goes n c = λ s L K w.
    let p = err_from_is_err_and c.from_residual-in_err-mark.result c.from_residual-in_err-mark.ensures.1 in
    rw (p.1, p.2) (c.in_err-mark.ensures.goes s _ _ (seq (c.in_ok-yes.ensures.goes s _ _ (seq (c.in_ok-question.ensures.goes s _ _ (seq w))))))

pub both_branches-returns-in_err-no-clause-goes : goal.both_branches-returns-in_err-no-clause-goes
both_branches-returns-in_err-no-clause-goes n c = λ s L K w.
    let p = err_from_is_err_and c.from_residual-in_err-no.result c.from_residual-in_err-no.ensures.1 in
    rw (p.1, p.2) (c.in_err-no.ensures.goes s _ _ (c.in_ok-mark.ensures.goes s _ _ (seq (c.in_ok-yes.ensures.goes s _ _ (seq (c.in_ok-question.ensures.goes s _ _ (seq w)))))))

pub both_branches-returns-clause-goes : goal.both_branches-returns-clause-goes
both_branches-returns-clause-goes n c = λ s L K w. c.in_ok-no.ensures.goes s _ _ (c.in_ok-mark.ensures.goes s _ _ (seq (c.in_ok-yes.ensures.goes s _ _ (seq (c.in_ok-question.ensures.goes s _ _ (seq w))))))

pub boxed-returns-in_err-made-clause-goes : goal.boxed-returns-in_err-made-clause-goes
boxed-returns-in_err-made-clause-goes n c = λ s L K w.
    let p = err_from_is_err_and c.from_residual.result c.from_residual.ensures.1 in
    rw (p.1, p.2) (c.in_err-made.ensures.goes s _ _ (w))

pub boxed-returns-clause-goes : goal.boxed-returns-clause-goes
boxed-returns-clause-goes n c = λ s L K w. c.in_ok-made.ensures.goes s _ _ (w)

pub expression-returns-in_err-condition-clause-goes : goal.expression-returns-in_err-condition-clause-goes
expression-returns-in_err-condition-clause-goes n c = λ s L K w.
    let p = err_from_is_err_and c.from_residual.result c.from_residual.ensures.1 in
    rw (p.1, p.2) (c.in_err-condition.ensures.goes s _ _ (into w))

pub expression-returns-then-not-is_mark-clause-goes : goal.expression-returns-then-not-is_mark-clause-goes
expression-returns-then-not-is_mark-clause-goes n c = λ s L K w. skip (second (sym c.if-not-is_mark.ensures) (c.in_ok-condition.ensures.goes s _ _ (into w)))

pub expression-returns-in_err-branches-clause-goes : goal.expression-returns-in_err-branches-clause-goes
expression-returns-in_err-branches-clause-goes n c = λ s L K w.
    let p = err_from_is_err_and c.from_residual-in_err-branches.result c.from_residual-in_err-branches.ensures.1 in
    rw (p.1, p.2) (c.in_err-branches.ensures.goes s _ _ (chosen (sym c.if-not-is_mark.ensures) (c.in_ok-condition.ensures.goes s _ _ (into w))))

pub expression-returns-clause-goes : goal.expression-returns-clause-goes
expression-returns-clause-goes n c = λ s L K w. c.in_ok-branches.ensures.goes s _ _ (chosen (sym c.if-not-is_mark.ensures) (c.in_ok-condition.ensures.goes s _ _ (into w)))

pub image-returns-then-not-is_image-clause-goes : goal.image-returns-then-not-is_image-clause-goes
image-returns-then-not-is_image-clause-goes n c = λ s L K w. without_image c.args.colon (sym c.if-not-is_image.ensures) w

pub image-returns-in_err-mark-clause-goes : goal.image-returns-in_err-mark-clause-goes
image-returns-in_err-mark-clause-goes n c = λ s L K w.
    let p = err_from_is_err_and c.from_residual.result c.from_residual.ensures.1 in
    rw (p.1, p.2) (c.in_err-mark.ensures.goes s _ _ (w))

pub image-returns-in_err-item-clause-goes : goal.image-returns-in_err-item-clause-goes
image-returns-in_err-item-clause-goes n c = λ s L K w.
    let p = err_from_is_err_and c.from_residual-in_err-item.result c.from_residual-in_err-item.ensures.1 in
    rw (p.1, p.2) (c.in_err-item.ensures.goes s _ _ (c.in_ok-mark.ensures.goes s _ _ (w)))

pub image-returns-in_err-close-clause-goes : goal.image-returns-in_err-close-clause-goes
image-returns-in_err-close-clause-goes n c = λ s L K w.
    let p = err_from_is_err_and c.from_residual-in_err-close.result c.from_residual-in_err-close.ensures.1 in
    rw (p.1, p.2) (c.in_err-close.ensures.goes s _ _ (c.in_ok-item.ensures.goes s _ _ (c.in_ok-mark.ensures.goes s _ _ (w))))

pub image-returns-clause-goes : goal.image-returns-clause-goes
image-returns-clause-goes n c = λ s L K w. c.in_ok-close.ensures.goes s _ _ (c.in_ok-item.ensures.goes s _ _ (c.in_ok-mark.ensures.goes s _ _ (w)))

pub named-returns-in_err-name-clause-goes : goal.named-returns-in_err-name-clause-goes
named-returns-in_err-name-clause-goes n c = λ s L K w.
    let p = err_from_is_err_and c.from_residual.result c.from_residual.ensures.1 in
    rw (p.1, p.2) (c.in_err-name.ensures.goes s _ _ (seq w))

pub named-returns-in_err-arguments-clause-goes : goal.named-returns-in_err-arguments-clause-goes
named-returns-in_err-arguments-clause-goes n c = λ s L K w.
    let p = err_from_is_err_and c.from_residual-in_err-arguments.result c.from_residual-in_err-arguments.ensures.1 in
    rw (p.1, p.2) (c.in_err-arguments.ensures.goes s _ _ (first (sym c.if-is_mark.ensures) (c.in_ok-name.ensures.goes s _ _ (seq w))))

pub named-returns-then-is_mark-clause-goes : goal.named-returns-then-is_mark-clause-goes
named-returns-then-is_mark-clause-goes n c = λ s L K w. c.in_ok-arguments.ensures.goes s _ _ (first (sym c.if-is_mark.ensures) (c.in_ok-name.ensures.goes s _ _ (seq w)))

pub named-returns-in_err-subscripts-clause-goes : goal.named-returns-in_err-subscripts-clause-goes
named-returns-in_err-subscripts-clause-goes n c = λ s L K w.
    let p = err_from_is_err_and c.from_residual-in_err-subscripts.result c.from_residual-in_err-subscripts.ensures.1 in
    rw (p.1, p.2) (c.in_err-subscripts.ensures.goes s _ _ (second (sym c.if-is_mark.ensures) (c.in_ok-name.ensures.goes s _ _ (seq w))))

pub named-returns-in_err-image-clause-goes : goal.named-returns-in_err-image-clause-goes
named-returns-in_err-image-clause-goes n c = λ s L K w.
    let p = err_from_is_err_and c.from_residual-in_err-image.result c.from_residual-in_err-image.ensures.1 in
    rw (p.1, p.2) (c.in_err-image.ensures.goes s _ _ (c.in_ok-subscripts.ensures.goes s _ _ (second (sym c.if-is_mark.ensures) (c.in_ok-name.ensures.goes s _ _ (seq w)))))

pub named-returns-clause-goes : goal.named-returns-clause-goes
named-returns-clause-goes n c = λ s L K w. c.in_ok-image.ensures.goes s _ _ (c.in_ok-subscripts.ensures.goes s _ _ (second (sym c.if-is_mark.ensures) (c.in_ok-name.ensures.goes s _ _ (seq w))))

pub operand-returns-in_err-value-clause-goes : goal.operand-returns-in_err-value-clause-goes
operand-returns-in_err-value-clause-goes n c = λ s L K w.
    let p = err_from_is_err_and c.from_residual.result c.from_residual.ensures.1 in
    rw (p.1, p.2) (c.in_err-value.ensures.goes s _ _ (a_number (sym c.if-is_number.ensures) w))

pub operand-returns-then-is_number-clause-goes : goal.operand-returns-then-is_number-clause-goes
operand-returns-then-is_number-clause-goes n c = λ s L K w. c.in_ok-value.ensures.goes s _ _ (a_number (sym c.if-is_number.ensures) w)

pub operand-returns-then-is_name-clause-goes : goal.operand-returns-then-is_name-clause-goes
operand-returns-then-is_name-clause-goes n c = λ s L K w. c.named.ensures.goes s _ _ (a_name (sym c.if-is_name.ensures) w)

pub operand-returns-then-is_mark-clause-goes : goal.operand-returns-then-is_mark-clause-goes
operand-returns-then-is_mark-clause-goes n c = λ s L K w. c.parens_or_cast.ensures.goes s _ _ (a_paren (sym c.if-is_mark.ensures) w)

pub operand-returns-then-not-is_of-clause-goes : goal.operand-returns-then-not-is_of-clause-goes
operand-returns-then-not-is_of-clause-goes n c = λ s L K w. rw c.unexpected.ensures.value (no_operand s _ c.args.colon K _ (sym c.if-is_number.ensures) (sym c.if-is_name.ensures) (sym c.if-is_mark.ensures) (sym c.if-not-is_of.ensures) w)

pub operand-returns-in_err-operator-clause-goes : goal.operand-returns-in_err-operator-clause-goes
operand-returns-in_err-operator-clause-goes n c = λ s L K w.
    let p = err_from_is_err_and c.from_residual-in_err-operator.result c.from_residual-in_err-operator.ensures.1 in
    rw (p.1, p.2) (c.in_err-operator.ensures.goes s _ _ (a_unary (sym c.if-not-is_of.ensures) w))

pub operand-returns-in_err-operand-clause-goes : goal.operand-returns-in_err-operand-clause-goes
operand-returns-in_err-operand-clause-goes n c = λ s L K w.
    let p = err_from_is_err_and c.from_residual-in_err-operand.result c.from_residual-in_err-operand.ensures.1 in
    rw (p.1, p.2) (c.in_err-operand.ensures.goes s _ _ (c.in_ok-operator.ensures.goes s _ _ (a_unary (sym c.if-not-is_of.ensures) w)))

pub operand-returns-clause-goes : goal.operand-returns-clause-goes
operand-returns-clause-goes n c = λ s L K w. c.in_ok-operand.ensures.goes s _ _ (c.in_ok-operator.ensures.goes s _ _ (a_unary (sym c.if-not-is_of.ensures) w))

pub parens_or_cast-returns-in_err-open-clause-goes : goal.parens_or_cast-returns-in_err-open-clause-goes
parens_or_cast-returns-in_err-open-clause-goes n c = λ s L K w.
    let p = err_from_is_err_and c.from_residual.result c.from_residual.ensures.1 in
    rw (p.1, p.2) (c.in_err-open.ensures.goes s _ _ (seq w))

pub parens_or_cast-returns-in_err-item-clause-goes : goal.parens_or_cast-returns-in_err-item-clause-goes
parens_or_cast-returns-in_err-item-clause-goes n c = λ s L K w.
    let p = err_from_is_err_and c.from_residual-in_err-item.result c.from_residual-in_err-item.ensures.1 in
    rw (p.1, p.2) (c.in_err-item.ensures.goes s _ _ (first (sym c.if-is_type.ensures) (c.in_ok-open.ensures.goes s _ _ (seq w))))

pub parens_or_cast-returns-in_err-close-clause-goes : goal.parens_or_cast-returns-in_err-close-clause-goes
parens_or_cast-returns-in_err-close-clause-goes n c = λ s L K w.
    let p = err_from_is_err_and c.from_residual-in_err-close.result c.from_residual-in_err-close.ensures.1 in
    rw (p.1, p.2) (c.in_err-close.ensures.goes s _ _ (seq (c.in_ok-item.ensures.goes s _ _ (first (sym c.if-is_type.ensures) (c.in_ok-open.ensures.goes s _ _ (seq w))))))

pub parens_or_cast-returns-in_err-operand-clause-goes : goal.parens_or_cast-returns-in_err-operand-clause-goes
parens_or_cast-returns-in_err-operand-clause-goes n c = λ s L K w.
    let p = err_from_is_err_and c.from_residual-in_err-operand.result c.from_residual-in_err-operand.ensures.1 in
    rw (p.1, p.2) (c.in_err-operand.ensures.goes s _ _ (c.in_ok-close.ensures.goes s _ _ (seq (c.in_ok-item.ensures.goes s _ _ (first (sym c.if-is_type.ensures) (c.in_ok-open.ensures.goes s _ _ (seq w)))))))

pub parens_or_cast-returns-then-is_type-clause-goes : goal.parens_or_cast-returns-then-is_type-clause-goes
parens_or_cast-returns-then-is_type-clause-goes n c = λ s L K w. c.in_ok-operand.ensures.goes s _ _ (c.in_ok-close.ensures.goes s _ _ (seq (c.in_ok-item.ensures.goes s _ _ (first (sym c.if-is_type.ensures) (c.in_ok-open.ensures.goes s _ _ (seq w))))))

pub parens_or_cast-returns-in_err-item-2-clause-goes : goal.parens_or_cast-returns-in_err-item-2-clause-goes
parens_or_cast-returns-in_err-item-2-clause-goes n c = λ s L K w.
    let p = err_from_is_err_and c.from_residual-in_err-item-2.result c.from_residual-in_err-item-2.ensures.1 in
    rw (p.1, p.2) (c.in_err-item-2.ensures.goes s _ _ (second (sym c.if-is_type.ensures) (c.in_ok-open.ensures.goes s _ _ (seq w))))

pub parens_or_cast-returns-in_err-close-2-clause-goes : goal.parens_or_cast-returns-in_err-close-2-clause-goes
parens_or_cast-returns-in_err-close-2-clause-goes n c = λ s L K w.
    let p = err_from_is_err_and c.from_residual-in_err-close-2.result c.from_residual-in_err-close-2.ensures.1 in
    rw (p.1, p.2) (c.in_err-close-2.ensures.goes s _ _ (c.in_ok-item-2.ensures.goes s _ _ (second (sym c.if-is_type.ensures) (c.in_ok-open.ensures.goes s _ _ (seq w)))))

pub parens_or_cast-returns-clause-goes : goal.parens_or_cast-returns-clause-goes
parens_or_cast-returns-clause-goes n c = λ s L K w. c.in_ok-close-2.ensures.goes s _ _ (c.in_ok-item-2.ensures.goes s _ _ (second (sym c.if-is_type.ensures) (c.in_ok-open.ensures.goes s _ _ (seq w))))

pub more_arguments-returns-in_err-comma-clause-goes : goal.more_arguments-returns-in_err-comma-clause-goes
more_arguments-returns-in_err-comma-clause-goes n c = λ s L K w.
    let p = err_from_is_err_and c.from_residual.result c.from_residual.ensures.1 in
    rw (p.1, p.2) (c.in_err-comma.ensures.goes s _ _ (again (sym c.loop-alloc-test.ensures) (c.loop-alloc.invariant.goes s _ _ w)))

pub more_arguments-returns-in_err-item-clause-goes : goal.more_arguments-returns-in_err-item-clause-goes
more_arguments-returns-in_err-item-clause-goes n c = λ s L K w.
    let p = err_from_is_err_and c.from_residual-in_err-item.result c.from_residual-in_err-item.ensures.1 in
    rw (p.1, p.2) (c.in_err-item.ensures.goes s _ _ (c.in_ok-comma.ensures.goes s _ _ (again (sym c.loop-alloc-test.ensures) (c.loop-alloc.invariant.goes s _ _ w))))

pub more_arguments-returns-clause-goes : goal.more_arguments-returns-clause-goes
more_arguments-returns-clause-goes n c = λ s L K w. no_more (sym c.loop-alloc-test.ensures) (c.loop-alloc.invariant.goes s _ _ w)

pub subscripts-returns-in_err-open-clause-goes : goal.subscripts-returns-in_err-open-clause-goes
subscripts-returns-in_err-open-clause-goes n c = λ s L K w.
    let p = err_from_is_err_and c.from_residual.result c.from_residual.ensures.1 in
    rw (p.1, p.2) (c.in_err-open.ensures.goes s _ _ (again (sym c.loop-alloc-test.ensures) (c.loop-alloc.invariant.goes s _ _ (into w))))

pub subscripts-returns-in_err-item-clause-goes : goal.subscripts-returns-in_err-item-clause-goes
subscripts-returns-in_err-item-clause-goes n c = λ s L K w.
    let p = err_from_is_err_and c.from_residual-in_err-item.result c.from_residual-in_err-item.ensures.1 in
    rw (p.1, p.2) (c.in_err-item.ensures.goes s _ _ (seq (c.in_ok-open.ensures.goes s _ _ (again (sym c.loop-alloc-test.ensures) (c.loop-alloc.invariant.goes s _ _ (into w))))))

pub subscripts-returns-in_err-close-clause-goes : goal.subscripts-returns-in_err-close-clause-goes
subscripts-returns-in_err-close-clause-goes n c = λ s L K w.
    let p = err_from_is_err_and c.from_residual-in_err-close.result c.from_residual-in_err-close.ensures.1 in
    rw (p.1, p.2) (c.in_err-close.ensures.goes s _ _ (c.in_ok-item.ensures.goes s _ _ (seq (c.in_ok-open.ensures.goes s _ _ (again (sym c.loop-alloc-test.ensures) (c.loop-alloc.invariant.goes s _ _ (into w)))))))

pub subscripts-returns-clause-goes : goal.subscripts-returns-clause-goes
subscripts-returns-clause-goes n c = λ s L K w. no_more (sym c.loop-alloc-test.ensures) (c.loop-alloc.invariant.goes s _ _ (into w))

pub links-returns-in_err-operator-clause-goes : goal.links-returns-in_err-operator-clause-goes
links-returns-in_err-operator-clause-goes n c = λ s L K w.
    let p = err_from_is_err_and c.from_residual.result c.from_residual.ensures.1 in
    rw (p.1, p.2) (c.in_err-operator.ensures.goes s _ _ (again (sym c.loop-alloc-test.ensures) (c.loop-alloc.invariant.goes s _ _ w)))

pub links-returns-in_err-right-clause-goes : goal.links-returns-in_err-right-clause-goes
links-returns-in_err-right-clause-goes n c = λ s L K w.
    let p = err_from_is_err_and c.from_residual-in_err-right.result c.from_residual-in_err-right.ensures.1 in
    rw (p.1, p.2) (c.in_err-right.ensures.goes s _ _ (c.in_ok-operator.ensures.goes s _ _ (again (sym c.loop-alloc-test.ensures) (c.loop-alloc.invariant.goes s _ _ w))))

pub links-returns-clause-goes : goal.links-returns-clause-goes
links-returns-clause-goes n c = λ s L K w. no_more (sym c.loop-alloc-test.ensures) (c.loop-alloc.invariant.goes s _ _ w)

pub longer-returns-in_err-links-clause-goes : goal.longer-returns-in_err-links-clause-goes
longer-returns-in_err-links-clause-goes n c = λ s L K w.
    let p = err_from_is_err_and c.from_residual.result c.from_residual.ensures.1 in
    rw (p.1, p.2) (c.in_err-links.ensures.goes s _ _ (more_links (plus_one c.args.below) w))

pub longer-returns-clause-goes : goal.longer-returns-clause-goes
longer-returns-clause-goes n c = λ s L K w. c.in_ok-links.ensures.goes s _ _ (more_links (plus_one c.args.below) w)

pub level-returns-in_err-made-clause-goes : goal.level-returns-in_err-made-clause-goes
level-returns-in_err-made-clause-goes n c = λ s L K w.
    let p = err_from_is_err_and c.from_residual.result c.from_residual.ensures.1 in
    rw (p.1, p.2) (c.in_err-made.ensures.goes s _ _ (level_start c.args.n w))

pub level-returns-in_err-made-2-clause-goes : goal.level-returns-in_err-made-2-clause-goes
level-returns-in_err-made-2-clause-goes n c = λ s L K w.
    let p = err_from_is_err_and c.from_residual-in_err-made-2.result c.from_residual-in_err-made-2.ensures.1 in
    rw (p.1, p.2) (c.in_err-made-2.ensures.goes s _ _ (level_next c.loop-below.below c.args.n c.loop-below-test.true c.args.colon K (c.loop-below.invariant.goes s L K w)))

pub level-returns-clause-goes : goal.level-returns-clause-goes
level-returns-clause-goes n c = λ s L K w. level_end c.loop-below.below c.args.n (omega (arith, c.loop-below-test.false)) c.args.colon K (c.loop-below.invariant.goes s L K w)

pub level-loop-below-preserved : goal.level-loop-below-preserved
level-loop-below-preserved n c =
    let i = c.loop-below.invariant in
    let e = c.in_ok-made-2.ensures in
    record {
      goes = λ s L K w. same_levels _ _ c.args.n (plus_one c.loop-below.below) c.args.colon K (e.goes s _ _ (level_next c.loop-below.below c.args.n c.loop-below-test.true c.args.colon K (i.goes s L K w)));
      reads = i.reads ∙ e.reads;
      fits = e.fits;
      level = (let l = e.level in omega (arith, l));
      shorter = (let a = i.shorter in let b = e.shorter in omega (arith, a, b));
    }

pub level-loop-below-init : goal.level-loop-below-init
level-loop-below-init n c =
    let e = c.in_ok-made.ensures in
    record { goes = λ s L K w. e.goes s _ _ (level_start c.args.n w); reads = e.reads; fits = e.fits; level = e.level; shorter = e.shorter }

pub links-loop-alloc-preserved : goal.links-loop-alloc-preserved
links-loop-alloc-preserved n c =
    links_longer c.args.n c.args.below c.args.colon c.args.r c.loop-alloc.rest c.in_ok-operator.r c.in_ok-right.r c.loop-alloc.links c.push.new.self c.in_ok-operator.operator c.in_ok-right.right c.in_ok-right-2.right
    c.in_ok-push.ensures.ok c.in_ok-right-2.ensures c.loop-alloc.invariant
    (λ s L K w. c.in_ok-right.ensures.goes s _ _ (c.in_ok-operator.ensures.goes s _ _ (again (sym c.loop-alloc-test.ensures) w)))
    c.in_ok-operator.ensures.reads c.in_ok-right.ensures.reads c.in_ok-operator.ensures.kind c.in_ok-right.ensures.fits
    (let l = c.in_ok-right.ensures.level in let b = c.requires.below in omega (arith, l, b))
    (let a = c.in_ok-operator.ensures.shorter in let b = c.in_ok-right.ensures.shorter in omega (arith, a, b))

pub links-loop-alloc-init : goal.links-loop-alloc-init
links-loop-alloc-init n c = rw c.new-links.ensures (record { goes = λ s L K w. w; reads = refl; fits = tt; shorter = omega arith })

pub subscripts-loop-alloc-preserved : goal.subscripts-loop-alloc-preserved
subscripts-loop-alloc-preserved n c =
    subscripts_longer c.args.r c.loop-alloc.rest c.in_ok-open.r c.in_ok-item.r c.in_ok-close.r c.loop-alloc.subscripts c.push.new.self c.in_ok-open.open c.in_ok-close.close c.in_ok-item.item
    c.in_ok-push.ensures.ok c.loop-alloc.invariant
    (λ s L K w. c.in_ok-close.ensures.goes s _ _ (c.in_ok-item.ensures.goes s _ _ (seq (c.in_ok-open.ensures.goes s _ _ (again (sym c.loop-alloc-test.ensures) w)))))
    c.in_ok-open.ensures.reads c.in_ok-item.ensures.reads c.in_ok-close.ensures.reads c.in_ok-item.ensures.fits c.in_ok-close.ensures.deep
    (let a = c.in_ok-open.ensures.shorter in let b = c.in_ok-item.ensures.shorter in let d = c.in_ok-close.ensures.shorter in omega (arith, a, b, d))

pub subscripts-loop-alloc-init : goal.subscripts-loop-alloc-init
subscripts-loop-alloc-init n c = rw c.new-subscripts.ensures (record { goes = λ s L K w. w; reads = refl; fits = tt; deep = c.requires; shorter = omega arith })

pub more_arguments-loop-alloc-preserved : goal.more_arguments-loop-alloc-preserved
more_arguments-loop-alloc-preserved n c =
    rest_longer c.args.r c.loop-alloc.rest c.in_ok-comma.r c.in_ok-item.r c.loop-alloc.more c.push.new.self c.in_ok-comma.comma c.in_ok-item.item
    c.in_ok-push.ensures.ok c.loop-alloc.invariant
    (λ s L K w. c.in_ok-item.ensures.goes s _ _ (c.in_ok-comma.ensures.goes s _ _ (again (sym c.loop-alloc-test.ensures) w)))
    c.in_ok-comma.ensures.reads c.in_ok-item.ensures.reads c.in_ok-item.ensures.fits
    (let a = c.in_ok-comma.ensures.shorter in let b = c.in_ok-item.ensures.shorter in omega (arith, a, b))

pub more_arguments-loop-alloc-init : goal.more_arguments-loop-alloc-init
more_arguments-loop-alloc-init n c = rw c.new-more.ensures (record { goes = λ s L K w. w; reads = refl; fits = tt; shorter = omega arith })

pub longer-returns-clause-fits : goal.longer-returns-clause-fits
longer-returns-clause-fits n c =
    longer_fits (suc c.args.below) c.args.below refl c.args.first c.in_ok-chain.field-0 c.in_ok-links.links c.in_ok-chain.ensures.none c.in_ok-chain.ensures.some c.requires.first c.requires.fits
    (subst (λ (k : ℕ). FitsLinks k (links_view c.in_ok-links.links)) (sym (plus_one c.args.below)) c.in_ok-links.ensures.fits)

pub parens_or_cast-returns-clause-reads : goal.parens_or_cast-returns-clause-reads
parens_or_cast-returns-clause-reads n c =
    rw (view_parens _) (c.in_ok-open.ensures.reads ∙ ap (λ (l : List Token). (t.Mark m.OpenParen at c.in_ok-open.open) ∷ l) (c.in_ok-item-2.ensures.reads ∙ ap (spell (expr_view c.in_ok-item-2.item)) c.in_ok-close-2.ensures.reads))

pub parens_or_cast-returns-clause-fits : goal.parens_or_cast-returns-clause-fits
parens_or_cast-returns-clause-fits n c = rw (view_parens _) c.in_ok-item-2.ensures.fits
