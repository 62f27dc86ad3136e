use Rattle.std.proofs.Common.{rules, ◌≡◌, ℕ, true, false, sym, refl, ap, ◌∙◌}
use Rattle.std.proofs.lemmas.Result.{err_from_is_err_and}
use Rattle.xmp_reader.proofs.Opening.{seq, into, skip, first, second, again, no_more, first_not, second_not}
use Rattle.xmp_reader.proofs.Listing.{split, whole, once_more, if_so, if_not, none_so_far, one_more, entered}
use Rattle.xmp_line_reader.proofs.nodes.parenthesised_nodes.Goals as goal

pub returns-in_err-open-clause-goes : goal.returns-in_err-open-clause-goes
returns-in_err-open-clause-goes c = λ s L K w.
    let p = err_from_is_err_and c.from_residual.result c.from_residual.ensures.1 in
    rw (p.1, p.2) (c.in_err-open.ensures.goes s _ _ (split w))

pub returns-in_err-star-clause-goes : goal.returns-in_err-star-clause-goes
returns-in_err-star-clause-goes c = λ s L K w.
    let p = err_from_is_err_and c.from_residual-in_err-star.result c.from_residual-in_err-star.ensures.1 in
    rw (p.1, p.2) (c.in_err-star.ensures.goes s _ _ _ (split (if_so (sym c.is_mark.ensures ∙ c.if-is_mark.true) (c.in_ok-open.ensures.goes s _ _ (split w)))))

pub returns-then-is_mark-clause-goes : goal.returns-then-is_mark-clause-goes
returns-then-is_mark-clause-goes c = λ s L K w. c.star_end.ensures.goes s _ _ (c.in_ok-star.ensures.goes s _ _ _ (split (if_so (sym c.is_mark.ensures ∙ c.if-is_mark.true) (c.in_ok-open.ensures.goes s _ _ (split w)))))

pub returns-in_err-first-clause-goes : goal.returns-in_err-first-clause-goes
returns-in_err-first-clause-goes c = λ s L K w.
    let p = err_from_is_err_and c.from_residual-in_err-first.result c.from_residual-in_err-first.ensures.1 in
    rw (p.1, p.2) (c.in_err-first.ensures.goes s _ _ (split (if_not (sym c.is_mark.ensures ∙ c.if-is_mark.false) (c.in_ok-open.ensures.goes s _ _ (split w)))))

pub returns-clause-goes : goal.returns-clause-goes
returns-clause-goes c = λ s L K w. c.sizes_in_parens.ensures.goes s _ _ (c.in_ok-first.ensures.goes s _ _ (split (if_not (sym c.is_mark.ensures ∙ c.if-is_mark.false) (c.in_ok-open.ensures.goes s _ _ (split w)))))
