use Rattle.std.proofs.Common.{rules, ◌≡◌, ℕ, true, false, sym, refl, ap, ◌∙◌}
use Rattle.std.proofs.lemmas.Result.{err_from_is_err_and}
use Rattle.xmp_reader.proofs.Opening.{seq, into, skip, first, second, again, no_more, first_not, second_not}
use Rattle.xmp_reader.proofs.Listing.{split, whole, once_more, if_so, if_not, none_so_far, one_more, entered}
use Rattle.xmp_line_reader.proofs.nodes.list_end.Goals as goal

pub returns-in_err-close-clause-goes : goal.returns-in_err-close-clause-goes
returns-in_err-close-clause-goes c = λ s L K w.
    let p = err_from_is_err_and c.from_residual.result c.from_residual.ensures.1 in
    rw (p.1, p.2) (c.in_err-close.ensures.goes s _ _ (split w))

pub returns-in_err-end-clause-goes : goal.returns-in_err-end-clause-goes
returns-in_err-end-clause-goes c = λ s L K w.
    let p = err_from_is_err_and c.from_residual-in_err-end.result c.from_residual-in_err-end.ensures.1 in
    rw (p.1, p.2) (c.in_err-end.ensures.goes s _ _ (c.in_ok-close.ensures.goes s _ _ (split w)))

pub returns-clause-goes : goal.returns-clause-goes
returns-clause-goes c = λ s L K w. c.in_ok-end.ensures.goes s _ _ (c.in_ok-close.ensures.goes s _ _ (split w))
