use Rattle.std.proofs.Common.{rules, ◌≡◌, ℕ, true, false, sym, refl, ap, ◌∙◌}
use Rattle.std.proofs.lemmas.Result.{err_from_is_err_and}
use Rattle.xmp_reader.proofs.Opening.{seq, into, skip, first, second, again, no_more, first_not, second_not}
use Rattle.xmp_reader.proofs.Listing.{split, whole, once_more, if_so, if_not, entered}
use Rattle.xmp_reader.proofs.changes.named_change.Goals as goal

pub returns-in_err-subscripts-clause-goes : goal.returns-in_err-subscripts-clause-goes
returns-in_err-subscripts-clause-goes c = λ s L K w.
    let p = err_from_is_err_and c.from_residual.result c.from_residual.ensures.1 in
    rw (p.1, p.2) (c.in_err-subscripts.ensures.goes s _ _ (seq w))

pub returns-in_err-image-clause-goes : goal.returns-in_err-image-clause-goes
returns-in_err-image-clause-goes c = λ s L K w.
    let p = err_from_is_err_and c.from_residual-in_err-image.result c.from_residual-in_err-image.ensures.1 in
    rw (p.1, p.2) (c.in_err-image.ensures.goes s _ _ (seq (c.in_ok-subscripts.ensures.goes s _ _ (seq w))))

pub returns-clause-goes : goal.returns-clause-goes
returns-clause-goes c = λ s L K w. c.change.ensures.goes s _ _ ((c.in_ok-image.ensures.goes s _ _ (seq (c.in_ok-subscripts.ensures.goes s _ _ (seq w)))))
