use Rattle.std.proofs.Common.{rules, ◌≡◌, ℕ, true, false, sym, refl, ap, ◌∙◌}
use Rattle.std.proofs.lemmas.Result.{err_from_is_err_and}
use Rattle.xmp_reader.proofs.Opening.{seq, into, skip, first, second, again, no_more, first_not, second_not}
use Rattle.xmp_reader.proofs.Listing.{split, whole, once_more, if_so, if_not, none_so_far, one_more, entered}
use Rattle.xmp_line_reader.proofs.lines.set.Goals as goal

pub returns-in_err-name-clause-goes : goal.returns-in_err-name-clause-goes
returns-in_err-name-clause-goes c = λ s L K w.
    let p = err_from_is_err_and c.from_residual.result c.from_residual.ensures.1 in
    rw (p.1, p.2) (c.in_err-name.ensures.goes s _ _ (into w))

pub returns-in_err-pieces-clause-goes : goal.returns-in_err-pieces-clause-goes
returns-in_err-pieces-clause-goes c = λ s L K w.
    let p = err_from_is_err_and c.from_residual-in_err-pieces.result c.from_residual-in_err-pieces.ensures.1 in
    rw (p.1, p.2) (c.in_err-pieces.ensures.goes s _ _ (c.in_ok-name.ensures.goes s _ _ (into w)))

pub returns-clause-goes : goal.returns-clause-goes
returns-clause-goes c = λ s L K w. c.in_ok-pieces.ensures.goes s _ _ (c.in_ok-name.ensures.goes s _ _ (into w))
