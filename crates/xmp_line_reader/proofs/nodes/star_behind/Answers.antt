use Rattle.std.proofs.Common.{rules, ◌≡◌, ℕ, true, false, sym, refl, ap, ◌∙◌}
use Rattle.std.proofs.lemmas.Result.{err_from_is_err_and}
use Rattle.xmp_reader.proofs.Opening.{seq, into, skip, first, second, again, no_more}
use Rattle.xmp_reader.proofs.Listing.{split, whole, once_more, if_so, if_not, none_so_far, one_more}
use Rattle.xmp_line_reader.proofs.nodes.star_behind.Goals as goal

pub returns-in_err-item-clause-goes : goal.returns-in_err-item-clause-goes
returns-in_err-item-clause-goes c = λ s L N K w.
    let p = err_from_is_err_and c.from_residual.result c.from_residual.ensures.1 in
    rw (p.1, p.2) (c.in_err-item.ensures.goes s _ _ w)

pub returns-in_err-close-clause-goes : goal.returns-in_err-close-clause-goes
returns-in_err-close-clause-goes c = λ s L N K w.
    let p = err_from_is_err_and c.from_residual-in_err-close.result c.from_residual-in_err-close.ensures.1 in
    rw (p.1, p.2) (c.in_err-close.ensures.goes s _ _ (seq (c.in_ok-item.ensures.goes s _ _ w)))

pub returns-clause-goes : goal.returns-clause-goes
returns-clause-goes c = λ s L N K w. c.in_ok-close.ensures.goes s _ _ (seq (c.in_ok-item.ensures.goes s _ _ w))
