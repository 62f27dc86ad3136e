use Rattle.std.proofs.Common.{rules, ◌≡◌, ℕ, true, false, sym, refl, ap, ◌∙◌}
use Rattle.std.proofs.lemmas.Result.{err_from_is_err_and}
use Rattle.xmp_reader.proofs.Opening.{seq, into, skip, first, second, again, no_more}
use Rattle.xmp_reader.proofs.Listing.{split, whole, once_more, if_so, if_not, none_so_far, one_more}
use Rattle.xmp_line_reader.proofs.mappings.any_offset.Goals as goal

pub returns-then-not-is_of-clause-goes : goal.returns-then-not-is_of-clause-goes
returns-then-not-is_of-clause-goes c = λ s L K w. skip (if_not (sym c.is_of.ensures ∙ c.if-not-is_of.true) w)

pub returns-in_err-sign-clause-goes : goal.returns-in_err-sign-clause-goes
returns-in_err-sign-clause-goes c = λ s L K w.
    let p = err_from_is_err_and c.from_residual.result c.from_residual.ensures.1 in
    rw (p.1, p.2) (c.in_err-sign.ensures.goes s _ _ (first (sym c.is_of.ensures ∙ c.if-not-is_of.false) w))

pub returns-in_err-size-clause-goes : goal.returns-in_err-size-clause-goes
returns-in_err-size-clause-goes c = λ s L K w.
    let p = err_from_is_err_and c.from_residual-in_err-size.result c.from_residual-in_err-size.ensures.1 in
    rw (p.1, p.2) (c.in_err-size.ensures.goes s _ _ (c.in_ok-sign.ensures.goes s _ _ (first (sym c.is_of.ensures ∙ c.if-not-is_of.false) w)))

pub returns-clause-goes : goal.returns-clause-goes
returns-clause-goes c = λ s L K w. c.in_ok-size.ensures.goes s _ _ (c.in_ok-sign.ensures.goes s _ _ (first (sym c.is_of.ensures ∙ c.if-not-is_of.false) w))
