use Rattle.std.proofs.Common.{rules, ◌≡◌, ℕ, true, false, sym, refl, ap, ◌∙◌}
use Rattle.std.proofs.lemmas.Result.{err_from_is_err_and}
use Rattle.xmp_reader.proofs.Listing.{if_so, if_not}
use Rattle.xmp_reader.proofs.parts.several.Goals as goal

pub returns-in_err-list-clause-goes : goal.returns-in_err-list-clause-goes
returns-in_err-list-clause-goes g c = λ s L K w.
    let p = err_from_is_err_and c.from_residual.result c.from_residual.ensures.1 in
    rw (p.1, p.2) (c.in_err-list.ensures.goes s _ _ (if_so (sym c.is_mark.ensures ∙ c.if-is_mark.true) w))

pub returns-then-is_mark-clause-goes : goal.returns-then-is_mark-clause-goes
returns-then-is_mark-clause-goes g c = λ s L K w. c.in_ok-list.ensures.goes s _ _ (if_so (sym c.is_mark.ensures ∙ c.if-is_mark.true) w)

pub returns-in_err-dims-clause-goes : goal.returns-in_err-dims-clause-goes
returns-in_err-dims-clause-goes g c = λ s L K w.
    let p = err_from_is_err_and c.from_residual-in_err-dims.result c.from_residual-in_err-dims.ensures.1 in
    rw (p.1, p.2) (c.in_err-dims.ensures.goes s _ _ (if_not (sym c.is_mark.ensures ∙ c.if-is_mark.false) w))

pub returns-clause-goes : goal.returns-clause-goes
returns-clause-goes g c = λ s L K w. c.in_ok-dims.ensures.goes s _ _ (if_not (sym c.is_mark.ensures ∙ c.if-is_mark.false) w)
