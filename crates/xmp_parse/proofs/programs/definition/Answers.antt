use Rattle.std.proofs.Common.{rules, ◌≡◌, ℕ, true, false, sym, refl, ap, ◌∙◌}
use Rattle.std.proofs.lemmas.Result.{err_from_is_err_and}
use Rattle.xmp_reader.proofs.Opening.{seq, into, skip, first, second, again, no_more}
use Rattle.xmp_reader.proofs.Listing.{split, whole, once_more, if_so, if_not, none_so_far, one_more}
use Rattle.xmp_parse.proofs.programs.definition.Goals as goal

pub returns-in_err-ty-clause-goes : goal.returns-in_err-ty-clause-goes
returns-in_err-ty-clause-goes c = λ s L K w.
    let p = err_from_is_err_and c.from_residual.result c.from_residual.ensures.1 in
    rw (p.1, p.2) (c.in_err-ty.ensures.goes s _ _ (split w))

pub returns-in_err-name-clause-goes : goal.returns-in_err-name-clause-goes
returns-in_err-name-clause-goes c = λ s L K w.
    let p = err_from_is_err_and c.from_residual-in_err-name.result c.from_residual-in_err-name.ensures.1 in
    rw (p.1, p.2) (c.in_err-name.ensures.goes s _ _ (split (c.in_ok-ty.ensures.goes s _ _ (split w))))

pub returns-in_err-function-clause-goes : goal.returns-in_err-function-clause-goes
returns-in_err-function-clause-goes c = λ s L K w.
    let p = err_from_is_err_and c.from_residual-in_err-function.result c.from_residual-in_err-function.ensures.1 in
    rw (p.1, p.2) (c.in_err-function.ensures.goes s _ _ (split (if_so (sym c.is_mark.ensures ∙ c.if-is_mark.true) (c.in_ok-name.ensures.goes s _ _ (split (c.in_ok-ty.ensures.goes s _ _ (split w)))))))

pub returns-then-is_mark-clause-goes : goal.returns-then-is_mark-clause-goes
returns-then-is_mark-clause-goes c = λ s L K w. c.in_ok-function.ensures.goes s _ _ (split (if_so (sym c.is_mark.ensures ∙ c.if-is_mark.true) (c.in_ok-name.ensures.goes s _ _ (split (c.in_ok-ty.ensures.goes s _ _ (split w))))))

pub returns-in_err-declaration-clause-goes : goal.returns-in_err-declaration-clause-goes
returns-in_err-declaration-clause-goes c = λ s L K w.
    let p = err_from_is_err_and c.from_residual-in_err-declaration.result c.from_residual-in_err-declaration.ensures.1 in
    rw (p.1, p.2) (c.in_err-declaration.ensures.before s _ _ _ (if_not (sym c.is_mark.ensures ∙ c.if-is_mark.false) (c.in_ok-name.ensures.goes s _ _ (split (c.in_ok-ty.ensures.goes s _ _ (split w))))))

pub returns-clause-goes : goal.returns-clause-goes
returns-clause-goes c = λ s L K w. c.in_ok-declaration.ensures.before s _ _ _ (if_not (sym c.is_mark.ensures ∙ c.if-is_mark.false) (c.in_ok-name.ensures.goes s _ _ (split (c.in_ok-ty.ensures.goes s _ _ (split w)))))
