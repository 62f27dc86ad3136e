use Rattle.std.proofs.Common.{rules, ◌≡◌, ℕ, true, false, sym, refl, ap, ◌∙◌}
use Rattle.std.proofs.lemmas.Result.{err_from_is_err_and}
use Rattle.xmp_reader.proofs.Opening.{seq, into, skip, first, second, again, no_more, first_not, second_not}
use Rattle.xmp_reader.proofs.Listing.{split, whole, once_more, if_so, if_not, entered}
use Rattle.xmp_parse.proofs.parameter_lists.some_parameters.Goals as goal

pub returns-in_err-void-clause-goes : goal.returns-in_err-void-clause-goes
returns-in_err-void-clause-goes c = λ s L K w.
    let p = err_from_is_err_and c.from_residual.result c.from_residual.ensures.1 in
    rw (p.1, p.2) (c.in_err-void.ensures.goes s _ _ (first (sym c.is_word.ensures ∙ c.if-is_word.true) w))

pub returns-then-is_word-clause-goes : goal.returns-then-is_word-clause-goes
returns-then-is_word-clause-goes c = λ s L K w. c.in_ok-void.ensures.goes s _ _ (first (sym c.is_word.ensures ∙ c.if-is_word.true) w)

pub returns-in_err-list-clause-goes : goal.returns-in_err-list-clause-goes
returns-in_err-list-clause-goes c = λ s L K w.
    let p = err_from_is_err_and c.from_residual-in_err-list.result c.from_residual-in_err-list.ensures.1 in
    rw (p.1, p.2) (c.in_err-list.ensures.goes s _ _ (if_not (sym c.is_word.ensures ∙ c.if-is_word.false) w))

pub returns-clause-goes : goal.returns-clause-goes
returns-clause-goes c = λ s L K w. c.in_ok-list.ensures.goes s _ _ (if_not (sym c.is_word.ensures ∙ c.if-is_word.false) w)
