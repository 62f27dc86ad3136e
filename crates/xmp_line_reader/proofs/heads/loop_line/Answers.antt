use Rattle.std.proofs.Common.{rules, ◌≡◌, ℕ, true, false, sym, refl, ap, ◌∙◌}
use Rattle.std.proofs.lemmas.Result.{err_from_is_err_and}
use Rattle.xmp_reader.proofs.Opening.{seq, into, skip, first, second, again, no_more, first_not, second_not}
use Rattle.xmp_reader.proofs.Listing.{split, whole, once_more, if_so, if_not, none_so_far, one_more, entered}
use Rattle.xmp_line_reader.proofs.heads.loop_line.Goals as goal

pub returns-in_err-word-clause-goes : goal.returns-in_err-word-clause-goes
returns-in_err-word-clause-goes c = λ s L K w.
    let p = err_from_is_err_and c.from_residual.result c.from_residual.ensures.1 in
    rw (p.1, p.2) (c.in_err-word.ensures.goes s _ _ (seq (entered (seq w))))

pub returns-in_err-names-clause-goes : goal.returns-in_err-names-clause-goes
returns-in_err-names-clause-goes c = λ s L K w.
    let p = err_from_is_err_and c.from_residual-in_err-names.result c.from_residual-in_err-names.ensures.1 in
    rw (p.1, p.2) (c.in_err-names.ensures.goes s _ _ (split (c.in_ok-word.ensures.goes s _ _ (seq (entered (seq w))))))

pub returns-in_err-on-clause-goes : goal.returns-in_err-on-clause-goes
returns-in_err-on-clause-goes c = λ s L K w.
    let p = err_from_is_err_and c.from_residual-in_err-on.result c.from_residual-in_err-on.ensures.1 in
    rw (p.1, p.2) (c.in_err-on.ensures.goes s _ _ _ (c.in_ok-names.ensures.goes s _ _ (split (c.in_ok-word.ensures.goes s _ _ (seq (entered (seq w)))))))

pub returns-in_err-last-clause-goes : goal.returns-in_err-last-clause-goes
returns-in_err-last-clause-goes c = λ s L K w.
    let p = err_from_is_err_and c.from_residual-in_err-last.result c.from_residual-in_err-last.ensures.1 in
    rw (p.1, p.2) (c.in_err-last.ensures.goes s _ _ _ (c.in_ok-on.ensures.goes s _ _ _ (c.in_ok-names.ensures.goes s _ _ (split (c.in_ok-word.ensures.goes s _ _ (seq (entered (seq w))))))))

pub returns-clause-goes : goal.returns-clause-goes
returns-clause-goes c = λ s L K w. c.in_ok-last.ensures.goes s _ _ _ (c.in_ok-on.ensures.goes s _ _ _ (c.in_ok-names.ensures.goes s _ _ (split (c.in_ok-word.ensures.goes s _ _ (seq (entered (seq w)))))))
