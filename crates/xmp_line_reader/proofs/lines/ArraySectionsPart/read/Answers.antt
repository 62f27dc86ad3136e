use Rattle.std.proofs.Common.{rules, ◌≡◌, ℕ, true, false, sym, refl, ap, ◌∙◌}
use Rattle.std.proofs.lemmas.Result.{err_from_is_err_and}
use Rattle.xmp_reader.proofs.Opening.{seq, into, skip, first, second, again, no_more}
use Rattle.xmp_reader.proofs.Listing.{split, whole, once_more, if_so, if_not, none_so_far, one_more}
use Rattle.xmp_line_reader.proofs.lines.ArraySectionsPart.read.Goals as goal

pub returns-in_err-colon-clause-goes : goal.returns-in_err-colon-clause-goes
returns-in_err-colon-clause-goes c = λ s L K w.
    let p = err_from_is_err_and c.from_residual.result c.from_residual.ensures.1 in
    rw (p.1, p.2) (c.in_err-colon.ensures.goes s _ _ (first (sym c.is_mark.ensures ∙ c.if-is_mark.true) (into w)))

pub returns-then-is_mark-clause-goes : goal.returns-then-is_mark-clause-goes
returns-then-is_mark-clause-goes c = λ s L K w. c.in_ok-colon.ensures.goes s _ _ (first (sym c.is_mark.ensures ∙ c.if-is_mark.true) (into w))

pub returns-in_err-first-clause-goes : goal.returns-in_err-first-clause-goes
returns-in_err-first-clause-goes c = λ s L K w.
    let p = err_from_is_err_and c.from_residual-in_err-first.result c.from_residual-in_err-first.ensures.1 in
    rw (p.1, p.2) (c.in_err-first.ensures.goes s _ _ (second (sym c.is_mark.ensures ∙ c.if-is_mark.false) (into w)))

pub returns-in-Ok-clause-goes : goal.returns-in-Ok-clause-goes
returns-in-Ok-clause-goes c = λ s L K w. c.in-Ok.ensures.goes s _ _ (c.in_ok-first.ensures.goes s _ _ (second (sym c.is_mark.ensures ∙ c.if-is_mark.false) (into w)))

pub returns-in-Err-clause-goes : goal.returns-in-Err-clause-goes
returns-in-Err-clause-goes c = λ s L K w. c.in-Err.ensures.goes s _ _ (c.in_ok-first.ensures.goes s _ _ (second (sym c.is_mark.ensures ∙ c.if-is_mark.false) (into w)))
