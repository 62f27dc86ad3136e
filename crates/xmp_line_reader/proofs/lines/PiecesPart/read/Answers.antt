use Rattle.std.proofs.Common.{rules, ◌≡◌, ℕ, true, false, sym, refl, ap, ◌∙◌}
use Rattle.std.proofs.lemmas.Result.{err_from_is_err_and}
use Rattle.xmp_reader.proofs.Opening.{seq, into, skip, first, second, again, no_more, first_not, second_not}
use Rattle.xmp_reader.proofs.Listing.{split, whole, once_more, if_so, if_not, none_so_far, one_more, entered}
use Rattle.xmp_line_reader.proofs.lines.PiecesPart.read.Goals as goal

pub returns-in_err-colon-clause-goes : goal.returns-in_err-colon-clause-goes
returns-in_err-colon-clause-goes c = λ s L K w.
    let p = err_from_is_err_and c.from_residual.result c.from_residual.ensures.1 in
    rw (p.1, p.2) (c.in_err-colon.ensures.goes s _ _ (first (sym c.is_mark.ensures ∙ c.if-is_mark.true) (into w)))

pub returns-then-is_mark-clause-goes : goal.returns-then-is_mark-clause-goes
returns-then-is_mark-clause-goes c = λ s L K w. c.in_ok-colon.ensures.goes s _ _ (first (sym c.is_mark.ensures ∙ c.if-is_mark.true) (into w))

pub returns-in_err-range-clause-goes : goal.returns-in_err-range-clause-goes
returns-in_err-range-clause-goes c = λ s L K w.
    let p = err_from_is_err_and c.from_residual-in_err-range.result c.from_residual-in_err-range.ensures.1 in
    rw (p.1, p.2) (c.in_err-range.ensures.goes s _ _ (second (sym c.is_mark.ensures ∙ c.if-is_mark.false) (into w)))

pub returns-clause-goes : goal.returns-clause-goes
returns-clause-goes c = λ s L K w. c.in_ok-range.ensures.goes s _ _ (second (sym c.is_mark.ensures ∙ c.if-is_mark.false) (into w))
