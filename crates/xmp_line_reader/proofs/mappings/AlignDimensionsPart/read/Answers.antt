use Rattle.std.proofs.Common.{rules, ◌≡◌, ℕ, true, false, sym, refl, ap, ◌∙◌}
use Rattle.std.proofs.lemmas.Result.{err_from_is_err_and}
use Rattle.xmp_reader.proofs.Opening.{seq, into, skip, first, second, again, no_more}
use Rattle.xmp_reader.proofs.Listing.{split, whole, once_more, if_so, if_not, none_so_far, one_more}
use Rattle.xmp_line_reader.proofs.mappings.AlignDimensionsPart.read.Goals as goal

pub returns-in_err-star-clause-goes : goal.returns-in_err-star-clause-goes
returns-in_err-star-clause-goes c = λ s L K w.
    let p = err_from_is_err_and c.from_residual.result c.from_residual.ensures.1 in
    rw (p.1, p.2) (c.in_err-star.ensures.goes s _ _ (first (sym c.is_mark.ensures ∙ c.if-is_mark.true) (into w)))

pub returns-then-is_mark-clause-goes : goal.returns-then-is_mark-clause-goes
returns-then-is_mark-clause-goes c = λ s L K w. c.in_ok-star.ensures.goes s _ _ (first (sym c.is_mark.ensures ∙ c.if-is_mark.true) (into w))

pub returns-in_err-name-clause-goes : goal.returns-in_err-name-clause-goes
returns-in_err-name-clause-goes c = λ s L K w.
    let p = err_from_is_err_and c.from_residual-in_err-name.result c.from_residual-in_err-name.ensures.1 in
    rw (p.1, p.2) (c.in_err-name.ensures.goes s _ _ (second (sym c.is_mark.ensures ∙ c.if-is_mark.false) (into w)))

pub returns-clause-goes : goal.returns-clause-goes
returns-clause-goes c = λ s L K w. c.in_ok-name.ensures.goes s _ _ (second (sym c.is_mark.ensures ∙ c.if-is_mark.false) (into w))
