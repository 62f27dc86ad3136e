use Rattle.std.proofs.Common.{rules, ◌≡◌, ℕ, true, false, sym, refl, ap, ◌∙◌}
use Rattle.std.proofs.lemmas.Result.{err_from_is_err_and}
use Rattle.xmp_reader.proofs.Opening.{seq, into, skip, first, second, again, no_more}
use Rattle.xmp_reader.proofs.Listing.{split, whole, once_more, if_so, if_not, none_so_far, one_more}
use Rattle.xmp_line_reader.proofs.mappings.DistFormsPart.read.Goals as goal

pub returns-in_err-star-clause-goes : goal.returns-in_err-star-clause-goes
returns-in_err-star-clause-goes c = λ s L K w.
    let p = err_from_is_err_and c.from_residual.result c.from_residual.ensures.1 in
    rw (p.1, p.2) (c.in_err-star.ensures.goes s _ _ (first (sym c.is_mark.ensures ∙ c.if-is_mark.true) (into w)))

pub returns-then-is_mark-clause-goes : goal.returns-then-is_mark-clause-goes
returns-then-is_mark-clause-goes c = λ s L K w. c.in_ok-star.ensures.goes s _ _ (first (sym c.is_mark.ensures ∙ c.if-is_mark.true) (into w))

pub returns-in_err-block-clause-goes : goal.returns-in_err-block-clause-goes
returns-in_err-block-clause-goes c = λ s L K w.
    let p = err_from_is_err_and c.from_residual-in_err-block.result c.from_residual-in_err-block.ensures.1 in
    rw (p.1, p.2) (c.in_err-block.ensures.goes s _ _ (first (sym c.is_spelled.ensures ∙ c.if-is_spelled.true) (second (sym c.is_mark.ensures ∙ c.if-is_mark.false) (into w))))

pub returns-then-is_spelled-clause-goes : goal.returns-then-is_spelled-clause-goes
returns-then-is_spelled-clause-goes c = λ s L K w. c.in_ok-block.ensures.goes s _ _ (first (sym c.is_spelled.ensures ∙ c.if-is_spelled.true) (second (sym c.is_mark.ensures ∙ c.if-is_mark.false) (into w)))

pub returns-in_err-cyclic-clause-goes : goal.returns-in_err-cyclic-clause-goes
returns-in_err-cyclic-clause-goes c = λ s L K w.
    let p = err_from_is_err_and c.from_residual-in_err-cyclic.result c.from_residual-in_err-cyclic.ensures.1 in
    rw (p.1, p.2) (c.in_err-cyclic.ensures.goes s _ _ (first (sym c.is_spelled-2.ensures ∙ c.if-is_spelled-2.true) (second (sym c.is_spelled.ensures ∙ c.if-is_spelled.false) (second (sym c.is_mark.ensures ∙ c.if-is_mark.false) (into w)))))

pub returns-in_err-width-clause-goes : goal.returns-in_err-width-clause-goes
returns-in_err-width-clause-goes c = λ s L K w.
    let p = err_from_is_err_and c.from_residual-in_err-width.result c.from_residual-in_err-width.ensures.1 in
    rw (p.1, p.2) (c.in_err-width.ensures.goes s _ _ (c.in_ok-cyclic.ensures.goes s _ _ (first (sym c.is_spelled-2.ensures ∙ c.if-is_spelled-2.true) (second (sym c.is_spelled.ensures ∙ c.if-is_spelled.false) (second (sym c.is_mark.ensures ∙ c.if-is_mark.false) (into w))))))

pub returns-then-is_spelled-2-clause-goes : goal.returns-then-is_spelled-2-clause-goes
returns-then-is_spelled-2-clause-goes c = λ s L K w. c.in_ok-width.ensures.goes s _ _ (c.in_ok-cyclic.ensures.goes s _ _ (first (sym c.is_spelled-2.ensures ∙ c.if-is_spelled-2.true) (second (sym c.is_spelled.ensures ∙ c.if-is_spelled.false) (second (sym c.is_mark.ensures ∙ c.if-is_mark.false) (into w)))))

pub returns-in_err-gblock-clause-goes : goal.returns-in_err-gblock-clause-goes
returns-in_err-gblock-clause-goes c = λ s L K w.
    let p = err_from_is_err_and c.from_residual-in_err-gblock.result c.from_residual-in_err-gblock.ensures.1 in
    rw (p.1, p.2) (c.in_err-gblock.ensures.goes s _ _ (second (sym c.is_spelled-2.ensures ∙ c.if-is_spelled-2.false) (second (sym c.is_spelled.ensures ∙ c.if-is_spelled.false) (second (sym c.is_mark.ensures ∙ c.if-is_mark.false) (into w)))))

pub returns-in_err-sizes-clause-goes : goal.returns-in_err-sizes-clause-goes
returns-in_err-sizes-clause-goes c = λ s L K w.
    let p = err_from_is_err_and c.from_residual-in_err-sizes.result c.from_residual-in_err-sizes.ensures.1 in
    rw (p.1, p.2) (c.in_err-sizes.ensures.goes s _ _ (c.in_ok-gblock.ensures.goes s _ _ (second (sym c.is_spelled-2.ensures ∙ c.if-is_spelled-2.false) (second (sym c.is_spelled.ensures ∙ c.if-is_spelled.false) (second (sym c.is_mark.ensures ∙ c.if-is_mark.false) (into w))))))

pub returns-clause-goes : goal.returns-clause-goes
returns-clause-goes c = λ s L K w. c.in_ok-sizes.ensures.goes s _ _ (c.in_ok-gblock.ensures.goes s _ _ (second (sym c.is_spelled-2.ensures ∙ c.if-is_spelled-2.false) (second (sym c.is_spelled.ensures ∙ c.if-is_spelled.false) (second (sym c.is_mark.ensures ∙ c.if-is_mark.false) (into w)))))
