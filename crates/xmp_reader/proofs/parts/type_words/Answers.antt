use Rattle.std.proofs.Common.{rules, ◌≡◌, ℕ, true, false, sym, refl, ap, ◌∙◌}
use Rattle.std.proofs.lemmas.Result.{err_from_is_err_and}
use Rattle.xmp_reader.proofs.Opening.{seq, into, skip, first, second, again, no_more}
use Rattle.xmp_reader.proofs.Listing.{split, whole, once_more, if_so, if_not, none_so_far, one_more}
use Rattle.xmp_reader.proofs.parts.type_words.Goals as goal

pub returns-in_err-int-clause-goes : goal.returns-in_err-int-clause-goes
returns-in_err-int-clause-goes c = λ s L K w.
    let p = err_from_is_err_and c.from_residual.result c.from_residual.ensures.1 in
    rw (p.1, p.2) (c.in_err-int.ensures.goes s _ _ (first (sym c.is_word.ensures ∙ c.if-is_word.true) (into w)))

pub returns-then-is_word-clause-goes : goal.returns-then-is_word-clause-goes
returns-then-is_word-clause-goes c = λ s L K w. c.in_ok-int.ensures.goes s _ _ (first (sym c.is_word.ensures ∙ c.if-is_word.true) (into w))

pub returns-in_err-long-clause-goes : goal.returns-in_err-long-clause-goes
returns-in_err-long-clause-goes c = λ s L K w.
    let p = err_from_is_err_and c.from_residual-in_err-long.result c.from_residual-in_err-long.ensures.1 in
    rw (p.1, p.2) (c.in_err-long.ensures.goes s _ _ (second (sym c.is_word.ensures ∙ c.if-is_word.false) (into w)))

pub returns-in_err-int-2-clause-goes : goal.returns-in_err-int-2-clause-goes
returns-in_err-int-2-clause-goes c = λ s L K w.
    let p = err_from_is_err_and c.from_residual-in_err-int-2.result c.from_residual-in_err-int-2.ensures.1 in
    rw (p.1, p.2) (c.in_err-int-2.ensures.goes s _ _ (first (sym c.is_word-2.ensures ∙ c.if-is_word-2.true) (c.in_ok-long.ensures.goes s _ _ (second (sym c.is_word.ensures ∙ c.if-is_word.false) (into w)))))

pub returns-then-is_word-2-clause-goes : goal.returns-then-is_word-2-clause-goes
returns-then-is_word-2-clause-goes c = λ s L K w. c.in_ok-int-2.ensures.goes s _ _ (first (sym c.is_word-2.ensures ∙ c.if-is_word-2.true) (c.in_ok-long.ensures.goes s _ _ (second (sym c.is_word.ensures ∙ c.if-is_word.false) (into w))))

pub returns-clause-goes : goal.returns-clause-goes
returns-clause-goes c = λ s L K w. skip (second (sym c.is_word-2.ensures ∙ c.if-is_word-2.false) (c.in_ok-long.ensures.goes s _ _ (second (sym c.is_word.ensures ∙ c.if-is_word.false) (into w))))
