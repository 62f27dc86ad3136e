use Rattle.std.proofs.Common.{rules, ◌≡◌, ℕ, true, false, sym, refl, ap, ◌∙◌}
use Rattle.std.proofs.lemmas.Result.{err_from_is_err_and}
use Rattle.xmp_reader.proofs.Opening.{seq, into, skip, first, second, again, no_more}
use Rattle.xmp_reader.proofs.Listing.{split, whole, once_more, if_so, if_not, none_so_far, one_more}
use Rattle.xmp_parse.proofs.programs.top_item.Goals as goal

pub returns-in_err-mapping-clause-goes : goal.returns-in_err-mapping-clause-goes
returns-in_err-mapping-clause-goes c = λ s L K w.
    let p = err_from_is_err_and c.from_residual.result c.from_residual.ensures.1 in
    rw (p.1, p.2) (c.in_err-mapping.ensures.goes s _ _ (split (if_so (sym c.is_pragma.ensures ∙ c.if-is_pragma.true) (whole w))))

pub returns-then-is_pragma-clause-goes : goal.returns-then-is_pragma-clause-goes
returns-then-is_pragma-clause-goes c = λ s L K w. c.in_ok-mapping.ensures.goes s _ _ (split (if_so (sym c.is_pragma.ensures ∙ c.if-is_pragma.true) (whole w)))

pub returns-clause-goes : goal.returns-clause-goes
returns-clause-goes c = λ s L K w. c.definition.ensures.goes s _ _ (if_not (sym c.is_pragma.ensures ∙ c.if-is_pragma.false) (whole w))
