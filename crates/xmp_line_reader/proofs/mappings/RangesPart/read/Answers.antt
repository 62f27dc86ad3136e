use Rattle.std.proofs.Common.{rules, ◌≡◌, ℕ, true, false, sym, refl, ap, ◌∙◌}
use Rattle.std.proofs.lemmas.Result.{err_from_is_err_and}
use Rattle.xmp_reader.proofs.Opening.{seq, into, skip, first, second, again, no_more, first_not, second_not}
use Rattle.xmp_reader.proofs.Listing.{split, whole, once_more, if_so, if_not, none_so_far, one_more}
use Rattle.xmp_line_reader.proofs.mappings.RangesPart.read.Goals as goal

pub returns-in_err-low-clause-goes : goal.returns-in_err-low-clause-goes
returns-in_err-low-clause-goes c = λ s L K w.
    let p = err_from_is_err_and c.from_residual.result c.from_residual.ensures.1 in
    rw (p.1, p.2) (c.in_err-low.ensures.goes s _ _ (into w))

pub returns-in-Ok-clause-goes : goal.returns-in-Ok-clause-goes
returns-in-Ok-clause-goes c = λ s L K w. c.in-Ok.ensures.goes s _ _ (c.in_ok-low.ensures.goes s _ _ (into w))

pub returns-in-Err-clause-goes : goal.returns-in-Err-clause-goes
returns-in-Err-clause-goes c = λ s L K w. c.in-Err.ensures.goes s _ _ (c.in_ok-low.ensures.goes s _ _ (into w))
