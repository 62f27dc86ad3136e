use Rattle.std.proofs.Common.{rules, ◌≡◌, ℕ, true, false, sym, refl, ap, ◌∙◌}
use Rattle.std.proofs.lemmas.Result.{err_from_is_err_and}
use Rattle.xmp_reader.proofs.Opening.{seq, into, skip, first, second, again, no_more}
use Rattle.xmp_reader.proofs.Listing.{split, whole, once_more, if_so, if_not, none_so_far, one_more}
use Rattle.xmp_line_reader.proofs.Dispatch.{by_mapping, by_no_mapping}
use Rattle.xmp_line_reader.proofs.mappings.mapping.Goals as goal

pub returns-in_err-start-clause-goes : goal.returns-in_err-start-clause-goes
returns-in_err-start-clause-goes c = λ s L K w.
    let p = err_from_is_err_and c.from_residual.result c.from_residual.ensures.1 in
    rw (p.1, p.2) (c.in_err-start.ensures.goes s _ _ (into w))

pub returns-in-Some-clause-goes : goal.returns-in-Some-clause-goes
returns-in-Some-clause-goes c = λ s L K w. c.mapping_line.ensures.goes s _ _ (by_mapping c.in-Some.word (sym c.in-Some.ensures) (c.in_ok-start.ensures.goes s _ _ (into w)))

pub returns-in-None-clause-goes : goal.returns-in-None-clause-goes
returns-in-None-clause-goes c = λ s L K w. rw c.unexpected.ensures.value (by_no_mapping s _ _ _ (sym c.in-None.ensures) (c.in_ok-start.ensures.goes s _ _ (into w)))
