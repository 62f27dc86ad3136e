use Rattle.std.proofs.Common.{rules, ◌≡◌, ℕ, true, false, sym, refl, ap, ◌∙◌}
use Rattle.std.proofs.lemmas.Result.{err_from_is_err_and}
use Rattle.xmp_reader.proofs.Opening.{seq, into, skip, first, second, again, no_more, first_not, second_not}
use Rattle.xmp_reader.proofs.Listing.{split, whole, once_more, if_so, if_not, none_so_far, one_more, entered}
use Rattle.xmp_line_reader.proofs.nodes.sizes_in_brackets.Goals as goal

pub returns-then-not-is_mark-clause-goes : goal.returns-then-not-is_mark-clause-goes
returns-then-not-is_mark-clause-goes c = λ s L K w. c.nodes_end.ensures.goes s _ _ (if_not (sym c.is_mark.ensures ∙ c.if-not-is_mark.true) w)

pub returns-in-Ok-clause-goes : goal.returns-in-Ok-clause-goes
returns-in-Ok-clause-goes c = λ s L K w. c.in-Ok.ensures.goes s _ _ (if_so (sym c.is_mark.ensures ∙ c.if-not-is_mark.false) w)

pub returns-in-Err-clause-goes : goal.returns-in-Err-clause-goes
returns-in-Err-clause-goes c = λ s L K w. c.in-Err.ensures.goes s _ _ (if_so (sym c.is_mark.ensures ∙ c.if-not-is_mark.false) w)
