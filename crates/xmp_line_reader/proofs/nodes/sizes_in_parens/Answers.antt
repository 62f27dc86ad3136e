use Rattle.std.proofs.Common.{rules, ◌≡◌, ℕ, true, false, sym, refl, ap, ◌∙◌}
use Rattle.std.proofs.lemmas.Result.{err_from_is_err_and}
use Rattle.xmp_reader.proofs.Opening.{seq, into, skip, first, second, again, no_more, first_not, second_not}
use Rattle.xmp_reader.proofs.Listing.{split, whole, once_more, if_so, if_not, none_so_far, one_more, entered}
use Rattle.xmp_line_reader.proofs.nodes.sizes_in_parens.Goals as goal

pub returns-then-is_mark-clause-goes : goal.returns-then-is_mark-clause-goes
returns-then-is_mark-clause-goes c = λ s L K w. c.list_of_sizes.ensures.goes s _ _ (if_so (sym c.is_mark.ensures ∙ c.if-is_mark.true) w)

pub returns-in-Ok-clause-goes : goal.returns-in-Ok-clause-goes
returns-in-Ok-clause-goes c = λ s L K w. c.nodes_end.ensures.goes s _ _ (c.in-Ok.ensures.goes s _ _ (split (if_not (sym c.is_mark.ensures ∙ c.if-is_mark.false) w)))

pub returns-in-Err-clause-goes : goal.returns-in-Err-clause-goes
returns-in-Err-clause-goes c = λ s L K w. c.in-Err.ensures.goes s _ _ (split (if_not (sym c.is_mark.ensures ∙ c.if-is_mark.false) w))
