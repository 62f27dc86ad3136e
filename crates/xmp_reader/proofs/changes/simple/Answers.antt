use Rattle.std.proofs.Common.{rules, ◌≡◌, ℕ, true, false, sym, refl, ap, ◌∙◌}
use Rattle.std.proofs.lemmas.Result.{err_from_is_err_and}
use Rattle.xmp_reader.proofs.Opening.{seq, into, skip, first, second, again, no_more, first_not, second_not}
use Rattle.xmp_reader.proofs.Listing.{split, whole, once_more, if_so, if_not, entered}
use Rattle.xmp_reader.proofs.changes.simple.Goals as goal

pub returns-then-is_of-clause-goes : goal.returns-then-is_of-clause-goes
returns-then-is_of-clause-goes c = λ s L K w. c.prefix.ensures.goes s _ _ (if_so (sym c.is_of.ensures ∙ c.if-is_of.true) (whole w))

pub returns-clause-goes : goal.returns-clause-goes
returns-clause-goes c = λ s L K w. c.named_simple.ensures.goes s _ _ (if_not (sym c.is_of.ensures ∙ c.if-is_of.false) (whole w))
