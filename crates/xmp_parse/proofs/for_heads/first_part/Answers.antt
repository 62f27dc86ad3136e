use Rattle.std.proofs.Common.{rules, ◌≡◌, ℕ, true, false, sym, refl, ap, ◌∙◌}
use Rattle.std.proofs.lemmas.Result.{err_from_is_err_and}
use Rattle.xmp_reader.proofs.Opening.{seq, into, skip, first, second, again, no_more, first_not, second_not}
use Rattle.xmp_reader.proofs.Listing.{split, whole, once_more, if_so, if_not, entered}
use Rattle.xmp_parse.proofs.for_heads.first_part.Goals as goal

pub returns-then-is_word-clause-goes : goal.returns-then-is_word-clause-goes
returns-then-is_word-clause-goes c = λ s L K w. c.declared_index.ensures.goes s _ _ (if_so (sym c.is_word.ensures ∙ c.if-is_word.true) (into w))

pub returns-clause-goes : goal.returns-clause-goes
returns-clause-goes c = λ s L K w. c.assigned_index.ensures.goes s _ _ (if_not (sym c.is_word.ensures ∙ c.if-is_word.false) (into w))
