use Rattle.std.proofs.Common.{rules, ◌≡◌, ℕ, true, false, sym, refl, ap, ◌∙◌}
use Rattle.std.proofs.lemmas.Result.{err_from_is_err_and}
use Rattle.xmp_reader.proofs.Opening.{seq, into, skip, first, second, again, no_more, first_not, second_not}
use Rattle.xmp_reader.proofs.Listing.{split, whole, once_more, if_so, if_not, entered}
use Rattle.xmp_parse.proofs.for_heads.for_head.Goals as goal

pub returns-in_err-word-clause-goes : goal.returns-in_err-word-clause-goes
returns-in_err-word-clause-goes c = λ s L held K w.
    let p = err_from_is_err_and c.from_residual.result c.from_residual.ensures.1 in
    rw (p.1, p.2) (c.in_err-word.ensures.goes s _ _ (seq (entered (seq w))))

pub returns-clause-goes : goal.returns-clause-goes
returns-clause-goes c = λ s L held K w. c.head_behind.ensures.goes s _ _ (split (c.in_ok-word.ensures.goes s _ _ (seq (entered (seq w)))))
