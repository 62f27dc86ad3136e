use Rattle.std.proofs.Common.{rules, ◌≡◌, ℕ, true, false, sym, refl, ap, ◌∙◌}
use Rattle.std.proofs.lemmas.Result.{err_from_is_err_and}
use Rattle.xmp_reader.proofs.Opening.{seq, into, skip, first, second, again, no_more, first_not, second_not}
use Rattle.xmp_reader.proofs.Listing.{split, whole, once_more, if_so, if_not, entered}
use Rattle.xmp_lex.specs.declared.token.Mark.TheVariants as m
use Rattle.xmp_syntax.specs.Grammar as g
use Rattle.xmp_parse.proofs.for_heads.any_test.Goals as goal

pub returns-then-is_mark-clause-goes : goal.returns-then-is_mark-clause-goes
returns-then-is_mark-clause-goes c = λ s L K w. skip (second_not (g.is_mark m.Semicolon) (sym c.is_mark.ensures ∙ c.if-is_mark.true) w)

pub returns-in_err-test-clause-goes : goal.returns-in_err-test-clause-goes
returns-in_err-test-clause-goes c = λ s L K w.
    let p = err_from_is_err_and c.from_residual.result c.from_residual.ensures.1 in
    rw (p.1, p.2) (c.in_err-test.ensures.goes s _ _ (first_not (g.is_mark m.Semicolon) (sym c.is_mark.ensures ∙ c.if-is_mark.false) w))

pub returns-clause-goes : goal.returns-clause-goes
returns-clause-goes c = λ s L K w. c.in_ok-test.ensures.goes s _ _ (first_not (g.is_mark m.Semicolon) (sym c.is_mark.ensures ∙ c.if-is_mark.false) w)
