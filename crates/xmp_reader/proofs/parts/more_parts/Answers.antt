use Rattle.std.proofs.Common.{rules, ◌≡◌, ℕ, true, false, sym, refl, ap, ◌∙◌}
use Rattle.std.proofs.lemmas.Result.{err_from_is_err_and}
use Rattle.xmp_reader.proofs.Opening.{seq, into, skip, first, second, again, no_more}
use Rattle.xmp_reader.proofs.Listing.{split, whole, once_more, if_so, if_not, none_so_far, one_more}
use Rattle.std.proofs.Common.{List, ◌∷◌, arith, ◌<◌, length}
use Rattle.xmp_lex.specs.declared.token.Token.{Token}
use Rattle.xmp_lex.specs.declared.token.TokenKind.TheVariants as t
use Rattle.xmp_lex.specs.declared.token.Mark.TheVariants as m
use Rattle.xmp_syntax.specs.Spell.{◌at◌}
use Rattle.xmp_reader.proofs.parts.more_parts.Goals as goal

pub returns-in_err-comma-clause-goes : goal.returns-in_err-comma-clause-goes
returns-in_err-comma-clause-goes g c = λ s L K w.
    let p = err_from_is_err_and c.from_residual.result c.from_residual.ensures.1 in
    rw (p.1, p.2) (c.in_err-comma.ensures.goes s _ _ (seq (once_more (sym c.is_mark.ensures ∙ c.loop-alloc-test.true) (c.loop-alloc.invariant.goes s L K w))))

pub returns-in_err-item-clause-goes : goal.returns-in_err-item-clause-goes
returns-in_err-item-clause-goes g c = λ s L K w.
    let p = err_from_is_err_and c.from_residual-in_err-item.result c.from_residual-in_err-item.ensures.1 in
    rw (p.1, p.2) (c.in_err-item.ensures.goes s _ _ (c.in_ok-comma.ensures.goes s _ _ (seq (once_more (sym c.is_mark.ensures ∙ c.loop-alloc-test.true) (c.loop-alloc.invariant.goes s L K w)))))

pub returns-clause-goes : goal.returns-clause-goes
returns-clause-goes g c = λ s L K w. no_more (sym c.is_mark.ensures ∙ c.loop-alloc-test.false) (c.loop-alloc.invariant.goes s L K w)

pub loop-alloc-preserved : goal.loop-alloc-preserved
loop-alloc-preserved g c = rw c.in_ok-push.ensures.ok
    (one_more _ _ _ _ c.args.r c.loop-alloc.more c.loop-alloc.rest c.in_ok-item.r _ c.loop-alloc.invariant
    (λ s L K w. c.in_ok-item.ensures.goes s _ _ (c.in_ok-comma.ensures.goes s _ _ (seq (once_more (sym c.is_mark.ensures ∙ c.loop-alloc-test.true) w))))
    (c.in_ok-comma.ensures.reads ∙ ap (λ (l : List Token). (t.Mark m.Comma at c.in_ok-comma.comma) ∷ l) c.in_ok-item.ensures.reads) c.in_ok-item.ensures.fits
    (let a = c.in_ok-comma.ensures.shorter in let b = c.in_ok-item.ensures.shorter in omega arith))
