use Rattle.std.proofs.Common.{rules, ◌≡◌, ℕ, true, false, sym, refl, ap, ◌∙◌}
use Rattle.std.proofs.lemmas.Result.{err_from_is_err_and}
use Rattle.xmp_reader.proofs.Opening.{seq, into, skip, first, second, again, no_more}
use Rattle.xmp_reader.proofs.Listing.{split, whole, once_more, if_so, if_not, none_so_far, one_more}
use Rattle.xmp_syntax.specs.Grammar as g
use Rattle.xmp_lex.specs.declared.token.Mark.TheVariants as m
use Rattle.xmp_parse.proofs.ItemsRead.{once_more_not, no_more_not, items_each, items_fit}
use Rattle.xmp_parse.proofs.functions.body_items.Goals as goal

pub returns-in_err-item-clause-goes : goal.returns-in_err-item-clause-goes
returns-in_err-item-clause-goes c = λ s L K w.
    let p = err_from_is_err_and c.from_residual.result c.from_residual.ensures.1 in
    rw (p.1, p.2) (c.in_err-item.ensures.goes s _ _ (once_more_not (g.is_mark m.CloseBrace) (sym c.is_mark.ensures ∙ c.loop-alloc-test.true) (c.loop-alloc.invariant.goes s L K w)))

pub returns-clause-goes : goal.returns-clause-goes
returns-clause-goes c = λ s L K w. no_more_not (g.is_mark m.CloseBrace) (sym c.is_mark.ensures ∙ c.loop-alloc-test.false) (c.loop-alloc.invariant.goes s L K w)

pub returns-clause-reads : goal.returns-clause-reads
returns-clause-reads c = c.loop-alloc.invariant.reads ∙ items_each c.loop-alloc.items c.loop-alloc.rest.tokens.now

pub returns-clause-fits : goal.returns-clause-fits
returns-clause-fits c = items_fit c.loop-alloc.items c.loop-alloc.invariant.fits

pub loop-alloc-preserved : goal.loop-alloc-preserved
loop-alloc-preserved c = rw c.in_ok-push.ensures.ok
    (one_more _ _ _ _ c.args.r c.loop-alloc.items c.loop-alloc.rest c.in_ok-item.r c.in_ok-item.item c.loop-alloc.invariant
    (λ s L K w. c.in_ok-item.ensures.goes s _ _ (once_more_not (g.is_mark m.CloseBrace) (sym c.is_mark.ensures ∙ c.loop-alloc-test.true) w)) c.in_ok-item.ensures.reads c.in_ok-item.ensures.fits c.in_ok-item.ensures.shorter)
