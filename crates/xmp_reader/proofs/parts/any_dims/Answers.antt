use Rattle.std.proofs.Common.{rules, ◌≡◌, ℕ, true, false, sym, refl, ap, ◌∙◌}
use Rattle.std.proofs.lemmas.Result.{err_from_is_err_and}
use Rattle.xmp_reader.proofs.Opening.{seq, into, skip, first, second, again, no_more}
use Rattle.xmp_reader.proofs.Listing.{split, whole, once_more, if_so, if_not, none_so_far, one_more}
use Rattle.xmp_reader.proofs.parts.any_dims.Goals as goal

pub returns-in_err-dim-clause-goes : goal.returns-in_err-dim-clause-goes
returns-in_err-dim-clause-goes g c = λ s L K w.
    let p = err_from_is_err_and c.from_residual.result c.from_residual.ensures.1 in
    rw (p.1, p.2) (c.in_err-dim.ensures.goes s _ _ (once_more (sym c.is_mark.ensures ∙ c.loop-alloc-test.true) (c.loop-alloc.invariant.goes s L K w)))

pub returns-clause-goes : goal.returns-clause-goes
returns-clause-goes g c = λ s L K w. no_more (sym c.is_mark.ensures ∙ c.loop-alloc-test.false) (c.loop-alloc.invariant.goes s L K w)

pub loop-alloc-preserved : goal.loop-alloc-preserved
loop-alloc-preserved g c = rw c.in_ok-push.ensures.ok
    (one_more _ _ _ _ c.args.r c.loop-alloc.dims c.loop-alloc.rest c.in_ok-dim.r c.in_ok-dim.dim c.loop-alloc.invariant
    (λ s L K w. c.in_ok-dim.ensures.goes s _ _ (once_more (sym c.is_mark.ensures ∙ c.loop-alloc-test.true) w)) c.in_ok-dim.ensures.reads c.in_ok-dim.ensures.fits c.in_ok-dim.ensures.shorter)
