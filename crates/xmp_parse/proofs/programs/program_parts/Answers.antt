use Rattle.std.proofs.Common.{rules, ◌≡◌, ℕ, true, false, sym, refl, ap, ◌∙◌}
use Rattle.std.proofs.lemmas.Result.{err_from_is_err_and}
use Rattle.xmp_reader.proofs.Opening.{seq, into, skip, first, second, again, no_more}
use Rattle.xmp_reader.proofs.Listing.{split, whole, once_more, if_so, if_not, none_so_far, one_more}
use Rattle.xmp_parse.proofs.PartsRead.{next_part, at_end, ends_so, no_parts, one_part}
use Rattle.xmp_parse.proofs.programs.program_parts.Goals as goal

pub returns-in_err-part-clause-goes : goal.returns-in_err-part-clause-goes
returns-in_err-part-clause-goes c = λ s L K w.
    let p = err_from_is_err_and c.from_residual.result c.from_residual.ensures.1 in
    rw (p.1, p.2) (c.in_err-part.ensures.goes s _ _ (next_part _ (sym c.is_end.ensures ∙ c.loop-alloc-test.true) (c.loop-alloc.invariant.goes s L K w)))

pub returns-clause-goes : goal.returns-clause-goes
returns-clause-goes c = λ s L K w. at_end _ (sym c.is_end.ensures ∙ c.loop-alloc-test.false) (c.loop-alloc.invariant.goes s L K w)

pub returns-clause-last : goal.returns-clause-last
returns-clause-last c = ends_so _ _ c.loop-alloc.parts (sym c.is_end.ensures ∙ c.loop-alloc-test.false) c.loop-alloc.invariant.ends

pub loop-alloc-preserved : goal.loop-alloc-preserved
loop-alloc-preserved c =
    one_part c.args.r c.loop-alloc.rest c.in_ok-part.r c.loop-alloc.parts c.push.new.self c.loop-alloc.function c.is_function-function.result c.in_ok-part.part c.in_ok-push.ensures.ok c.is_function-function.ensures c.loop-alloc.invariant
    (λ s L K w. c.in_ok-part.ensures.goes s _ _ (next_part _ (sym c.is_end.ensures ∙ c.loop-alloc-test.true) w)) c.in_ok-part.ensures.reads c.in_ok-part.ensures.fits
