use Rattle.std.proofs.Common.{rules, ◌≡◌, ℕ, true, false, sym, refl, ◌∙◌}
use Rattle.std.proofs.lemmas.Result.{err_from_is_err_and}
use Rattle.xmp_reader.proofs.Opening.{image_alone, seq, same_around}
use Rattle.xmp_reader.proofs.reader.Reader.image_open.Goals as goal

pub returns-in_err-mark-clause-goes : goal.returns-in_err-mark-clause-goes
returns-in_err-mark-clause-goes c = λ s L K w.
    let p = err_from_is_err_and c.from_residual.result c.from_residual.ensures.1 in
    rw (p.1, p.2) (c.in_err-mark.ensures.goes s _ _ (image_alone c.args.colon c.if-colon.false c.requires.image w))

pub returns-in_err-open-clause-goes : goal.returns-in_err-open-clause-goes
returns-in_err-open-clause-goes c = λ s L K w.
    let p = err_from_is_err_and c.from_residual-in_err-open.result c.from_residual-in_err-open.ensures.1 in
    rw (p.1, p.2) (c.in_err-open.ensures.goes s _ _ (seq (c.in_ok-mark.ensures.goes s _ _ (image_alone c.args.colon c.if-colon.false c.requires.image w))))

pub returns-clause-goes : goal.returns-clause-goes
returns-clause-goes c = λ s L K w.
    same_around c.in_ok-mark.ensures.depth.0 c.in_ok-mark.ensures.depth.1
    (seq (c.in_ok-open.ensures.goes s _ _ (seq (c.in_ok-mark.ensures.goes s _ _ (image_alone c.args.colon c.if-colon.false c.requires.image w)))))
