use Rattle.std.proofs.lemmas.Result.{err_from_is_err_and}
use Rattle.xmp_parse.proofs.blocks.mapping_item.Goals as goal

pub returns-in_err-mapping-clause-goes : goal.returns-in_err-mapping-clause-goes
returns-in_err-mapping-clause-goes c = λ s L K w.
    let p = err_from_is_err_and c.from_residual.result c.from_residual.ensures.1 in
    rw (p.1, p.2) (c.in_err-mapping.ensures.goes s _ _ w)

pub returns-clause-goes : goal.returns-clause-goes
returns-clause-goes c = λ s L K w. c.in_ok-mapping.ensures.goes s _ _ w
