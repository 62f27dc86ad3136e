use Rattle.std.proofs.Common.{◌∙◌, ◌+◌, ◌*◌, sym, ap, get_or}
use Rattle.xmp_map.proofs.Three.{row_major_of}
use Rattle.xmp_exchanges.proofs.Lists.{some_by}
use Rattle.xmp_exchanges.proofs.leader.leader.Goals as goal

pub returns : goal.returns
returns c =
    let es = c.args.grid.now.sizes in
    let xs = c.args.set.now.first in
    some_by c.number-2.result (λ n e.
    e ∙ ap (λ m. m * get_or es 2 0 + get_or xs 2 0) (c.in_ok-number.ensures ∙ ap (λ m. m * get_or es 1 0 + get_or xs 1 0) c.from.ensures)
    ∙ sym (row_major_of es xs c.told-grid c.told-set.0)) c.number-2.ensures
