use Rattle.std.proofs.Common.{rules, sym}
use Rattle.std.proofs.lemmas.List.{with_items_is}
use Rattle.xmp_stores.proofs.together.Together.all_do.Goals as goal

pub returns : goal.returns
returns g c = rw (sym c.nodes.view_is) (rw (with_items_is c.nodes.inside.stores c.first_and_others.new.stores (search rules)) (c.first_and_others.ensures _ (search rules)))
