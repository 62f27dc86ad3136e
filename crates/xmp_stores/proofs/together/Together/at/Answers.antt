use Rattle.std.proofs.Common.{◌<◌, length, refl, rules}
use Rattle.std.proofs.lemmas.Option.{slice_get_read}
use Rattle.xmp_stores.proofs.Beginnings.{context_at_node}
use Rattle.xmp_stores.proofs.together.Together.at.Goals as goal

pub returns-clause-context : goal.returns-clause-context
returns-clause-context c =
    let found = c.in_ok-layout.ensures.lookup in
    let inside : c.args.node < length c.args.self.now.layouts.now = search rules in
    context_at_node _ _ c.args.self.now.layouts.now c.in_ok-layout.layout.now _ c.args.self.now.packed
    (slice_get_read c.args.self.now.layouts.now (length c.args.self.now.layouts.now) c.args.node c.in_ok-layout.layout.now refl inside found.1)
