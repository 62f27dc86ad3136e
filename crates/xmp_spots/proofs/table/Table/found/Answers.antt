use Rattle.std.proofs.Common.{ap, ◌∙◌}
use Rattle.xmp_spots.specs.Tables.{seen_in}
use Rattle.xmp_spots.proofs.KeyLaws.{at_key}
use Rattle.xmp_spots.proofs.table.Table.found.Goals as goal

pub returns-in-Some : goal.returns-in-Some
returns-in-Some c =
    c.seen_by.ensures
    ∙ ap (λ x. seen_in x c.args.images) (c.in-Some.ensures.value ∙ at_key c.args.key c.args.self.now.nearest.entries)

pub returns-in-None : goal.returns-in-None
returns-in-None c =
    ap (λ x. seen_in x c.args.images) (c.in-None.ensures.value ∙ at_key c.args.key c.args.self.now.nearest.entries)
