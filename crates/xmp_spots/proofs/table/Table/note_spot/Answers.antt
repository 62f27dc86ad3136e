use Rattle.std.proofs.Common.{ap, sym, ◌∙◌}
use Rattle.xmp_spots.specs.declared.keys.Key.{Key}
use Rattle.xmp_spots.specs.Tables.{found}
use Rattle.xmp_spots.proofs.EnteringLaws.{number_there, first_some}
use Rattle.xmp_spots.proofs.table.Table.note_spot.Goals as goal

pub returns : goal.returns
returns c = λ k q.
    first_some c.new-key.result c.with_first.result c.with_first-key.result k c.args.array c.args.spot q c.args.refusal
    (found c.args.self.now k q) (found c.note_second-2.new.self k q) (found c.note_second-3.new.self k q)
    c.new-key.ensures c.with_first.ensures
    (c.with_first-key.ensures ∙ ap (λ m. record c.new-key.result { first = m }) c.new.ensures)
    (number_there c.args.spot.subscripts.first c.is_none.result c.is_none.ensures c.if-is_none.false) (c.in_ok-note_second-2.ensures k q) (c.in_ok-note_second-3.ensures k q)
