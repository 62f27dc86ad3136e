use Rattle.std.proofs.Common.{ap, sym, ◌∙◌}
use Rattle.xmp_spots.specs.declared.keys.Key.{Key}
use Rattle.xmp_spots.specs.Tables.{found}
use Rattle.xmp_spots.proofs.EnteringLaws.{number_there, second_some}
use Rattle.xmp_spots.proofs.table.Table.note_second.Goals as goal

pub returns : goal.returns
returns c = λ k q.
    second_some c.args.key c.with_second-2.result c.with_second-key.result k c.args.subscripts q c.args.by c.args.refusal
    (found c.args.self.now k q) (found c.note_third-2.new.self k q) (found c.note_third-3.new.self k q)
    c.with_second-2.ensures (c.with_second-key.ensures ∙ ap (λ m. record c.args.key { second = m }) c.new.ensures)
    (number_there c.args.subscripts.second c.is_none.result c.is_none.ensures c.if-is_none.false) (c.in_ok-note_third-2.ensures k q) (c.in_ok-note_third-3.ensures k q)
