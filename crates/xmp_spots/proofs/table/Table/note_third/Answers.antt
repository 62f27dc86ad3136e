use Rattle.std.proofs.Common.{ap, sym, ◌∙◌}
use Rattle.xmp_spots.specs.declared.keys.Key.{Key}
use Rattle.xmp_spots.specs.Tables.{found}
use Rattle.xmp_spots.proofs.EnteringLaws.{number_there, third_some}
use Rattle.xmp_spots.proofs.table.Table.note_third.Goals as goal

pub returns : goal.returns
returns c = λ k q.
    third_some c.args.key c.with_third-2.result c.with_third-3.result k c.args.third q c.args.by c.args.refusal
    (found c.args.self.now k q) (found c.note-2.new.self k q) (found c.note-3.new.self k q)
    c.with_third-2.ensures (c.with_third-3.ensures ∙ ap (λ m. record c.args.key { third = m }) c.new.ensures)
    (number_there c.args.third c.is_none.result c.is_none.ensures c.if-is_none.false) (c.in_ok-note-2.ensures k q) (c.in_ok-note-3.ensures k q)
