use Rattle.std.proofs.Common.{◌++◌}
use Rattle.xmp_first.specs.Layout.{value_text}
use Rattle.xmp_first.proofs.Expressions.{operand_one}
use Rattle.xmp_first.proofs.Programs.{split_of}
use Rattle.xmp_first.proofs.program.value_at.Goals as goal

pub returns-clause-none : goal.returns-clause-none
returns-clause-none c = λ value rest x e n.
    let p = split_of c.args.text.now value rest x e n in
    let same = operand_one c.args.text.now c.in-Some.item p.item c.in-Some.rest.now (value_text p.tail ++ rest) c.in-Some.ensures.some p.operand in
    let none = rw c.in-None.is at c.in_ok-rest.ensures.none in
    none p.tail rest (record { valid = p.valid; few = p.few; text_is = same.1; ends = n })
