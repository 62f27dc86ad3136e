use Rattle.std.proofs.Common.{◌≡◌, ap, arith, drop}
use Rattle.std.proofs.lemmas.List.{drop_all}
use Rattle.xmp_instr.specs.FormatTests.{asked_from}
use Rattle.xmp_instr.proofs.FormatLaws.{asked_is}
use Rattle.xmp_instr.proofs.formats.asked.Goals as goal

pub returns-clause-count : goal.returns-clause-count
returns-clause-count c =
    let end : asked_from c.bytes.inside (drop c.bytes.byte-index c.args.format.now) ≡ 0 = ap (asked_from c.bytes.inside) (drop_all c.bytes.byte-index c.args.format.now c.bytes-test.false) in
    let all = c.bytes.invariant.0 in
    let is = asked_is c.args.format.now in
    omega (arith, end, all, is)
