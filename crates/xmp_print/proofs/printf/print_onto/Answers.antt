use Rattle.std.proofs.Common.{◌≤◌, ◌++◌, ℕ, List, length, ap, ◌∙◌, sym, arith}
use Rattle.std.proofs.lemmas.List.{append-nil, drop_all}
use Rattle.xmp_print.specs.Printing.{text_from}
use Rattle.xmp_print.proofs.Formats.{text_end}
use Rattle.xmp_print.proofs.printf.print_onto.Goals as goal

pub returns : goal.returns
returns c =
    let over : length c.args.format.now ≤ c.bytes.b-index = omega arith in
    sym (c.bytes.invariant
    ∙ ap (λ (bs : List ℕ). c.bytes.out ++ text_from c.bytes.width bs c.bytes.left.now) (drop_all c.bytes.b-index c.args.format.now over)
    ∙ ap (λ (t : List ℕ). c.bytes.out ++ t) (text_end c.bytes.width c.bytes.left.now)
    ∙ append-nil c.bytes.out)
