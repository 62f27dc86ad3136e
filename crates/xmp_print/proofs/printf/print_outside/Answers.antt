use Rattle.std.proofs.Common.{◌++◌, ◌∷◌, ℕ, List, None, ap, ◌∙◌}
use Rattle.xmp_print.specs.Printing.{text_from}
use Rattle.xmp_print.proofs.Formats.{percent, plain_byte, pushed}
use Rattle.xmp_print.proofs.printf.print_outside.Goals as goal

pub returns-then-b-eq37 : goal.returns-then-b-eq37
returns-then-b-eq37 c = λ bs. ap (λ (t : List ℕ). c.args.out.now ++ t)
    (ap (λ (b : ℕ). text_from None (b ∷ bs) c.args.values.now) c.if-b-eq37.true ∙ percent bs c.args.values.now)

pub returns : goal.returns
returns c = λ bs. ap (λ (t : List ℕ). c.args.out.now ++ t) (plain_byte c.args.b bs c.args.values.now c.if-b-eq37.false)
    ∙ pushed c.args.out.now c.push.new.self c.args.b (text_from None bs c.args.values.now) c.in_ok-push.ensures.ok
