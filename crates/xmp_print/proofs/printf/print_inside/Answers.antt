use Rattle.std.proofs.Common.{◌≡◌, ◌++◌, ◌∷◌, ℕ, List, Some, None, true, false, ap, ◌∙◌, sym, rules}
use Rattle.std.specs.Char.{is_ascii_digit}
use Rattle.xmp_num.specs.declared.types.Ty.TheVariants.{Int}
use Rattle.xmp_meaning.specs.Formats.{pieces_of}
use Rattle.xmp_print.specs.Printing.{text_from}
use Rattle.xmp_print.proofs.Formats.{digit, letter_d, letter_l, percent_inside, pushed}
use Rattle.xmp_print.proofs.printf.print_inside.Goals as goal

pub returns-in-Some : goal.returns-in-Some
returns-in-Some c = λ bs.
    let h : is_ascii_digit c.args.b ≡ true = search rules in
    ap (λ (t : List ℕ). c.args.out.now ++ t)
    (digit c.args.width c.args.b bs c.args.values.now h ∙ ap (λ (w : ℕ). text_from (Some w) bs c.args.values.now) (sym c.in-Some.ensures))

pub returns-then-b-eq108 : goal.returns-then-b-eq108
returns-then-b-eq108 c = λ bs. ap (λ (t : List ℕ). c.args.out.now ++ t)
    (ap (λ (b : ℕ). text_from (Some c.args.width) (b ∷ bs) c.args.values.now) c.if-b-eq108.true ∙ letter_l c.args.width bs c.args.values.now)

pub returns-then-b-eq37 : goal.returns-then-b-eq37
returns-then-b-eq37 c = λ bs. ap (λ (t : List ℕ). c.args.out.now ++ t)
    (ap (λ (b : ℕ). text_from (Some c.args.width) (b ∷ bs) c.args.values.now) c.if-b-eq37.true
    ∙ percent_inside c.args.width bs c.args.values.now
    ∙ ap (λ (b : ℕ). b ∷ text_from None bs c.args.values.now) (sym c.if-b-eq37.true))
    ∙ pushed c.args.out.now c.push.new.self c.args.b (text_from None bs c.args.values.now) c.in_ok-push.ensures.ok

pub returns : goal.returns
returns c = λ bs.
    let h : is_ascii_digit c.args.b ≡ false = search rules in
    ap (λ (t : List ℕ). c.args.out.now ++ t) (letter_d c.args.width c.args.b bs c.args.values.now h c.if-b-eq108.false c.if-b-eq37.false)
    ∙ c.in_ok-values.ensures {u = tt} Int (pieces_of bs)
