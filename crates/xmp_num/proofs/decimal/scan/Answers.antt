use Rattle.std.proofs.Common.{◌≡◌, ap, sym, subst, ◌∙◌, take, ℕ, ℤ, Option}
use Rattle.std.specs.Char.{is_ascii_digit}
use Rattle.std.specs.List.{AllPass, prefix_len}
use Rattle.xmp_num.specs.Decimal.{Scans}
use Rattle.xmp_num.proofs.Runs.{run_passes}
use Rattle.xmp_num.proofs.Scanning.{scan_is, scan_reads, scan_only}
use Rattle.xmp_num.proofs.decimal.scan.Goals as goal

pub value_of-value-requires : goal.value_of-value-requires
value_of-value-requires c =
    let numeral = c.from-numeral.result.now in
    let run : take (prefix_len is_ascii_digit numeral) numeral ≡ c.front-2.result.now = sym (c.front-2.ensures ∙ ap (λ n. take n numeral) c.digits_len-digits.ensures.value) in
    subst (AllPass is_ascii_digit) run (run_passes is_ascii_digit numeral)

pub returns-clause-value : goal.returns-clause-value
returns-clause-value c =
    scan_is c.args.ty c.args.input.now c.args.at
    c.from-text.result.now c.from-signed.result.now c.from-numeral.result.now c.front.result.now c.front-2.result.now
    c.white_len-white.result c.sign_len-sign.result c.digits_len-digits.result c.value_of-value.result
    c.from-text.ensures.rest c.white_len-white.ensures.value
    c.from-signed.ensures.rest c.sign_len-sign.ensures.value
    c.from-numeral.ensures.rest c.digits_len-digits.ensures.value
    c.front.ensures c.front-2.ensures c.value_of-value.ensures

pub returns-clause-reads : goal.returns-clause-reads
returns-clause-reads c = subst (λ (r : Option ℤ × ℕ). Scans c.args.ty c.args.input.now c.args.at r.0 r.1) (sym (returns-clause-value c)) (scan_reads c.args.ty c.args.input.now c.args.at)

pub returns-clause-only : goal.returns-clause-only
returns-clause-only c value next scans = scan_only c.args.ty c.args.input.now c.args.at value next scans ∙ sym (returns-clause-value c)
