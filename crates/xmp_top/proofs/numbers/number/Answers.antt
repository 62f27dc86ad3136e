use Rattle.std.proofs.Common.{◌≡◌, sym, arith, true, rules}
use Rattle.std.specs.Str.{all_ascii_digits}
use Rattle.std.proofs.lemmas.Str.Parse.{parse_digits}
use Rattle.xmp_top.proofs.Unique.{own}
use Rattle.xmp_top.proofs.numbers.number.Goals as goal

pub returns-else-n-high-clause-some : goal.returns-else-n-high-clause-some
returns-else-n-high-clause-some c =
    let digits : all_ascii_digits c.args.text.now ≡ true = search rules in
    let p = rw c.in-Ok.is at (parse_digits own 64 c.args.text.now c.parse.result c.parse.ensures.value.0 digits) in
    record { some = p.0.0; few = omega arith; all = digits; worth = sym p.1; least = omega arith; most = omega arith }

pub returns-in-Err-clause-none : goal.returns-in-Err-clause-none
returns-in-Err-clause-none c = λ n h.
    let digits : all_ascii_digits c.args.text.now ≡ true = search rules in
    let p = rw c.in-Err.is at (parse_digits own 64 c.args.text.now c.parse.result c.parse.ensures.value.0 digits) in
    let worth = h.worth in
    let most = h.most in
    p (h.some, omega arith)

pub returns-then-n-low-clause-none : goal.returns-then-n-low-clause-none
returns-then-n-low-clause-none c = λ n h.
    let digits : all_ascii_digits c.args.text.now ≡ true = search rules in
    let p = rw c.in-Ok.is at (parse_digits own 64 c.args.text.now c.parse.result c.parse.ensures.value.0 digits) in
    let worth = h.worth in
    let least = h.least in
    omega (arith, p.1)

pub returns-then-n-high-clause-none : goal.returns-then-n-high-clause-none
returns-then-n-high-clause-none c = λ n h.
    let digits : all_ascii_digits c.args.text.now ≡ true = search rules in
    let p = rw c.in-Ok.is at (parse_digits own 64 c.args.text.now c.parse.result c.parse.ensures.value.0 digits) in
    let worth = h.worth in
    let most = h.most in
    omega (arith, p.1)
