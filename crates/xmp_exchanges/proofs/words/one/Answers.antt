use Rattle.std.proofs.Common.{◌≡◌, ◌+◌, ◌-◌, ◌∙◌, ap, arith, take, drop}
use Rattle.xmp_exchanges.proofs.Lists.{one_word}
use Rattle.xmp_exchanges.proofs.words.one.Goals as goal

pub returns-then-at-words : goal.returns-then-at-words
returns-then-at-words c =
    let e : c.args.at + 1 - c.args.at ≡ 1 = omega arith in
    ap (λ n. take n (drop c.args.at c.args.words.now)) e ∙ one_word c.args.words.now c.args.at c.if-at-words.true
