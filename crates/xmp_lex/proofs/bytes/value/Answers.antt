use Rattle.std.proofs.Common.{◌*◌, refl, ap, ◌∙◌, arith, below_more}
use Rattle.xmp_lex.specs.Bytes.{value}
use Rattle.xmp_lex.proofs.Values.{next, too_large}
use Rattle.xmp_lex.proofs.bytes.value.Goals as goal

pub loop-byte-init : goal.loop-byte-init
unfolding value
loop-byte-init c = record { sum = refl; fits = omega arith; each = λ k h. absurd (omega arith) }

pub returns-in-None : goal.returns-in-None
returns-in-None c = λ v is.
    let e = ap (λ s. s * c.args.base) c.loop-byte.invariant.sum in let h = c.in-None.ensures in let d = c.from-digit.ensures ∙ c.digit.ensures in
    too_large c.args.base c.args.digits.now c.loop-byte.byte-index v c.requires.one c.loop-byte-test.true (omega arith) is

pub loop-byte-preserved : goal.loop-byte-preserved
loop-byte-preserved c =
    let e = ap (λ s. s * c.args.base) c.loop-byte.invariant.sum in let h = c.in-Some.ensures.0 in let d = c.from-digit.ensures ∙ c.digit.ensures in
    let n = next c.args.base c.args.digits.now c.loop-byte.byte-index in
    record {
      sum = omega arith;
      fits = c.in-Some.ensures.1;
      each = below_more _ _ c.loop-byte.invariant.each (let i = c.if-base-digit.false in omega arith);
    }
