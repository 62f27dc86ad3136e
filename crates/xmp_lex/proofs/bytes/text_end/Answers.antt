use Rattle.std.proofs.Common.{refl, arith, below_more, get_or, add-one, ap, ◌∙◌}
use Rattle.xmp_lex.specs.Bytes.{escaped, is_end, escapes}
use Rattle.xmp_lex.proofs.bytes.text_end.Goals as goal

pub loop-i-init : goal.loop-i-init
unfolding escaped
loop-i-init c = record { state = refl; before = λ k h. absurd (omega arith) }

pub loop-i-preserved : goal.loop-i-preserved
unfolding escaped
loop-i-preserved c = record {
  state = rw (add-one) (c.escapes-escaped.ensures ∙ ap (escapes (get_or c.args.text.now c.loop-i.i 0)) c.loop-i.invariant.state);
  before = below_more _ _ c.loop-i.invariant.before (λ e. let e2 = ap (is_end (get_or c.args.text.now c.loop-i.i 0)) c.loop-i.invariant.state in cc (c.is_end.ensures, c.if-is_end.false));
}
