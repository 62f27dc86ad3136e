use Rattle.std.proofs.Common.{refl, ◌∙◌, arith, below_more}
use Rattle.xmp_lex.specs.Bytes.{escaped, content}
use Rattle.xmp_lex.proofs.TokenLemmas.{content_next, escaped_next, good_escape}
use Rattle.xmp_lex.proofs.tokens.meant.Goals as goal

pub loop-i-init : goal.loop-i-init
unfolding escaped content
loop-i-init c = record { state = refl; out = c.new-out.ensures; before = λ j h. absurd (omega arith) }

pub loop-i-preserved : goal.loop-i-preserved
loop-i-preserved c =
    let p = rw c.if-not-branch.false at c.in_ok-push_meant.ensures in
    record {
      state = c.escapes-escaped.ensures ∙ escaped_next c.args.text.now c.loop-i.i c.loop-i.escaped c.loop-i.invariant.state;
      out = content_next c.args.text.now c.loop-i.i c.loop-i.escaped _ _ c.loop-i.invariant.state c.loop-i.invariant.out p.0;
      before = below_more _ _ c.loop-i.invariant.before (good_escape c.args.text.now c.loop-i.i c.loop-i.escaped c.loop-i.invariant.state p.1);
    }
