use Rattle.xmp_lex.proofs.SpaceLemmas.{along_start, along_step, along_end, along_open}
use Rattle.xmp_lex.proofs.spaces.line_spaces.Goals as goal

pub returns-in-Nothing : goal.returns-in-Nothing
returns-in-Nothing c = along_end _ _ _ c.loop-k.invariant c.in-Nothing.ensures.0 c.in-Nothing.ensures.1

pub returns-in-Unclosed : goal.returns-in-Unclosed
returns-in-Unclosed c = along_open _ _ _ c.loop-k.invariant c.in-Unclosed.ensures

pub loop-k-init : goal.loop-k-init
loop-k-init c = along_start c.args.text.now

pub loop-k-preserved : goal.loop-k-preserved
loop-k-preserved c = rw c.from-rest.ensures (along_step _ _ _ _ c.loop-k.invariant c.in-Some.ensures.0 c.in-Some.ensures.1)
