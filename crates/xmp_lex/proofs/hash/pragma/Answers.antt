use Rattle.std.proofs.Common.{sym, ◌∙◌}
use Rattle.xmp_lex.proofs.Heads.{pragma_found, other_found}
use Rattle.xmp_lex.proofs.hash.pragma.Goals as goal

pub returns-then-is : goal.returns-then-is
returns-then-is c = pragma_found c.args.text.now c.from-after.result.now c.front.result.now c.args.m c.run-k.result c.requires.head c.requires.within c.from-after.ensures c.run-k.ensures c.front.ensures (c.is.ensures.yes c.if-is.true ∙ c.as_slice.ensures)

pub returns-else-is : goal.returns-else-is
returns-else-is c = rw c.gives_nothing.ensures (other_found c.args.text.now c.from-after.result.now c.front.result.now c.args.n c.args.m c.run-k.result c.requires.line_word c.requires.head c.requires.within c.from-after.ensures c.run-k.ensures c.front.ensures (λ z. c.is.ensures.no c.if-is.false (z ∙ sym c.as_slice.ensures)))
