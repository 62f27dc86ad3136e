use Rattle.std.proofs.Common.{sym, ◌∙◌, arith}
use Rattle.xmp_lex.specs.LineStates as state
use Rattle.xmp_lex.specs.Cut.{close, skip}
use Rattle.xmp_lex.proofs.cut.ignored.Goals as goal

pub returns-then-byte_at-eq10 : goal.returns-then-byte_at-eq10
returns-then-byte_at-eq10 c = rw c.gives_nothing.ensures (close state.ignored tt (sym c.byte_at.ensures ∙ c.if-byte_at-eq10.true), omega arith, omega arith, tt)

pub returns-else-byte_at-eq10 : goal.returns-else-byte_at-eq10
returns-else-byte_at-eq10 c = rw c.gives_nothing-else-byte_at-eq10.ensures (skip (λ e. c.if-byte_at-eq10.false (c.byte_at.ensures ∙ e)) c.requires.line_space.0 c.requires.line_space.1, omega arith, omega arith, tt)
