use Rattle.std.proofs.Common.{sym, ◌∙◌, arith}
use Rattle.xmp_lex.specs.LineStates as state
use Rattle.xmp_lex.specs.Cut.{close}
use Rattle.xmp_lex.specs.Pieces.{splice}
use Rattle.xmp_lex.proofs.CutLemmas.{not_white}
use Rattle.xmp_lex.proofs.cut.in_line.Goals as goal

pub returns-then-byte_at-eq10-clause-ok : goal.returns-then-byte_at-eq10-clause-ok
returns-then-byte_at-eq10-clause-ok c = (close state.directive tt (sym c.byte_at.ensures ∙ c.if-byte_at-eq10.true), omega arith, omega arith, omega arith)

pub plain-requires-clause-splice : goal.plain-requires-clause-splice
plain-requires-clause-splice c = λ e n j. c.requires.line_space.0 n (splice n j)

pub plain-requires-clause-block : goal.plain-requires-clause-block
plain-requires-clause-block c = c.requires.line_space.2

pub plain-requires-clause-line : goal.plain-requires-clause-line
plain-requires-clause-line c = c.requires.line_space.3

pub plain-requires-clause-white : goal.plain-requires-clause-white
plain-requires-clause-white c = not_white c.args.text.now c.requires.line_space.0 (λ e. c.if-byte_at-eq10.false (c.byte_at.ensures ∙ e))
