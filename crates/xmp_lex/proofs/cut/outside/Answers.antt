use Rattle.std.proofs.Common.{sym, ◌∙◌}
use Rattle.xmp_lex.specs.Found.{state_of}
use Rattle.xmp_lex.proofs.CutLemmas.{white_piece}
use Rattle.xmp_lex.proofs.cut.outside.Goals as goal

pub returns-then-is_white-clause-ok : goal.returns-then-is_white-clause-ok
returns-then-is_white-clause-ok c = rw (c.gives_nothing.ensures, c.behind_white.ensures) (white_piece c.args.text.now (state_of c.args.mode) c.byte_at-first.result c.requires.mode c.byte_at-first.ensures (sym c.is_white.ensures ∙ c.if-is_white.true) c.requires.some)
