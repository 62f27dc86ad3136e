use Rattle.std.proofs.Common.{sym, ◌∙◌, arith}
use Rattle.xmp_lex.specs.Pieces.{comment}
use Rattle.xmp_lex.proofs.SpaceLemmas.{comment_space_spliced}
use Rattle.xmp_lex.proofs.spaces.comment_space.Goals as goal

pub returns-then-is_spliced : goal.returns-then-is_spliced
returns-then-is_spliced c = comment_space_spliced c.args.text.now c.args.n c.requires.0 (sym c.is_spliced.ensures ∙ c.if-is_spliced.true)

pub returns-else-is_spliced : goal.returns-else-is_spliced
returns-else-is_spliced c = (comment c.args.n c.requires.0 (sym c.is_spliced.ensures ∙ c.if-is_spliced.false), c.requires.1, omega arith)
