use Rattle.std.proofs.Common.{subst}
use Rattle.xmp_lex.specs.Bytes.{IsLine}
use Rattle.xmp_lex.proofs.SpaceLemmas.{line_found}
use Rattle.xmp_lex.proofs.spaces.line_comment.Goals as goal

pub returns : goal.returns
returns c = line_found c.args.text.now c.line.result c.requires (subst (λ x. IsLine x c.line.result) c.from.ensures c.line.ensures)
