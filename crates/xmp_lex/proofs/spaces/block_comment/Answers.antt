use Rattle.std.proofs.Common.{subst}
use Rattle.xmp_lex.specs.Bytes.{IsBlock}
use Rattle.xmp_lex.proofs.SpaceLemmas.{block_found}
use Rattle.xmp_lex.proofs.spaces.block_comment.Goals as goal

pub returns-in-Some : goal.returns-in-Some
returns-in-Some c = block_found c.args.text.now c.in-Some.n c.requires (subst (λ x. IsBlock x c.in-Some.n) c.from.ensures c.in-Some.ensures)
