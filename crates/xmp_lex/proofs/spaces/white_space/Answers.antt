use Rattle.std.proofs.Common.{sym, ◌∙◌}
use Rattle.xmp_lex.proofs.SpaceLemmas.{white_found}
use Rattle.xmp_lex.proofs.spaces.white_space.Goals as goal

pub returns-then-byte-ne10 : goal.returns-then-byte-ne10
returns-then-byte-ne10 c = white_found c.args.text.now c.byte_at-byte.result c.byte_at-byte.ensures (sym c.is_white.ensures ∙ c.if-is_white.true) c.if-byte-ne10.true
