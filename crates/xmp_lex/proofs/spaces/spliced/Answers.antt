use Rattle.std.proofs.Common.{refl, sym, ◌∙◌}
use Rattle.xmp_lex.specs.Pieces.{three}
use Rattle.xmp_lex.proofs.spaces.spliced.Goals as goal

pub returns-then-byte_at-eq10 : goal.returns-then-byte_at-eq10
returns-then-byte_at-eq10 c = three 3 c.requires.back c.requires.carriage (sym c.byte_at.ensures ∙ c.if-byte_at-eq10.true) refl
