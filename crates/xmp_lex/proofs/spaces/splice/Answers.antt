use Rattle.std.proofs.Common.{refl, sym, ◌∙◌}
use Rattle.xmp_lex.specs.Pieces.{two}
use Rattle.xmp_lex.proofs.spaces.splice.Goals as goal

pub returns-in-10 : goal.returns-in-10
returns-in-10 c = two 2 (sym c.byte_at.ensures ∙ c.if-byte_at-ne92.false) (sym c.byte_at-2.ensures ∙ c.in-10.is) refl
