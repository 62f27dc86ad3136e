use Rattle.std.proofs.Common.{length}
use Rattle.xmp_lex.specs.declared.token.Mark.TheVariants as m
use Rattle.xmp_syntax.specs.declared.parts.Next.{Next}
use Rattle.xmp_syntax.specs.Reading.{many, ◌·◌}
use Rattle.xmp_syntax.specs.Grammar.{is_mark, comma}
use Rattle.xmp_syntax.specs.Spell.{next}
use Rattle.xmp_reader.proofs.Listing.{ListSoFar}
use Rattle.xmp_reader.proofs.parts.more_parts.Given as goal

abbrev pub invariant-loop-alloc : goal.invariant-loop-alloc
invariant-loop-alloc g l = ListSoFar _ (many (is_mark m.Comma) (comma · g.P.Part.rule)) (next g.P.Part.text) (λ y. g.P.Part.is_fit y.item) l.fn.r l.more l.rest

abbrev pub decreases-loop-alloc : goal.decreases-loop-alloc
decreases-loop-alloc g l = length l.rest.tokens.now
