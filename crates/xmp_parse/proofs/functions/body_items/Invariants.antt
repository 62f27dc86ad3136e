use Rattle.std.proofs.Common.{length}
use Rattle.std.specs.Prelude.{not}
use Rattle.xmp_lex.specs.declared.token.Mark.TheVariants as m
use Rattle.xmp_syntax.specs.Parts as p
use Rattle.xmp_syntax.specs.Reading.{part, many}
use Rattle.xmp_syntax.specs.Grammar.{is_mark}
use Rattle.xmp_parse.specs.Blocks.{spell_item, FitsItem}
use Rattle.xmp_reader.proofs.Listing.{ListSoFar}
use Rattle.xmp_parse.proofs.functions.body_items.Given as goal

abbrev pub invariant-loop-alloc : goal.invariant-loop-alloc
invariant-loop-alloc l = ListSoFar _ (many (λ k. not (is_mark m.CloseBrace k)) (part p.block_item)) spell_item FitsItem l.fn.r l.items l.rest

abbrev pub decreases-loop-alloc : goal.decreases-loop-alloc
decreases-loop-alloc l = length l.rest.tokens.now
