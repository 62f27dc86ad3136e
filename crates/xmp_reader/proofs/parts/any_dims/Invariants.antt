use Rattle.std.proofs.Common.{length}
use Rattle.xmp_syntax.specs.declared.parts.Inside.{Inside}
use Rattle.xmp_syntax.specs.Grammar.{any_dims}
use Rattle.xmp_syntax.specs.Spell.{in_brackets}
use Rattle.xmp_reader.proofs.Listing.{ListSoFar}
use Rattle.xmp_reader.proofs.parts.any_dims.Given as goal

abbrev pub invariant-loop-alloc : goal.invariant-loop-alloc
invariant-loop-alloc g l = ListSoFar _ (any_dims g.P.Part.rule) (in_brackets g.P.Part.text) (λ y. g.P.Part.is_fit y.item) l.fn.r l.dims l.rest

abbrev pub decreases-loop-alloc : goal.decreases-loop-alloc
decreases-loop-alloc g l = length l.rest.tokens.now
