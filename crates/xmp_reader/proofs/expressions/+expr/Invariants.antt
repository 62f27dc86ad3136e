use Rattle.std.proofs.Common.{length, ◌+◌, ◌*◌, ◌≤◌}
use Rattle.xmp_reader.specs.SoFar.{LevelSoFar, LinksSoFar, SubscriptsSoFar, RestSoFar}
use Rattle.xmp_syntax.specs.View.{expr_view, links_view, subscripts_view, rest_view}
use Rattle.xmp_reader.proofs.expressions.+expr.Given as goal

abbrev pub decreases-expression : goal.decreases-expression
decreases-expression l = 16 * length l.r.tokens.now + 4

abbrev pub decreases-level : goal.decreases-level
decreases-level l = 16 * length l.r.tokens.now + 3

abbrev pub decreases-longer : goal.decreases-longer
decreases-longer l = 16 * length l.r.tokens.now + 1

abbrev pub decreases-both_branches : goal.decreases-both_branches
decreases-both_branches l = 16 * length l.r.tokens.now

abbrev pub decreases-boxed : goal.decreases-boxed
decreases-boxed l = 16 * length l.r.tokens.now + 5

abbrev pub decreases-links : goal.decreases-links
decreases-links l = 16 * length l.r.tokens.now

abbrev pub decreases-operand : goal.decreases-operand
decreases-operand l = 16 * length l.r.tokens.now + 2

abbrev pub decreases-parens_or_cast : goal.decreases-parens_or_cast
decreases-parens_or_cast l = 16 * length l.r.tokens.now

abbrev pub decreases-named : goal.decreases-named
decreases-named l = 16 * length l.r.tokens.now

abbrev pub decreases-subscripts : goal.decreases-subscripts
decreases-subscripts l = 16 * length l.r.tokens.now

abbrev pub decreases-image : goal.decreases-image
decreases-image l = 16 * length l.r.tokens.now

abbrev pub decreases-arguments : goal.decreases-arguments
decreases-arguments l = 16 * length l.r.tokens.now

abbrev pub decreases-more_arguments : goal.decreases-more_arguments
decreases-more_arguments l = 16 * length l.r.tokens.now

abbrev pub invariant-links-loop-alloc : goal.invariant-links-loop-alloc
invariant-links-loop-alloc l = LinksSoFar l.n l.below l.colon l.r (links_view l.links) l.rest

abbrev pub decreases-links-loop-alloc : goal.decreases-links-loop-alloc
decreases-links-loop-alloc l = length l.rest.tokens.now

abbrev pub invariant-subscripts-loop-alloc : goal.invariant-subscripts-loop-alloc
invariant-subscripts-loop-alloc l = SubscriptsSoFar l.r (subscripts_view l.subscripts) l.rest

abbrev pub decreases-subscripts-loop-alloc : goal.decreases-subscripts-loop-alloc
decreases-subscripts-loop-alloc l = length l.rest.tokens.now

abbrev pub invariant-more_arguments-loop-alloc : goal.invariant-more_arguments-loop-alloc
invariant-more_arguments-loop-alloc l = RestSoFar l.r (rest_view l.more) l.rest

abbrev pub decreases-more_arguments-loop-alloc : goal.decreases-more_arguments-loop-alloc
decreases-more_arguments-loop-alloc l = length l.rest.tokens.now

abbrev pub invariant-level-loop-below : goal.invariant-level-loop-below
invariant-level-loop-below l = LevelSoFar l.below l.n l.colon l.r (expr_view l.made) l.rest
