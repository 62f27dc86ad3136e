use Rattle.std.proofs.Common.{◌≡◌, ◌++◌, map, length}
use Rattle.xmp_tree.proofs.spelling_program.tokens_of.Given as goal

-- the kinds so far and those of the rest are all
abbrev pub invariant-kinds : goal.invariant-kinds
invariant-kinds l = l.kinds.items ++ map (λ t. t.kind) l.rest ≡ map (λ t. t.kind) l.initial.rest

abbrev pub decreases-kinds : goal.decreases-kinds
decreases-kinds l = length l.rest
