use Rattle.std.proofs.Common.{◌≡◌, ◌++◌, drop, map}
use Rattle.xmp_meaning.specs.Exchanges.{values_of}
use Rattle.xmp_own_parts.proofs.end.values_at.Given as goal

abbrev pub invariant-reductions : goal.invariant-reductions
invariant-reductions l = values_of l.state (map (λ r. r.variable.number) l.reductions) ≡ l.values ++ values_of l.state (map (λ r. r.variable.number) (drop l.reduction-index l.reductions))
