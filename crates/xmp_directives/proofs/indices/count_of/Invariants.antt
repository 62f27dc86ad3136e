use Rattle.std.proofs.Common.{◌≡◌, ◌≤◌, take}
use Rattle.std.specs.Prelude.{◌==◌}
use Rattle.std.specs.List.{count_by}
use Rattle.xmp_directives.proofs.indices.count_of.Given as goal

-- those so far
abbrev pub invariant-numbers : goal.invariant-numbers
invariant-numbers l = (l.count ≤ l.number-index) × (l.count ≡ count_by (λ j. j == l.n) (take l.number-index l.numbers))
