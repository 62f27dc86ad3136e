use Rattle.std.proofs.Common.{◌≡◌, drop}
use Rattle.std.specs.Prelude.{◌==◌}
use Rattle.std.specs.List.{count_by, list_all}
use Rattle.xmp_directives.proofs.indices.each_in_one.Given as goal

-- what is left to do from here gives what the whole gives
abbrev pub invariant-names : goal.invariant-names
invariant-names l = list_all (λ i. count_by (λ j. j == i) l.slots == 1) l.fn.names ≡ list_all (λ i. count_by (λ j. j == i) l.slots == 1) (drop l.name-index l.names)
