use Rattle.std.proofs.Common.{◌≡◌, drop}
use Rattle.std.specs.List.{list_all}
use Rattle.std.specs.Prelude.{int_le, pos}
use Rattle.xmp_mapping_rules.proofs.nodes_rules.all_positive.Given as goal

abbrev pub invariant-sizes : goal.invariant-sizes
invariant-sizes l = list_all (λ n. int_le (pos 1) n) l.sizes ≡ list_all (λ n. int_le (pos 1) n) (drop l.size-index l.sizes)
