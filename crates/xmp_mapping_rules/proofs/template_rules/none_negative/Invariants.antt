use Rattle.std.proofs.Common.{◌≡◌, drop}
use Rattle.std.specs.List.{list_all}
use Rattle.std.specs.Prelude.{int_le, pos}
use Rattle.xmp_mapping_rules.proofs.template_rules.none_negative.Given as goal

abbrev pub invariant-lengths : goal.invariant-lengths
invariant-lengths l = list_all (λ n. int_le (pos 0) n) l.lengths ≡ list_all (λ n. int_le (pos 0) n) (drop l.n-index l.lengths)
