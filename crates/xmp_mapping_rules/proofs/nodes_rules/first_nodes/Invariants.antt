use Rattle.std.proofs.Common.{◌≡◌, drop, not}
use Rattle.std.specs.List.{position_from}
use Rattle.xmp_mapping_rules.proofs.nodes_rules.first_nodes.Given as goal

abbrev pub invariant-lines : goal.invariant-lines
invariant-lines l = position_from (λ x. not x.part) 0 l.lines ≡ position_from (λ x. not x.part) l.i (drop l.i l.lines)
