use Rattle.std.proofs.Common.{◌≡◌, ℤ, List, IsTrue, map, subst, sym}
use Rattle.std.specs.List.{list_all}
use Rattle.xmp_map.specs.Nodes.{makes_grid}
use Rattle.xmp_names.specs.Sizes.{natural}
use Rattle.xmp_mapping_rules.specs.MappingRules.{nodes_of}
use Rattle.xmp_parts.specs.Narrow.{is_narrow}
use Rattle.xmp_parts.proofs.Rows.{makes, narrow_nodes, right_nodes}
use Rattle.xmp_parts.proofs.elaborated.place_all.Goals as goal

pub made_grid-requires-clause-narrow : goal.made_grid-requires-clause-narrow
made_grid-requires-clause-narrow c =
    let e : nodes_of c.args.lines.now ≡ c.nodes.result.now = sym c.nodes.ensures in
    subst (λ (ns : List ℤ). IsTrue (list_all is_narrow ns)) e (narrow_nodes (nodes_of c.args.lines.now) (right_nodes c.args.lines.now c.requires.unbroken c.requires.count))

pub made_grid-requires-clause-right : goal.made_grid-requires-clause-right
made_grid-requires-clause-right c =
    let e : nodes_of c.args.lines.now ≡ c.nodes.result.now = sym c.nodes.ensures in
    subst (λ (ns : List ℤ). IsTrue (makes_grid (map natural ns))) e (makes (nodes_of c.args.lines.now) (right_nodes c.args.lines.now c.requires.unbroken c.requires.count))
