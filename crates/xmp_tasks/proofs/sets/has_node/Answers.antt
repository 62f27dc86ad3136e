use Rattle.std.proofs.Common.{◌∙◌, arith, ap, sym}
use Rattle.xmp_map.specs.Nodes.{in_box}
use Rattle.xmp_map.proofs.Three.{place_of}
use Rattle.xmp_tasks.proofs.sets.has_node.Goals as goal

pub returns : goal.returns
returns c = c.lies_in_box.ensures ∙ sym (ap (in_box c.args.set.now.first c.args.set.now.many) (place_of c.args.grid.now.sizes c.args.node (omega arith)))
