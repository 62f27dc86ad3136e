use Rattle.std.proofs.Common.{rules}
use Rattle.xmp_own_parts.proofs.Chosen.{IsApart, goes}
use Rattle.xmp_own_parts.proofs.nest.Nest.axis.Goals as goal

pub returns : goal.returns
returns c =
    let apart : IsApart c.args.self.now.heads.now c.args.depth c.args.head.now.index.number = record { other = c.is_apart.ensures (search rules) } in
    goes c.args.self.now c.args.depth c.args.head.now c.requires apart c.axis_of.result c.axis_of.ensures
