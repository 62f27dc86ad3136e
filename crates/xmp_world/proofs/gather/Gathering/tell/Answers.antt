use Rattle.std.proofs.Common.{◌∙◌}
use Rattle.xmp_world.proofs.GatherLaws.{never_image}
use Rattle.xmp_world.proofs.gather.Gathering.tell.Goals as goal

pub unreachable-requires : goal.unreachable-requires
unreachable-requires c =
    let g = c.args.self.now in
    never_image g.parts.now c.requires.view g.world.now c.args.array (c.requires.home ∙ c.in-Image.is)
