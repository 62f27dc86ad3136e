use Rattle.std.proofs.Common.{◌∙◌, sym, slice_index}
use Rattle.xmp_map.specs.Held.{extents, holds_in}
use Rattle.xmp_serial.proofs.Chunks.{all_placed}
use Rattle.xmp_serial.proofs.packing.reach_of.Goals as goal

pub returns-then-held-extent : goal.returns-then-held-extent
returns-then-held-extent c =
    all_placed (holds_in c.args.at.now.map c.args.at.now.node c.args.at.now.dimension) (slice_index (extents c.args.at.now.map) c.args.at.now.dimension)
    (sym c.requires ∙ c.if-held-extent.true ∙ c.extent.ensures)
