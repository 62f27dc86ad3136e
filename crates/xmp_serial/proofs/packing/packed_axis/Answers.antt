use Rattle.std.proofs.Common.{◌≡◌, ◌<◌, ℕ, refl, ap, ◌∙◌, subst, sym, arith, slice_index}
use Rattle.xmp_dist.specs.Count.{count_below}
use Rattle.xmp_map.specs.Held.{extents, holds_in}
use Rattle.xmp_serial.proofs.Packed.{index_within}
use Rattle.xmp_serial.proofs.packing.packed_axis.Goals as goal

pub returns-clause-axis : goal.returns-clause-axis
returns-clause-axis c =
    let e : slice_index (extents c.args.m.now) c.args.d ≡ c.args.extent = omega arith in
    record {
      extent_is = refl;
      count = c.held-held.ensures ∙ ap (count_below (holds_in c.args.m.now c.args.node c.args.d)) e;
      position = λ x h. (let P : ℕ → Type 0 = λ n. x < n in c.reach_of.ensures x (subst P (sym e) h));
    }

pub returns-clause-there : goal.returns-clause-there
returns-clause-there c =
    let some : 0 < slice_index (extents c.args.m.now) c.args.d = omega arith in
    index_within (extents c.args.m.now) c.args.d some
