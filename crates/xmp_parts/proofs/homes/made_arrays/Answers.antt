use Rattle.std.proofs.Common.{◌+◌, subst, sym, take}
use Rattle.xmp_parts.specs.Parts.{EachMade, IsArray}
use Rattle.xmp_parts.proofs.MadeLists.{made_more}
use Rattle.xmp_parts.proofs.homes.made_arrays.Goals as goal

pub arrays-preserved : goal.arrays-preserved
arrays-preserved c =
    subst (λ made. EachMade (IsArray c.args.lines.now c.args.templates.now) 0 (take (c.arrays.k + 1) c.as_slice-arrays.result.now) made) (sym c.in_ok-push.ensures.ok)
    (made_more (IsArray c.args.lines.now c.args.templates.now) c.as_slice-arrays.result.now c.arrays.made c.arrays.k c.index-arrays-k.result c.in_ok-array_at.field-0
    c.arrays-test.true c.index-arrays-k.is c.arrays.invariant c.in_ok-array_at.ensures)
