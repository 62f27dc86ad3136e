-- The declaration of an array tells its type, extents and home.
use Rattle.std.proofs.Common.{◌≡◌, ◌∙◌, sym, ap₂, ℕ, List, Bool, true, false, Option, Some, None, slice_get}
use Rattle.xmp_map.specs.declared.array_map.ArrayMap.{ArrayMap}
use Rattle.xmp_map.specs.declared.template.Template.{Template}
use Rattle.xmp_prog.specs.declared.parts.Home.{Home}
use Rattle.xmp_prog.specs.declared.parts.Home.TheVariants.{Copy, Spread, Image}
use Rattle.xmp_prog.specs.declared.parts.Array as made_array
use Rattle.xmp_names.specs.declared.names.Array.{Array}
use Rattle.xmp_names.specs.declared.mappings.Align.{Align}
use Rattle.xmp_names.specs.declared.world.World.{World}
use Rattle.xmp_mapping_rules.specs.MappingRules.{align_of}
use Rattle.xmp_parts.specs.Parts.{IsAligned, IsArray, IsHome, IsMapOver}
use Rattle.xmp_drive.proofs.SameFields.{same_map}

-- the first align and shadow of an array tell its map
one_map : (w : World) (k : ℕ) (es : List ℕ) (a : Align) (m n : ArrayMap) (t : Option Template) → IsMapOver w k es a m t → IsMapOver w k es a n t → m ≡ n
one_map w k es a m n None M N = absurd M
one_map w k es a m n (Some t) M N = same_map m n (M.template ∙ sym N.template) (M.aligned ∙ sym N.aligned) (M.dims ∙ sym N.dims)

-- the home of an array that is no coarray, by its first align or none
one_place : (w : World) (ts : List Template) (k : ℕ) (es : List ℕ) (o : Option Align) (h i : Home) → IsAligned w ts k es o h → IsAligned w ts k es o i → h ≡ i
one_place w ts k es None h i H I = H ∙ sym I
one_place w ts k es (Some a) (Spread n l) (Spread m r) H I = ap₂ Spread (H.0 ∙ sym I.0) (one_map w k es a l r (slice_get ts a.template) H.1 I.1)
one_place w ts k es (Some a) (Spread n l) Copy H I = absurd I
one_place w ts k es (Some a) (Spread n l) Image H I = absurd I
one_place w ts k es (Some a) Copy i H I = absurd H
one_place w ts k es (Some a) Image i H I = absurd H

-- the home of an array
one_home : (coarray : Bool) (w : World) (ts : List Template) (k : ℕ) (es : List ℕ) (h i : Home) → IsHome coarray w ts k es h → IsHome coarray w ts k es i → h ≡ i
one_home true w ts k es h i H I = H ∙ sym I
one_home false w ts k es h i H I = one_place w ts k es (align_of w k) h i H I

-- an array
pub one_array : (w : World) (ts : List Template) (k : ℕ) (a : Array) (x y : made_array.Array) → IsArray w ts k a x → IsArray w ts k a y → x ≡ y
one_array w ts k a x y X Y =
    let home : x.home ≡ y.home = one_home a.coarray w ts k a.extents x.home y.home X.home Y.home in
    λ i. record { ty = (X.ty ∙ sym Y.ty) i; extents = (X.extents ∙ sym Y.extents) i; home = home i }
