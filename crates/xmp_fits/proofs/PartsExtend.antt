-- The parts that are made at the end of a walk extend each world of it.
use Rattle.std.proofs.Common.{◌≡◌, ◌∙◌, refl, sym, ap, [], ℕ, List, Bool, true, false, Option, Some, None}
use Rattle.std.specs.Prelude.{slice_get}
use Rattle.std.proofs.lemmas.List.{append-nil}
use Rattle.xmp_map.specs.declared.template.Template.{Template}
use Rattle.xmp_prog.specs.declared.parts.Home.{Home}
use Rattle.xmp_prog.specs.declared.parts.Home.TheVariants as home
use Rattle.xmp_prog.specs.declared.parts.ProgParts.{ProgParts}
use Rattle.xmp_prog.specs.declared.statements.Stmt.{Stmt}
use Rattle.xmp_prog.specs.Tests.{is_image}
use Rattle.xmp_prog.specs.Fits.{has_coarrays}
use Rattle.xmp_names.specs.declared.names.Array.{Array}
use Rattle.xmp_names.specs.declared.mappings.Align.{Align}
use Rattle.xmp_names.specs.declared.world.World.{World}
use Rattle.xmp_parts.specs.Parts.{IsArray, IsHome, IsAligned, Made, kind_of}
use Rattle.xmp_mapping_rules.specs.MappingRules.{align_of}
use Rattle.xmp_parts.proofs.MadeLists.{made_here}
use Rattle.xmp_fits.proofs.Laters.{Begins, begins_trans, Later}
use Rattle.xmp_fits.proofs.GoodWorlds.{ArrayOf, Extends}
use Rattle.xmp_fits.proofs.GoodSteps.{begins_get}

-- What extends a world extends those before it.
pub extends_before : (p : ProgParts) (w v : World) → Later w v → Extends p v → Extends p w
extends_before p w v l x = record {
  scalars = begins_trans l.scalars x.scalars;
  functions = begins_trans l.functions x.functions;
  start = begins_trans l.start x.start;
  arrays = λ k a e. x.arrays k a (begins_get w.names.arrays v.names.arrays k a l.names.arrays e);
  kind = x.kind ∙ l.names.coarray;
}

all_of : {A : Type 0} (xs ys : List A) → ys ≡ xs → Begins xs ys
all_of xs ys e = record { more = []; is = e ∙ sym (append-nil xs) }

no_image : (w : World) (templates : List Template) (k : ℕ) (extents : List ℕ) (o : Option Align) (h : Home) → IsAligned w templates k extents o h → is_image h ≡ false
no_image w templates k extents None h e = ap is_image e
no_image w templates k extents (Some a) home.Copy e = absurd e
no_image w templates k extents (Some a) (home.Spread number m) e = refl
no_image w templates k extents (Some a) home.Image e = absurd e

image_is : (coarray : Bool) (w : World) (templates : List Template) (k : ℕ) (extents : List ℕ) (h : Home) → IsHome coarray w templates k extents h → is_image h ≡ coarray
image_is true w templates k extents h e = ap is_image e
image_is false w templates k extents h e = no_image w templates k extents (align_of w k) h e

kind_is : (coarray : Bool) → has_coarrays (kind_of coarray) ≡ coarray
kind_is true = refl
kind_is false = refl

pub made_extends : (main : Stmt) (w : World) (p : ProgParts) → Made main w p → Extends p w
made_extends main w p m = record {
  scalars = all_of w.scalars p.scalars m.scalars;
  functions = all_of w.functions p.functions m.functions;
  start = all_of w.start p.start m.start;
  arrays = array;
  kind = ap has_coarrays m.kind ∙ kind_is w.names.coarray;
}
  where
    array : (k : ℕ) (a : Array) → slice_get w.names.arrays k ≡ Some a → ArrayOf p k a
    array k a e = let x = made_here (IsArray w p.templates) w.names.arrays p.arrays k a m.arrays e in record {
      made = x.0;
      is = x.1;
      same = record { ty = x.2.ty; extents = x.2.extents; image = image_is a.coarray w p.templates k a.extents x.0.home x.2.home };
    }
