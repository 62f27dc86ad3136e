-- A program has a coarray where its kind is Coarray, and none where it is Global.
use Rattle.std.proofs.Common.{◌≡◌, ◌∙◌, refl, sym, ap, subst, ℕ, ◌+◌, List, [], ◌∷◌, Bool, true, false, Option, Some, None, inr}
use Rattle.std.specs.Prelude.{◌||◌, if◌then◌else◌, option_map}
use Rattle.std.specs.List.{list_any}
use Rattle.std.proofs.lemmas.Option.{none-some}
use Rattle.xmp_base.specs.declared.place.Place.{Place}
use Rattle.xmp_map.specs.declared.template.Template.{Template}
use Rattle.xmp_syntax.specs.declared.program.Tree.{Tree}
use Rattle.xmp_prog.specs.declared.parts.Home.{Home}
use Rattle.xmp_prog.specs.declared.parts.Home.TheVariants as home
use Rattle.xmp_prog.specs.declared.parts.Array as made_array
use Rattle.xmp_prog.specs.declared.parts.ProgParts.{ProgParts}
use Rattle.xmp_prog.specs.declared.statements.Stmt.{Stmt}
use Rattle.xmp_prog.specs.Tests.{is_image}
use Rattle.xmp_names.specs.declared.mappings.Align.{Align}
use Rattle.xmp_names.specs.declared.names.Array.{Array}
use Rattle.xmp_names.specs.declared.world.World.{World}
use Rattle.xmp_names.specs.Walk.{Step, Gave}
use Rattle.xmp_mapping_rules.specs.MappingRules.{align_of}
use Rattle.xmp_walk.specs.Program.{program_of}
use Rattle.xmp_parts.specs.Parts.{EachMade, IsAligned, IsArray, IsHome, IsParts, MadeAfter}
use Rattle.xmp_parts.specs.Verdict.{IsVerdict, world_after}
use Rattle.xmp_drive.specs.Verdict.{arrays_of, coarray_refusal, first_coarray, IsTreeVerdict}

-- a home that is no image's own is that of no coarray
not_coarray : (w : World) (ts : List Template) (k : ℕ) (extents : List ℕ) (coarray : Bool) (h : Home) → IsHome coarray w ts k extents h → is_image h ≡ false
    → coarray ≡ false
not_coarray w ts k extents true h is no_image = sym (ap is_image is) ∙ no_image
not_coarray w ts k extents false h is no_image = refl

none_here : (a : Array) (more : List Array) → a.coarray ≡ false → first_coarray more ≡ None → first_coarray (a ∷ more) ≡ None
none_here a more e none = ap (λ b. if b then Some a.at else first_coarray more) e ∙ none

left_false : (a b : Bool) → (a || b) ≡ false → a ≡ false
left_false false b e = refl
left_false true b e = e

right_false : (a b : Bool) → (a || b) ≡ false → b ≡ false
right_false false b e = e
right_false true false e = refl
right_false true true e = e

none_made : (w : World) (ts : List Template) (k : ℕ) (arrays : List Array) (made : List made_array.Array) → EachMade (IsArray w ts) k arrays made
    → list_any (λ a. is_image a.home) made ≡ false → first_coarray arrays ≡ None
none_made w ts k [] made each e = refl
none_made w ts k (a ∷ more) [] each e = absurd each
none_made w ts k (a ∷ more) (m ∷ made) each e =
    none_here a more (not_coarray w ts k a.extents a.coarray m.home each.0.home (left_false _ _ e))
    (none_made w ts (k + 1) more made each.1 (right_false _ _ e))

none_after : (s : Step Stmt) (p : ProgParts) → MadeAfter s p → list_any (λ a. is_image a.home) p.arrays ≡ false → first_coarray (world_after s).names.arrays ≡ None
none_after (Gave main w) p made e = none_made w p.templates 0 w.names.arrays p.arrays made.arrays e

-- where no rule of names or mappings breaks and no array is a coarray, no rule breaks
pub unbroken : (t : Tree) (given : Option ℕ) (p : ProgParts) → IsVerdict t given None → IsParts t given p → list_any (λ a. is_image a.home) p.arrays ≡ false
    → IsTreeVerdict t given None
unbroken t given p ok made e = (ok, ap (option_map coarray_refusal) (none_after (program_of t given) p made e))

-- where none of them breaks and a coarray is declared, it is refused at the first
pub at_coarray : (t : Tree) (given : Option ℕ) (at : Place) → IsVerdict t given None → first_coarray (arrays_of t given) ≡ Some at
    → IsTreeVerdict t given (Some (coarray_refusal at))
at_coarray t given at ok e = inr (ok, ap (option_map coarray_refusal) e)

-- ---- where no coarray is declared, no array is one

-- the home of an array that is no coarray is no image's own
no_image : (w : World) (ts : List Template) (k : ℕ) (extents : List ℕ) (h : Home) → IsHome false w ts k extents h → is_image h ≡ false
no_image w ts k extents h is = by_align (align_of w k) h is
  where
    by_align : (a : Option Align) (h : Home) → IsAligned w ts k extents a h → is_image h ≡ false
    by_align None h is = ap is_image is
    by_align (Some a) home.Copy is = refl
    by_align (Some a) (home.Spread number map) is = refl
    by_align (Some a) home.Image is = absurd is

both_false : (a b : Bool) → a ≡ false → b ≡ false → (a || b) ≡ false
both_false a b first second = ap (λ x. x || b) first ∙ second

none_of : (a : Array) (more : List Array) (b : Bool) → a.coarray ≡ b → first_coarray (a ∷ more) ≡ None → (b ≡ false) × (first_coarray more ≡ None)
none_of a more true e none = absurd (none-some a.at (sym none ∙ ap (λ b. if b then Some a.at else first_coarray more) e))
none_of a more false e none = (refl, sym (ap (λ b. if b then Some a.at else first_coarray more) e) ∙ none)

no_images : (w : World) (ts : List Template) (k : ℕ) (arrays : List Array) (made : List made_array.Array) → EachMade (IsArray w ts) k arrays made
    → first_coarray arrays ≡ None → list_any (λ a. is_image a.home) made ≡ false
no_images w ts k [] [] each none = refl
no_images w ts k [] (m ∷ made) each none = absurd each
no_images w ts k (a ∷ more) [] each none = absurd each
no_images w ts k (a ∷ more) (m ∷ made) each none =
    let n = none_of a more a.coarray refl none in
    both_false _ _ (no_image w ts k a.extents m.home (subst (λ b. IsHome b w ts k a.extents m.home) n.0 each.0.home)) (no_images w ts (k + 1) more made each.1 n.1)

no_images_after : (s : Step Stmt) (p : ProgParts) → MadeAfter s p → first_coarray (world_after s).names.arrays ≡ None → list_any (λ a. is_image a.home) p.arrays ≡ false
no_images_after (Gave main w) p made none = no_images w p.templates 0 w.names.arrays p.arrays made.arrays none

-- a program with an image's own array declares a coarray
pub some_coarray : (t : Tree) (given : Option ℕ) (p : ProgParts) → IsParts t given p → list_any (λ a. is_image a.home) p.arrays ≡ true → first_coarray (arrays_of t given) ≡ None → ⊥
some_coarray t given p made some none = let no = no_images_after (program_of t given) p made none in absurd (cc)
