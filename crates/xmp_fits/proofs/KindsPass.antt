-- The kind of the parts that are made: that of a program with coarrays exactly where an array is one, and no array is spread there.
use Rattle.std.proofs.Common.{◌≡◌, ◌∙◌, sym, ap, refl, ◌∷◌, [], ◌+◌, ◌||◌, ℕ, Bool, true, false, not, List, Option, Some, None, IsTrue}
use Rattle.std.specs.List.{list_all, list_any}
use Rattle.xmp_map.specs.declared.template.Template.{Template}
use Rattle.xmp_prog.specs.declared.parts.Array as made_array
use Rattle.xmp_prog.specs.declared.parts.Home.{Home}
use Rattle.xmp_prog.specs.declared.parts.Home.TheVariants as home
use Rattle.xmp_prog.specs.declared.parts.ProgParts.{ProgParts}
use Rattle.xmp_prog.specs.declared.statements.Stmt.{Stmt}
use Rattle.xmp_prog.specs.Fits.{has_coarrays}
use Rattle.xmp_prog.specs.Tests.{is_image, is_spread}
use Rattle.xmp_names.specs.declared.names.Array.{Array}
use Rattle.xmp_names.specs.declared.mappings.Align.{Align}
use Rattle.xmp_names.specs.declared.world.World.{World}
use Rattle.xmp_mapping_rules.specs.MappingRules.{align_of, mapping_rules}
use Rattle.xmp_parts.specs.Parts.{EachMade, IsAligned, IsArray, IsHome, Made, kind_of}
use Rattle.xmp_fits.proofs.MapsPass.{all_pass_of, each_here}
use Rattle.xmp_parts.proofs.Unbroken.{align_at}

-- ---- which arrays are coarrays

aligned_image : (w : World) (templates : List Template) (k : ℕ) (es : List ℕ) (o : Option Align) (x : Home) → IsAligned w templates k es o x → is_image x ≡ false
aligned_image w templates k es None x i = ap is_image i
aligned_image w templates k es (Some a) home.Copy i = absurd i
aligned_image w templates k es (Some a) (home.Spread number m) i = refl
aligned_image w templates k es (Some a) home.Image i = absurd i

-- An array that is made is a coarray where it is declared as one.
home_image : (w : World) (templates : List Template) (k : ℕ) (es : List ℕ) (b : Bool) (x : Home) → IsHome b w templates k es x → is_image x ≡ b
home_image w templates k es true x i = ap is_image i
home_image w templates k es false x i = aligned_image w templates k es (align_of w k) x i

pub made_image : (w : World) (templates : List Template) (k : ℕ) (a : Array) (m : made_array.Array) → IsArray w templates k a m → is_image m.home ≡ a.coarray
made_image w templates k a m is = home_image w templates k a.extents a.coarray m.home is.home

images : (w : World) (templates : List Template) (k : ℕ) (xs : List Array) (ys : List made_array.Array) → EachMade (IsArray w templates) k xs ys →
    list_any {X = made_array.Array} (λ a. is_image a.home) ys ≡ list_any {X = Array} (λ a. a.coarray) xs
images w templates k [] [] h = refl
images w templates k [] (y ∷ ys) h = absurd h
images w templates k (x ∷ xs) [] h = absurd h
images w templates k (x ∷ xs) (y ∷ ys) h =
    ap (λ b. b || list_any {X = made_array.Array} (λ a. is_image a.home) ys) (made_image w templates k x y h.0) ∙ ap (λ r. x.coarray || r) (images w templates (k + 1) xs ys h.1)

kind_has : (b : Bool) → has_coarrays (kind_of b) ≡ b
kind_has true = refl
kind_has false = refl

pub made_kind : (w : World) (main : Stmt) (p : ProgParts) → Made main w p → has_coarrays p.kind ≡ w.names.coarray
made_kind w main p made = ap has_coarrays made.kind ∙ kind_has w.names.coarray

-- That a program with coarrays has one, and one without has none, is a premise here: it is known of the walk.
pub coarrays_fit : (w : World) (main : Stmt) (p : ProgParts) → w.names.coarray ≡ list_any {X = Array} (λ a. a.coarray) w.names.arrays → Made main w p →
    has_coarrays p.kind ≡ list_any {X = made_array.Array} (λ a. is_image a.home) p.arrays
coarrays_fit w main p known made = made_kind w main p made ∙ (known ∙ sym (images w p.templates 0 w.names.arrays p.arrays made.arrays))

-- ---- which arrays are spread

aligned_spread : (w : World) (templates : List Template) (k : ℕ) (es : List ℕ) (o : Option Align) (x : Home) → align_of w k ≡ o → mapping_rules w ≡ [] → w.names.coarray ≡ true →
    IsAligned w templates k es o x → not (is_spread x) ≡ true
aligned_spread w templates k es None x e h c i = ap (λ y. not (is_spread y)) i
aligned_spread w templates k es (Some a) x e h c i =
    let no : w.names.coarray ≡ false = (align_at w k a h e).1 in
    cc

home_spread : (w : World) (templates : List Template) (k : ℕ) (es : List ℕ) (b : Bool) (x : Home) → mapping_rules w ≡ [] → w.names.coarray ≡ true →
    IsHome b w templates k es x → not (is_spread x) ≡ true
home_spread w templates k es true x h c i = ap (λ y. not (is_spread y)) i
home_spread w templates k es false x h c i = aligned_spread w templates k es (align_of w k) x refl h c i

none_spread : (w : World) (main : Stmt) (p : ProgParts) → mapping_rules w ≡ [] → w.names.coarray ≡ true → Made main w p → list_all {X = made_array.Array} (λ a. not (is_spread a.home)) p.arrays ≡ true
none_spread w main p h c made =
    all_pass_of (λ (a : made_array.Array). not (is_spread a.home)) p.arrays
    (each_here (IsArray w p.templates) (λ a. not (is_spread a.home) ≡ true) w.names.arrays p.arrays made.arrays (λ k a m e is. home_spread w p.templates k a.extents a.coarray m.home h c is.home))

pub spread_fits : (w : World) (main : Stmt) (p : ProgParts) → mapping_rules w ≡ [] → Made main w p →
    IsTrue (not (has_coarrays p.kind) || list_all {X = made_array.Array} (λ a. not (is_spread a.home)) p.arrays)
spread_fits w main p h made = go w.names.coarray refl
  where
    go : (b : Bool) → w.names.coarray ≡ b → (not (has_coarrays p.kind) || list_all {X = made_array.Array} (λ a. not (is_spread a.home)) p.arrays) ≡ true
    go false e = ap (λ b. not b || list_all {X = made_array.Array} (λ a. not (is_spread a.home)) p.arrays) (made_kind w main p made ∙ e)
    go true e = ap (λ b. not b || list_all {X = made_array.Array} (λ a. not (is_spread a.home)) p.arrays) (made_kind w main p made ∙ e) ∙ none_spread w main p h e made
