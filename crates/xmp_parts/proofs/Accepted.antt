-- Where no rule of mappings breaks, the maps of a program can be made.
use Rattle.std.proofs.Common.{◌≡◌, ◌≤◌, ◌∙◌, sym, ap, refl, subst, ◌∷◌, [], ◌+◌, ◌*◌, ◌&&◌, ℕ, zero, suc, ℤ, Bool, true, false, List, Option, Some, None, arith, length, IsTrue, eqb-true, leb-true}
use Rattle.std.specs.Prelude.{slice_get, ◌==◌, nat_le, if◌then◌else◌}
use Rattle.std.specs.List.{list_all}
use Rattle.std.proofs.lemmas.Option.{same_Some, none-some}
use Rattle.xmp_map.specs.declared.fault.MapError.TheVariants as fault
use Rattle.xmp_map.specs.declared.grid.Grid.{Grid}
use Rattle.xmp_map.specs.declared.template.Template.{Template}
use Rattle.xmp_map.specs.Align.{aligned_dims, is_target, map_fault}
use Rattle.xmp_map.specs.RowMajor.{product}
use Rattle.xmp_map.specs.Spread.{sizes_fit}
use Rattle.xmp_names.specs.declared.mappings.Align.{Align}
use Rattle.xmp_names.specs.declared.mappings.AlignPoint.{AlignPoint}
use Rattle.xmp_names.specs.declared.mappings.AlignPoint.TheVariants as point
use Rattle.xmp_names.specs.declared.mappings.Form.{Form}
use Rattle.xmp_names.specs.declared.mappings.Shadow.{Shadow}
use Rattle.xmp_names.specs.declared.mappings.TemplateLine.{TemplateLine}
use Rattle.xmp_names.specs.declared.names.Array.{Array}
use Rattle.xmp_names.specs.declared.rules.Rule.TheVariants.{M10}
use Rattle.xmp_names.specs.declared.world.World.{World}
use Rattle.xmp_names.specs.Rules.{unless}
use Rattle.xmp_names.specs.Sizes.{most_cells, extents_in, is_small}
use Rattle.xmp_mapping_rules.specs.MappingRules.{align_of, align_right, all_different, cells_from, copies, dimensions_in, dummies_right, forms_of, interval_dimensions, mapping_rules, nodes_of, number_of_nodes, one_to_three, points_right, shadow_right, template_lowers, template_lowers_in, template_sizes, template_sizes_in, widths_right}
use Rattle.xmp_parts.specs.Narrow.{are_narrow}
use Rattle.xmp_parts.specs.Parts.{EachMade, IsOf, IsTemplate, held_points, targets, widths_in}
use Rattle.xmp_parts.proofs.HeldPoints.{held_dimensions, held_intervals, held_length, held_right}
use Rattle.xmp_mapping_rules.specs.MappingRules.{shadow_of}
use Rattle.xmp_parts.proofs.MadeLists.{made_here}
use Rattle.xmp_parts.proofs.Padded.{at_most_three}
use Rattle.xmp_parts.proofs.TargetsFit.{RightPoints, Spreads, names_right, targets_right}
use Rattle.xmp_parts.proofs.Unbroken.{RightTemplate, align_at, both_true, holds, left_none, left_true, no_cell_rule, right_none, right_true, lowers_at, shadow_at, template_at}
use Rattle.xmp_parts.proofs.WidthsFit.{RightShadow, narrow_shadow, shadows_right, widths_length}

-- ---- cells

pub cells_at : (times before : ℕ) (xs : List Array) (k : ℕ) (a : Array) → cells_from times before xs ≡ [] → slice_get xs k ≡ Some a →
    (b : ℕ) × ((sizes_fit a.extents && nat_le ((b + product a.extents) * times) most_cells) ≡ true)
cells_at times before [] k a h e = absurd (none-some a e)
cells_at times before (x ∷ xs) zero a h e = (
  before,
  subst (λ y. (sizes_fit y.extents && nat_le ((before + product y.extents) * times) most_cells) ≡ true) (same_Some x a e)
      (holds (sizes_fit x.extents && nat_le ((before + product x.extents) * times) most_cells) M10 x.at (left_none (unless (sizes_fit x.extents && nat_le ((before + product x.extents) * times) most_cells) M10 x.at) (cells_from times (before + product x.extents) xs) h)),
)
cells_at times before (x ∷ xs) (suc k) a h e = cells_at times (before + product x.extents) xs k a (right_none (unless (sizes_fit x.extents && nat_le ((before + product x.extents) * times) most_cells) M10 x.at) (cells_from times (before + product x.extents) xs) h) e

-- An array of a program without coarrays.
pub cells_right : (w : World) (k : ℕ) (a : Array) → mapping_rules w ≡ [] → w.names.coarray ≡ false → slice_get w.names.arrays k ≡ Some a → (sizes_fit a.extents ≡ true) × (product a.extents ≤ 4194304)
cells_right w k a h c e =
    let once : copies w ≡ 1 = ap (λ b. if b then number_of_nodes w else 1) c in
    let at = cells_at (copies w) 0 w.names.arrays k a (no_cell_rule w h) e in
    let few : (at.0 + product a.extents) * copies w ≤ 4194304 = leb-true ((at.0 + product a.extents) * copies w) 4194304 (right_true (sizes_fit a.extents) _ at.1) in
    let all : (at.0 + product a.extents) * 1 ≤ 4194304 = subst (λ n. (at.0 + product a.extents) * n ≤ 4194304) once few in
    (left_true (sizes_fit a.extents) _ at.1, omega arith)

-- ---- maps

-- What a map is made from, with the points held.
pub record MapFits (extents : List ℕ) (points : List AlignPoint) (shadow : Option Shadow) (t : Template) : Type 0 where
  pub few : length points ≤ 3
  pub narrow_widths : IsTrue (are_narrow shadow)
  pub as_extents : length (widths_in extents shadow) ≡ length extents
  pub fit : IsTrue (sizes_fit extents)
  pub cells : product extents ≤ 4194304
  pub right : map_fault t.dims t.spread (aligned_dims extents (targets extents points) (widths_in extents shadow)) ≡ None

no_fault : (a b c : Bool) → a ≡ true → b ≡ true → c ≡ true → (if a && b then (if c then None else Some fault.Shadow) else Some fault.Align) ≡ None
no_fault true true true h k l = refl
no_fault false b c h k l = cc
no_fault true false c h k l = cc
no_fault true true false h k l = cc

map_fits : (extents : List ℕ) (sizes : List ℤ) (forms : List Form) (points : List AlignPoint) (shadow : Option Shadow) (g : Grid) (t : Template) →
    RightPoints extents sizes forms points → RightShadow extents forms points shadow → IsOf g sizes forms t → sizes_fit extents ≡ true → product extents ≤ 4194304 → MapFits extents points shadow t
map_fits extents sizes forms points shadow g t r q is fit cells =
    let made : Spreads sizes forms t.spread = record { sizes = is.sizes; forms = is.forms } in
    let short : length extents ≤ 3 = at_most_three (length extents) (left_true (one_to_three (length extents)) _ fit) in
    let ws : length (widths_in extents shadow) ≡ length extents = widths_length extents forms points shadow q in
    record {
      few = at_most_three (length points) r.few;
      narrow_widths = narrow_shadow extents forms points shadow q;
      as_extents = ws;
      fit = fit;
      cells = cells;
      right = no_fault _ _ _
          (names_right extents sizes forms points (widths_in extents shadow) t.spread r made short ws)
          (subst (λ n. list_all (is_target n t.spread) (aligned_dims extents (targets extents points) (widths_in extents shadow)) ≡ true) (sym is.dims) (targets_right extents sizes forms points (widths_in extents shadow) t.spread r made ws))
          (shadows_right extents sizes forms points shadow t.spread r made q);
    }

-- The template of an align is declared.
declared : (w : World) (a : Align) → align_right w a ≡ true → (l : TemplateLine) × (slice_get w.mappings.templates a.template ≡ Some l)
declared w a h = go (slice_get w.mappings.templates a.template) refl
  where
    counts : (one_to_three (length a.points) && (length a.points == length (template_sizes w a.template))) ≡ true
    counts = right_true (length a.dummies == length (extents_in (slice_get w.names.arrays a.array))) _ (left_true ((length a.dummies == length (extents_in (slice_get w.names.arrays a.array))) && (one_to_three (length a.points) && (length a.points == length (template_sizes w a.template)))) _ h)

    go : (o : Option TemplateLine) → slice_get w.mappings.templates a.template ≡ o → (l : TemplateLine) × (slice_get w.mappings.templates a.template ≡ Some l)
    go (Some l) e = (l, e)
    go None e =
        let none : length (template_sizes w a.template) ≡ 0 = ap (λ o. length (template_sizes_in o)) e in
        let same : length a.points ≡ length (template_sizes w a.template) = eqb-true (length a.points) (length (template_sizes w a.template)) (right_true (one_to_three (length a.points)) _ counts) in
        let some : 1 ≤ length a.points = leb-true 1 (length a.points) (left_true (nat_le 1 (length a.points)) _ (left_true (one_to_three (length a.points)) _ counts)) in
        absurd (omega arith)

points_of : (w : World) (k : ℕ) (array : Array) (a : Align) (l : TemplateLine) → mapping_rules w ≡ [] → slice_get w.names.arrays k ≡ Some array → a.array ≡ k →
    slice_get w.mappings.templates a.template ≡ Some l → align_right w a ≡ true →
    RightTemplate (nodes_of w) l.sizes (forms_of w a.template) → RightPoints array.extents l.sizes (forms_of w a.template) (held_points l.lowers 0 a.points)
points_of w k array a l unbroken at is e h t =
    let extents : extents_in (slice_get w.names.arrays a.array) ≡ array.extents = ap (λ n. extents_in (slice_get w.names.arrays n)) is ∙ ap extents_in at in
    let sizes : template_sizes w a.template ≡ l.sizes = ap template_sizes_in e in
    let lowers : template_lowers w a.template ≡ l.lowers = ap template_lowers_in e in
    let counts = right_true (length a.dummies == length (extents_in (slice_get w.names.arrays a.array))) (one_to_three (length a.points) && (length a.points == length (template_sizes w a.template))) (left_true ((length a.dummies == length (extents_in (slice_get w.names.arrays a.array))) && (one_to_three (length a.points) && (length a.points == length (template_sizes w a.template)))) _ h) in
    let rest = right_true ((length a.dummies == length (extents_in (slice_get w.names.arrays a.array))) && (one_to_three (length a.points) && (length a.points == length (template_sizes w a.template)))) _ h in
    let many : length (held_points l.lowers 0 a.points) ≡ length a.points = held_length l.lowers 0 a.points in
    let same : length a.points ≡ length l.sizes = eqb-true (length a.points) (length (template_sizes w a.template)) (right_true (one_to_three (length a.points)) _ counts) ∙ ap (λ ss. length ss) sizes in
    let written : points_right array.extents (forms_of w a.template) l.lowers l.sizes a.points ≡ true =
    subst (λ ls. points_right array.extents (forms_of w a.template) ls l.sizes a.points ≡ true) lowers
    (subst (λ ss. points_right array.extents (forms_of w a.template) (template_lowers w a.template) ss a.points ≡ true) sizes
    (subst (λ es. points_right es (forms_of w a.template) (template_lowers w a.template) (template_sizes w a.template) a.points ≡ true) extents
    (right_true (all_different (dimensions_in a.points) && dummies_right a.dummies (dimensions_in a.points)) _ rest))) in
    record {
      few = ap one_to_three many ∙ left_true (one_to_three (length a.points)) _ counts;
      as_sizes = many ∙ same;
      as_forms = many ∙ (same ∙ sym (eqb-true (length (forms_of w a.template)) (length l.sizes) (left_true (length (forms_of w a.template) == length l.sizes) _ t.spread)));
      different = ap all_different (held_dimensions l.lowers 0 a.points) ∙ left_true (all_different (dimensions_in a.points)) (dummies_right a.dummies (dimensions_in a.points)) (left_true (all_different (dimensions_in a.points) && dummies_right a.dummies (dimensions_in a.points)) _ rest);
      fit = held_right array.extents (forms_of w a.template) l.lowers l.sizes a.points (lowers_at w a.template l unbroken e) written;
    }

-- A shadow stands on the same dimensions over held points.
held_shadow : (extents : List ℕ) (forms : List Form) (lowers : List ℤ) (points : List AlignPoint) (shadow : Option Shadow) → RightShadow extents forms points shadow → RightShadow extents forms (held_points lowers 0 points) shadow
held_shadow extents forms lowers points None r = tt
held_shadow extents forms lowers points (Some s) r = (r.0, ap (λ ds. widths_right ds s.widths) (held_intervals forms lowers points) ∙ r.1)

pub shadow_of_array : (w : World) (k : ℕ) (array : Array) (a : Align) → mapping_rules w ≡ [] → slice_get w.names.arrays k ≡ Some array → align_of w k ≡ Some a →
    RightShadow array.extents (forms_of w a.template) a.points (shadow_of w k)
shadow_of_array w k array a h at e = go (shadow_of w k) refl
  where
    go : (o : Option Shadow) → shadow_of w k ≡ o → RightShadow array.extents (forms_of w a.template) a.points o
    go None p = tt
    go (Some s) p =
        let r = shadow_at w k s h p in
        let right : shadow_right w (Some a) s ≡ true = subst (λ o. shadow_right w o s ≡ true) (ap (align_of w) r.0 ∙ e) r.1 in
        let extents : extents_in (slice_get w.names.arrays s.array) ≡ array.extents = ap (λ n. extents_in (slice_get w.names.arrays n)) r.0 ∙ ap extents_in at in (
          eqb-true (length s.widths) (length (extents_in (slice_get w.names.arrays s.array))) (left_true (length s.widths == length (extents_in (slice_get w.names.arrays s.array))) _ right) ∙ ap (λ es. length es) extents,
          right_true (length s.widths == length (extents_in (slice_get w.names.arrays s.array))) (widths_right (interval_dimensions (forms_of w a.template) a.points) s.widths) right,
        )

-- The template of an array that is aligned, and that its map can be made.
pub map_facts : (w : World) (g : Grid) (templates : List Template) (k : ℕ) (array : Array) (a : Align) → mapping_rules w ≡ [] →
    EachMade (λ k line t. IsTemplate w g k t) 0 w.mappings.templates templates → slice_get w.names.arrays k ≡ Some array → align_of w k ≡ Some a →
    (t : Template) × (slice_get templates a.template ≡ Some t) × MapFits array.extents (held_points (template_lowers w a.template) 0 a.points) (shadow_of w k) t
map_facts w g templates k array a h made at e =
    let r = align_at w k a h e in
    let l = declared w a r.2 in
    let t = made_here (λ k line t. IsTemplate w g k t) w.mappings.templates templates a.template l.0 made l.1 in
    let sizes : template_sizes w a.template ≡ l.0.sizes = ap template_sizes_in l.1 in
    let cells = cells_right w k array h r.1 at in (
      t.0,
      t.1,
      subst (λ ls. MapFits array.extents (held_points ls 0 a.points) (shadow_of w k) t.0) (sym (ap template_lowers_in l.1))
          (map_fits array.extents l.0.sizes (forms_of w a.template) (held_points l.0.lowers 0 a.points) (shadow_of w k) g t.0
          (points_of w k array a l.0 h at r.0 l.1 r.2 (template_at w a.template l.0 h l.1))
          (held_shadow array.extents (forms_of w a.template) l.0.lowers a.points (shadow_of w k) (shadow_of_array w k array a h at e))
          (subst (λ ss. IsOf g ss (forms_of w a.template) t.0) sizes t.2) cells.0 cells.1),
    )
