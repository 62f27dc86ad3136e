-- The points of an align with their held constants, where no rule breaks: each array lies inside the template from its held constant on.
use Rattle.std.proofs.Common.{◌≡◌, ◌∙◌, sym, ap, refl, subst, ◌∷◌, [], ◌+◌, ◌&&◌, not, ℕ, zero, suc, ℤ, pos, negsuc, ◌+ℤ◌, ◌-ℤ◌, Bool, true, false, List, Option, Some, None, arith, length}
use Rattle.std.specs.Prelude.{slice_get, int_le, if◌then◌else◌}
use Rattle.std.specs.List.{list_all, enumerate_from, flat_map}
use Rattle.std.proofs.lemmas.Option.{same_Some, none-some}
use Rattle.xmp_names.specs.declared.mappings.AlignPoint.{AlignPoint}
use Rattle.xmp_names.specs.declared.mappings.AlignPoint.TheVariants as point
use Rattle.xmp_names.specs.declared.mappings.Form.{Form}
use Rattle.xmp_names.specs.Sizes.{held, is_small, lower_at}
use Rattle.xmp_mapping_rules.specs.MappingRules.{dimension_in, dimensions_in, distributes, interval_dimension, interval_dimensions, reaches, spans_intervals}
use Rattle.xmp_mapping_rules.specs.MappingRules as rules
use Rattle.xmp_parts.specs.Parts.{held_point, held_points}
use Rattle.xmp_parts.proofs.Unbroken.{both_true, left_true, right_true}

-- What is right of a held point.
abbrev pub point_right : List ℕ → Bool → ℤ → AlignPoint → Bool
point_right extents spread size point.Star = not spread
point_right extents spread size (point.Dummy d c) = reaches size c (slice_get extents d)

abbrev pub point_fits : List ℕ → Bool → Option ℤ → AlignPoint → Bool
point_fits extents spread None p = false
point_fits extents spread (Some size) p = point_right extents spread size p

abbrev pub points_right : List ℕ → List Form → List ℤ → List AlignPoint → Bool
points_right extents forms sizes points =
    list_all (λ x. point_fits extents (distributes (slice_get forms x.0)) (slice_get sizes x.0) x.1) (enumerate_from 0 points)

-- ---- a point

small_at : (lowers : List ℤ) (k : ℕ) → list_all is_small lowers ≡ true → is_small (lower_at lowers k) ≡ true
small_at [] k h = refl
small_at (l ∷ ls) zero h = left_true (is_small l) _ h
small_at (l ∷ ls) (suc k) h = small_at ls k (right_true (is_small l) _ h)

held_is : (lower c : ℤ) → is_small lower ≡ true → is_small c ≡ true → held lower c ≡ c -ℤ lower
held_is lower c h k = ap (λ b. if b then c -ℤ lower else pos 0) (both_true (is_small lower) (is_small c) h k)

held_fits : (extents : List ℕ) (spread : Bool) (lower : ℤ) (size : Option ℤ) (p : AlignPoint) → is_small lower ≡ true →
    rules.point_fits extents spread lower size p ≡ true → point_fits extents spread size (held_point lower p) ≡ true
held_fits extents spread lower None p s h = cc
held_fits extents spread lower (Some size) point.Star s h = h
held_fits extents spread lower (Some size) (point.Dummy d c) s h =
    let small : is_small c ≡ true = left_true (is_small c) _ h in
    ap (λ o. reaches size o (slice_get extents d)) (held_is lower c s small) ∙ right_true (is_small c) _ h

all_held : (extents : List ℕ) (forms : List Form) (lowers sizes : List ℤ) (k : ℕ) (points : List AlignPoint) → list_all is_small lowers ≡ true →
    list_all (λ x. rules.point_fits extents (distributes (slice_get forms x.0)) (lower_at lowers x.0) (slice_get sizes x.0) x.1) (enumerate_from k points) ≡ true →
    list_all (λ x. point_fits extents (distributes (slice_get forms x.0)) (slice_get sizes x.0) x.1) (enumerate_from k (held_points lowers k points)) ≡ true
all_held extents forms lowers sizes k [] s h = refl
all_held extents forms lowers sizes k (p ∷ ps) s h =
    let one : Bool = rules.point_fits extents (distributes (slice_get forms k)) (lower_at lowers k) (slice_get sizes k) p in
    both_true (point_fits extents (distributes (slice_get forms k)) (slice_get sizes k) (held_point (lower_at lowers k) p)) _
    (held_fits extents (distributes (slice_get forms k)) (lower_at lowers k) (slice_get sizes k) p (small_at lowers k s) (left_true one _ h))
    (all_held extents forms lowers sizes (k + 1) ps s (right_true one _ h))

pub held_right : (extents : List ℕ) (forms : List Form) (lowers sizes : List ℤ) (points : List AlignPoint) → list_all is_small lowers ≡ true →
    rules.points_right extents forms lowers sizes points ≡ true → points_right extents forms sizes (held_points lowers 0 points) ≡ true
held_right extents forms lowers sizes points s h = all_held extents forms lowers sizes 0 points s h

-- ---- what stays

pub held_length : (lowers : List ℤ) (k : ℕ) (points : List AlignPoint) → length (held_points lowers k points) ≡ length points
held_length lowers k [] = refl
held_length lowers k (p ∷ ps) = ap suc (held_length lowers (k + 1) ps)

pub held_dimensions : (lowers : List ℤ) (k : ℕ) (points : List AlignPoint) → dimensions_in (held_points lowers k points) ≡ dimensions_in points
held_dimensions lowers k [] = refl
held_dimensions lowers k (point.Star ∷ ps) = held_dimensions lowers (k + 1) ps
held_dimensions lowers k (point.Dummy d c ∷ ps) = ap (λ ds. d ∷ ds) (held_dimensions lowers (k + 1) ps)

same_dimension : (forms : List Form) (lower : ℤ) (k : ℕ) (p : AlignPoint) → interval_dimension forms (k, held_point lower p) ≡ interval_dimension forms (k, p)
same_dimension forms lower k point.Star = refl
same_dimension forms lower k (point.Dummy d c) = refl

intervals_from : (forms : List Form) (lowers : List ℤ) (k : ℕ) (points : List AlignPoint) →
    flat_map (interval_dimension forms) (enumerate_from k (held_points lowers k points)) ≡ flat_map (interval_dimension forms) (enumerate_from k points)
intervals_from forms lowers k [] = refl
intervals_from forms lowers k (p ∷ ps) = rw (same_dimension forms (lower_at lowers k) k p, intervals_from forms lowers (k + 1) ps)

pub held_intervals : (forms : List Form) (lowers : List ℤ) (points : List AlignPoint) → interval_dimensions forms (held_points lowers 0 points) ≡ interval_dimensions forms points
held_intervals forms lowers points = intervals_from forms lowers 0 points
