-- A shadow that breaks no rule: its widths are small, and stand on dimensions with intervals.
use Rattle.std.proofs.Common.{◌≡◌, ◌≤◌, ◌∙◌, ⊎_elim, ap, refl, subst, ◌∷◌, [], ◌+◌, ◌&&◌, ◌||◌, ℕ, ℤ, pos, negsuc, Bool, true, false, List, Option, Some, None, arith, length, IsTrue, int_eq}
use Rattle.std.specs.Prelude.{⊤, slice_get, is_some, ◌==◌, nat_le}
use Rattle.std.specs.List.{list_all, enumerate_from}
use Rattle.std.proofs.lemmas.Bool.Decides.{Decides-int_eq}
use Rattle.std.proofs.lemmas.List.{length-map}
use Rattle.xmp_dist.specs.declared.form.Dist.TheVariants as dist
use Rattle.xmp_map.specs.declared.spread_dim.SpreadDim.{SpreadDim}
use Rattle.xmp_map.specs.Align.{aligned_dim, aligned_dims, dims_of, is_chunked_under, is_shadow, shadow_fits, under, unused}
use Rattle.xmp_map.specs.Shadow.{has_shadow}
use Rattle.xmp_names.specs.declared.mappings.AlignPoint.{AlignPoint}
use Rattle.xmp_names.specs.declared.mappings.Form.{Form}
use Rattle.xmp_names.specs.declared.mappings.Form.TheVariants as form
use Rattle.xmp_names.specs.declared.mappings.Shadow.{Shadow}
use Rattle.xmp_names.specs.Sizes.{natural}
use Rattle.xmp_mapping_rules.specs.Numbers.{first_place}
use Rattle.xmp_mapping_rules.specs.MappingRules.{has_intervals, interval_dimensions, is_width, spans_intervals, width_right, widths_right}
use Rattle.xmp_parts.specs.Narrow.{are_narrow, is_narrow, is_narrow_pair}
use Rattle.xmp_parts.specs.Parts.{made_form, target_from, targets, widths_in}
use Rattle.xmp_parts.proofs.Dimensions.{Chunked, Named, found, in_intervals, unique}
use Rattle.xmp_parts.proofs.Padded.{all_filled, at_most_three, filled_get, mapped}
use Rattle.xmp_parts.proofs.TargetsFit.{RightPoints, Spreads, all_dims}
use Rattle.xmp_parts.proofs.Unbroken.{all_here, both_true, left_true, right_true}

-- What is right of a shadow, where there is one.
abbrev pub RightShadow : List ℕ → List Form → List AlignPoint → Option Shadow → Type 0
RightShadow extents forms points None = ⊤
RightShadow extents forms points (Some s) = (length s.widths ≡ length extents) × (widths_right (interval_dimensions forms points) s.widths ≡ true)

pub widths_length : (extents : List ℕ) (forms : List Form) (points : List AlignPoint) (shadow : Option Shadow) → RightShadow extents forms points shadow → length (widths_in extents shadow) ≡ length extents
widths_length extents forms points None r = length-map extents (λ x. (0, 0))
widths_length extents forms points (Some s) r = length-map s.widths (λ x. (natural x.0, natural x.1)) ∙ r.0

-- ---- narrow numbers

narrow_width : (n : ℤ) → is_width n ≡ true → is_narrow n ≡ true
narrow_width (pos n) h = right_true (nat_le 0 n) _ h
narrow_width (negsuc n) h = refl

narrow_pairs : (ds : List ℕ) (j : ℕ) (ws : List (ℤ × ℤ)) → list_all (width_right ds) (enumerate_from j ws) ≡ true → list_all is_narrow_pair ws ≡ true
narrow_pairs ds j [] h = refl
narrow_pairs ds j (w ∷ ws) h =
    let both = left_true (is_width w.0 && is_width w.1) _ (left_true (width_right ds (j, w)) _ h) in
    both_true (is_narrow_pair w) _
    (both_true (is_narrow w.0) _ (narrow_width w.0 (left_true (is_width w.0) _ both)) (narrow_width w.1 (right_true (is_width w.0) _ both)))
    (narrow_pairs ds (j + 1) ws (right_true (width_right ds (j, w)) _ h))

pub narrow_shadow : (extents : List ℕ) (forms : List Form) (points : List AlignPoint) (shadow : Option Shadow) → RightShadow extents forms points shadow → IsTrue (are_narrow shadow)
narrow_shadow extents forms points None r = refl
narrow_shadow extents forms points (Some s) r = narrow_pairs (interval_dimensions forms points) 0 s.widths r.1

-- ---- one dimension of the array

shadowed_form : (f : Form) → has_intervals f ≡ true → has_shadow (made_form f) ≡ true
shadowed_form form.Whole h = cc
shadowed_form form.Block h = refl
shadowed_form (form.Cyclic n) h = cc
shadowed_form (form.Gblock ns) h = refl

-- The dimension of the template under one with intervals may have a shadow.
chunked_here : (sizes : List ℤ) (forms : List Form) (ss : List SpreadDim) (k : ℕ) → Spreads sizes forms ss → length forms ≤ 3 → spans_intervals (slice_get forms k) ≡ true → is_chunked_under (slice_get ss k) ≡ true
chunked_here sizes forms ss k made few h = go (slice_get forms k) refl h
  where
    go : (o : Option Form) → slice_get forms k ≡ o → spans_intervals o ≡ true → is_chunked_under (slice_get ss k) ≡ true
    go None e p = cc
    go (Some f) e p =
        let there = mapped (λ s. s.dim.dist) ss k (made_form f) (ap (λ l. slice_get l k) made.forms ∙ filled_get made_form dist.Whole forms k f few e) in
        ap is_chunked_under there.1 ∙ (ap has_shadow there.2 ∙ shadowed_form f p)

chunked_under : (sizes : List ℤ) (forms : List Form) (extents : List ℕ) (points : List AlignPoint) (ss : List SpreadDim) (d : ℕ) → RightPoints extents sizes forms points → Spreads sizes forms ss →
    is_some (first_place d (interval_dimensions forms points)) ≡ true → is_chunked_under (under ss (target_from d 0 points).dim) ≡ true
chunked_under sizes forms extents points ss d r made h =
    ⊎_elim (λ u. absurd (u.1 c.place c.offset c.at)) (λ n. ap (λ t. is_chunked_under (under ss t.dim)) n.is ∙ at n) (found d 0 points)
  where
    c : Chunked forms points 0 d
    c = in_intervals forms points d h

    few : length forms ≤ 3
    few = let n = at_most_three (length points) r.few in let m = r.as_forms in omega arith

    at : (n : Named d 0 points (target_from d 0 points)) → is_chunked_under (slice_get ss (0 + n.place)) ≡ true
    at n =
        let same : c.place ≡ n.place = unique points c.place n.place d c.offset n.offset r.different c.at n.at in
        let e : 0 + c.place ≡ 0 + n.place = omega arith in
        subst (λ k. is_chunked_under (slice_get ss k) ≡ true) e (chunked_here sizes forms ss (0 + c.place) made few c.spans)

zero_width : (z : ℤ) → int_eq z (pos 0) ≡ true → (natural z == 0) ≡ true
zero_width z h = ap (λ n. natural n == 0) ((Decides-int_eq z (pos 0)).0 h)

-- One of two tests.
either : (a b c d : Bool) → (a ≡ true → c ≡ true) → (b ≡ true → d ≡ true) → (a || b) ≡ true → (c || d) ≡ true
either true b c d f g h = go c (f refl)
  where
    go : (c : Bool) → c ≡ true → (c || d) ≡ true
    go true e = refl
    go false e = cc
either false b c d f g h = go c (g h)
  where
    go : (c : Bool) → d ≡ true → (c || d) ≡ true
    go true e = refl
    go false e = e

width_ok : (sizes : List ℤ) (forms : List Form) (extents : List ℕ) (points : List AlignPoint) (ss : List SpreadDim) (d : ℕ) (z : ℤ × ℤ) → RightPoints extents sizes forms points → Spreads sizes forms ss →
    width_right (interval_dimensions forms points) (d, z) ≡ true → shadow_fits ss (target_from d 0 points).dim (natural z.0) (natural z.1) ≡ true
width_ok sizes forms extents points ss d z r made h =
    let both = left_true (is_width z.0 && is_width z.1) _ h in
    both_true (nat_le (natural z.0) 4194304 && nat_le (natural z.1) 4194304) _
    (both_true (nat_le (natural z.0) 4194304) _ (narrow_width z.0 (left_true (is_width z.0) _ both)) (narrow_width z.1 (right_true (is_width z.0) _ both)))
    (either (int_eq z.0 (pos 0) && int_eq z.1 (pos 0)) (is_some (first_place d (interval_dimensions forms points))) _ _
    (λ e. both_true (natural z.0 == 0) _ (zero_width z.0 (left_true (int_eq z.0 (pos 0)) _ e)) (zero_width z.1 (right_true (int_eq z.0 (pos 0)) _ e)))
    (chunked_under sizes forms extents points ss d r made)
    (right_true (is_width z.0 && is_width z.1) _ h))

shadow_ok : (sizes : List ℤ) (forms : List Form) (extents : List ℕ) (points : List AlignPoint) (ss : List SpreadDim) (shadow : Option Shadow) (d x : ℕ) (w : ℕ × ℕ) →
    RightPoints extents sizes forms points → Spreads sizes forms ss → RightShadow extents forms points shadow → slice_get (widths_in extents shadow) d ≡ Some w →
    is_shadow ss (aligned_dim x (target_from d 0 points) w) ≡ true
shadow_ok sizes forms extents points ss None d x w r made q e =
    let there = mapped (λ x. (0, 0)) extents d w e in
    subst (λ v. is_shadow ss (aligned_dim x (target_from d 0 points) v) ≡ true) there.2 refl
shadow_ok sizes forms extents points ss (Some s) d x w r made q e =
    let there = mapped (λ x. (natural x.0, natural x.1)) s.widths d w e in
    subst (λ v. is_shadow ss (aligned_dim x (target_from d 0 points) v) ≡ true) there.2
    (width_ok sizes forms extents points ss d there.0 r made (all_here (width_right (interval_dimensions forms points)) s.widths d there.0 q.1 there.1))

pub shadows_right : (extents : List ℕ) (sizes : List ℤ) (forms : List Form) (points : List AlignPoint) (shadow : Option Shadow) (ss : List SpreadDim) →
    RightPoints extents sizes forms points → Spreads sizes forms ss → RightShadow extents forms points shadow →
    list_all (is_shadow ss) (aligned_dims extents (targets extents points) (widths_in extents shadow)) ≡ true
shadows_right extents sizes forms points shadow ss r made q =
    all_filled (is_shadow ss) unused (dims_of extents (targets extents points) (widths_in extents shadow)) refl
    (all_dims (is_shadow ss) points 0 extents (widths_in extents shadow) (widths_length extents forms points shadow q)
    (λ i x w e f. let z : i ≡ 0 + i = omega arith in subst (λ n. is_shadow ss (aligned_dim x (target_from n 0 points) w) ≡ true) z (shadow_ok sizes forms extents points ss shadow i x w r made q f)))
