-- Loop directives that break no rule: their template is one of the program's, with a point for each dimension; the indices of the nest
-- stand in one point each, and the point of each distributed dimension has one.
use Rattle.std.proofs.Common.{◌≡◌, ◌≤◌, ◌∙◌, sym, ap, refl, subst, ◌++◌, ◌∷◌, [], ◌&&◌, ◌||◌, ℕ, suc, ℤ, pos, Bool, true, not, List, Option, Some, None, arith, length, map, eqb-true, eq-eqb}
use Rattle.std.specs.Prelude.{int_le, neg_ℤ, ◌-ℤ◌, ◌+◌, false, ◌==◌, slice_get, if◌then◌else◌}
use Rattle.std.specs.List.{list_all, count_by, flat_map}
use Rattle.std.proofs.lemmas.Bool.{lt-ltb}
use Rattle.std.proofs.lemmas.Int.{ints}
use Rattle.std.proofs.lemmas.Option.{slice_get_within}
use Rattle.xmp_dist.specs.declared.form.Dist.{Dist}
use Rattle.xmp_dist.specs.declared.form.Dist.TheVariants as dist
use Rattle.xmp_map.specs.declared.spread_dim.SpreadDim.{SpreadDim}
use Rattle.xmp_map.specs.declared.template.Template.{Template}
use Rattle.xmp_map.specs.Nodes.{filled}
use Rattle.xmp_map.specs.Spread.{is_whole}
use Rattle.xmp_prog.specs.declared.statements.LoopDirective.{LoopDirective}
use Rattle.xmp_prog.specs.declared.statements.LoopHead.{LoopHead}
use Rattle.xmp_prog.specs.declared.parts.ProgParts.{ProgParts}
use Rattle.xmp_prog.specs.Numbers.{is_in}
use Rattle.xmp_prog.specs.Statements as made_slots
use Rattle.xmp_prog.specs.Statements.{indices_of}
use Rattle.xmp_prog.specs.Directives as fit
use Rattle.xmp_prog.specs.Directives.{dim_count, distributed_indexed, has_indices, has_points, indices_of_nest, indices_once, names_template, points_indices}
use Rattle.xmp_names.specs.declared.mappings.Form.{Form}
use Rattle.xmp_names.specs.declared.mappings.Form.TheVariants as form
use Rattle.xmp_directives.specs.Directives.{is_indexed, is_small_point, loop_right, made_of_point, made_points, same_numbers, slot_of_point, slots_of_points}
use Rattle.xmp_names.specs.Sizes.{held, is_small, lower_at}
use Rattle.xmp_mapping_rules.specs.MappingRules.{distributes, indexed_right, is_distributed}
use Rattle.xmp_parts.specs.Parts.{IsOf, made_form}
use Rattle.xmp_parts.proofs.Padded.{filled_get, filled_past, mapped_to}
use Rattle.xmp_parts.proofs.Unbroken.{all_here, both_true, left_true, right_true}

-- ---- constants

below : (lower c : ℤ) → int_le c (pos 4194304) ≡ true → int_le (neg_ℤ (pos 4194304)) lower ≡ true → int_le (c -ℤ lower) (pos 8388608) ≡ true
below lower c h k = grind (arith, ints)

above : (lower c : ℤ) → int_le (neg_ℤ (pos 4194304)) c ≡ true → int_le lower (pos 4194304) ≡ true → int_le (neg_ℤ (c -ℤ lower)) (pos 8388608) ≡ true
above lower c h k = grind (arith, ints)

held_small : (lower c : ℤ) → (int_le (held lower c) (pos 8388608) && int_le (neg_ℤ (held lower c)) (pos 8388608)) ≡ true
held_small lower c = by (is_small lower && is_small c) refl
  where
    by : (b : Bool) → (is_small lower && is_small c) ≡ b → (int_le (if b then c -ℤ lower else pos 0) (pos 8388608) && int_le (neg_ℤ (if b then c -ℤ lower else pos 0)) (pos 8388608)) ≡ true
    by false e = refl
    by true e =
        let l : is_small lower ≡ true = left_true (is_small lower) (is_small c) e in
        let s : is_small c ≡ true = right_true (is_small lower) (is_small c) e in
        both_true _ _
        (below lower c (left_true (int_le c (pos 4194304)) _ s) (right_true (int_le lower (pos 4194304)) _ l))
        (above lower c (right_true (int_le c (pos 4194304)) _ s) (left_true (int_le lower (pos 4194304)) _ l))

small_point : (lower : ℤ) (x : Option (ℕ × ℤ)) → fit.is_small_point (made_of_point lower x) ≡ true
small_point lower None = refl
small_point lower (Some x) = held_small lower x.1

small_points : (lowers : List ℤ) (k : ℕ) (points : List (Option (ℕ × ℤ))) → list_all fit.is_small_point (made_points lowers k points) ≡ true
small_points lowers k [] = refl
small_points lowers k (x ∷ xs) = both_true _ _ (small_point (lower_at lowers k) x) (small_points lowers (k + 1) xs)

as_many : (lowers : List ℤ) (k : ℕ) (points : List (Option (ℕ × ℤ))) → length (made_points lowers k points) ≡ length points
as_many lowers k [] = refl
as_many lowers k (x ∷ xs) = ap suc (as_many lowers (k + 1) xs)

-- ---- indices

same_lists : (ns ms : List ℕ) → same_numbers ns ms ≡ true → ns ≡ ms
same_lists [] [] h = refl
same_lists [] (m ∷ ms) h = cc
same_lists (n ∷ ns) [] h = cc
same_lists (n ∷ ns) (m ∷ ms) h =
    ap (λ x. x ∷ ns) (eqb-true n m (left_true (n == m) _ h)) ∙ ap (λ l. m ∷ l) (same_lists ns ms (right_true (n == m) _ h))

point_slots : (lower : ℤ) (x : Option (ℕ × ℤ)) → made_slots.slots_of_point (made_of_point lower x) ≡ slot_of_point x
point_slots lower None = refl
point_slots lower (Some x) = refl

points_slots : (lowers : List ℤ) (k : ℕ) (points : List (Option (ℕ × ℤ))) → flat_map made_slots.slots_of_point (made_points lowers k points) ≡ slots_of_points points
points_slots lowers k [] = refl
points_slots lowers k (x ∷ xs) =
    ap (λ l. l ++ flat_map made_slots.slots_of_point (made_points lowers (k + 1) xs)) (point_slots (lower_at lowers k) x) ∙ ap (λ l. slot_of_point x ++ l) (points_slots lowers (k + 1) xs)

-- ---- distributed dimensions

-- The point of a dimension: where it is distributed it has an index.
each_indexed : (lowers : List ℤ) (k : ℕ) (ss : List SpreadDim) (points : List (Option (ℕ × ℤ))) →
    ((i : ℕ) (s : SpreadDim) (x : Option (ℕ × ℤ)) → slice_get ss i ≡ Some s → slice_get points i ≡ Some x → (is_indexed x || is_whole s.dim.dist) ≡ true) →
    distributed_indexed ss (made_points lowers k points) ≡ true
each_indexed lowers k [] points h = refl
each_indexed lowers k (s ∷ ss) [] h = refl
each_indexed lowers k (s ∷ ss) (x ∷ xs) h =
    both_true _ _ (ap (λ b. b || is_whole s.dim.dist) (has x) ∙ h 0 s x refl refl) (each_indexed lowers (k + 1) ss xs (λ i t y e f. h (suc i) t y e f))
  where
    has : (x : Option (ℕ × ℤ)) → fit.has_index (made_of_point (lower_at lowers k) x) ≡ is_indexed x
    has None = refl
    has (Some x) = refl

whole_form : (f : Form) → is_whole (made_form f) ≡ not (is_distributed f)
whole_form form.Whole = refl
whole_form form.Block = refl
whole_form (form.Cyclic n) = refl
whole_form (form.Gblock ns) = refl

whole_at : (forms : List Form) (i : ℕ) (d : Dist) (o : Option Form) → length forms ≤ 3 → slice_get forms i ≡ o → slice_get (filled dist.Whole (map made_form forms)) i ≡ Some d → is_whole d ≡ not (distributes o)
whole_at forms i d None few e f = ap is_whole (sym (filled_past made_form dist.Whole forms i d few e f))
whole_at forms i d (Some x) few e f = ap is_whole (same (sym f ∙ filled_get made_form dist.Whole forms i x few e)) ∙ whole_form x
  where
    same : {A : Type 0} {x y : A} → Some x ≡ Some y → x ≡ y
    same e = cc

points_indexed : (lowers : List ℤ) (forms : List Form) (points : List (Option (ℕ × ℤ))) (ss : List SpreadDim) → length forms ≤ 3 → map (λ s. s.dim.dist) ss ≡ filled dist.Whole (map made_form forms) →
    indexed_right forms (map is_indexed points) ≡ true → distributed_indexed ss (made_points lowers 0 points) ≡ true
points_indexed lowers forms points ss few is h = each_indexed lowers 0 ss points (λ i s x e f. here i s x e f)
  where
    here : (i : ℕ) (s : SpreadDim) (x : Option (ℕ × ℤ)) → slice_get ss i ≡ Some s → slice_get points i ≡ Some x → (is_indexed x || is_whole s.dim.dist) ≡ true
    here i s x e f =
        let d : slice_get (filled dist.Whole (map made_form forms)) i ≡ Some s.dim.dist = ap (λ l. slice_get l i) (sym is) ∙ mapped_to (λ (t : SpreadDim). t.dim.dist) ss i s e in
        let w : is_whole s.dim.dist ≡ not (distributes (slice_get forms i)) = whole_at forms i s.dim.dist (slice_get forms i) few refl d in
        ap (λ b. is_indexed x || b) w
        ∙ all_here (λ y. y.1 || not (distributes (slice_get forms y.0))) (map is_indexed points) i (is_indexed x) h (mapped_to is_indexed points i x f)

-- ---- the directive

-- What is known of a loop directive whose step breaks no rule, and of its template.
pub record RightLoop (p : ProgParts) (template : ℕ) (points : List (Option (ℕ × ℤ))) (names : List ℕ) (nest : List LoopHead) : Type 0 where
  pub right : loop_right names points nest ≡ true
  pub sizes : List ℤ
  pub forms : List Form
  pub made : Template
  pub at : slice_get p.templates template ≡ Some made
  pub is : IsOf p.grid sizes forms made
  pub few : length forms ≤ 3
  pub as_dims : length points ≡ length sizes
  pub indexed : indexed_right forms (map is_indexed points) ≡ true

module _ (p : ProgParts) (template : ℕ) (lowers : List ℤ) (points : List (Option (ℕ × ℤ))) (names : List ℕ) (nest : List LoopHead) (d : LoopDirective) (r : RightLoop p template points names nest)
    (as_template : d.template ≡ template) (as_points : d.points ≡ made_points lowers 0 points) (as_nest : d.nest ≡ nest) where
  abbrev rest : Bool
  rest = list_all (is_in names) (slots_of_points points) && list_all is_small_point points

  abbrev once : Bool
  once = list_all (λ i. count_by (λ j. j == i) (slots_of_points points) == 1) names

  known_names : names ≡ indices_of d.nest
  known_names = same_lists names (indices_of nest) (left_true (same_numbers names (indices_of nest)) (once && rest) r.right) ∙ ap indices_of (sym as_nest)

  known_slots : points_indices d ≡ slots_of_points points
  known_slots = ap (λ l. flat_map made_slots.slots_of_point l) as_points ∙ points_slots lowers 0 points

  behind : (once && rest) ≡ true
  behind = right_true (same_numbers names (indices_of nest)) (once && rest) r.right

  pub template_named : names_template p d ≡ true
  template_named = lt-ltb d.template (length p.templates) (slice_get_within p.templates d.template r.made (ap (slice_get p.templates) as_template ∙ r.at))

  pub points_there : has_points p d ≡ true
  points_there =
      let many : length d.points ≡ length r.sizes = ap (λ l. length l) as_points ∙ (as_many lowers 0 points ∙ r.as_dims) in
      let dims : dim_count (slice_get p.templates d.template) ≡ length r.sizes = ap (λ k. dim_count (slice_get p.templates k)) as_template ∙ (ap dim_count r.at ∙ r.is.dims) in
      eq-eqb (length d.points) (dim_count (slice_get p.templates d.template)) (many ∙ sym dims)

  pub constants_small : list_all fit.is_small_point d.points ≡ true
  constants_small = ap (list_all fit.is_small_point) as_points ∙ small_points lowers 0 points

  pub distributed_named : has_indices p d ≡ true
  distributed_named =
      ap (λ k. distributed_indexed (fit.dims_of (slice_get p.templates k)) d.points) as_template
      ∙ (ap (λ o. distributed_indexed (fit.dims_of o) d.points) r.at
      ∙ (ap (distributed_indexed r.made.spread) as_points ∙ points_indexed lowers r.forms points r.made.spread r.few r.is.forms r.indexed))

  pub each_once : indices_once d ≡ true
  each_once =
      subst (λ ns. list_all (λ i. count_by (λ j. j == i) (points_indices d) == 1) ns ≡ true) known_names
      (subst (λ ss. list_all (λ i. count_by (λ j. j == i) ss == 1) names ≡ true) (sym known_slots) (left_true once rest behind))

  pub each_of_nest : indices_of_nest d ≡ true
  each_of_nest =
      subst (λ ns. list_all (is_in ns) (points_indices d) ≡ true) known_names
      (subst (λ ss. list_all (is_in names) ss ≡ true) (sym known_slots) (left_true (list_all (is_in names) (slots_of_points points)) _ (right_true once rest behind)))
