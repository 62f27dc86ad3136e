-- The templates, maps, extents and cells of the parts that are made where no rule of mappings breaks.
use Rattle.std.proofs.Common.{◌≡◌, ◌≤◌, ◌∙◌, sym, ap, refl, subst, ◌∷◌, [], ◌+◌, ◌*◌, ◌&&◌, ℕ, suc, ℤ, pos, Bool, true, false, List, Option, Some, None, arith, length, map, take, IsTrue, leb-true, eqb-true}
use Rattle.std.specs.Prelude.{slice_get, nat_le, int_le, if◌then◌else◌}
use Rattle.std.specs.Option.{unwrap_or}
use Rattle.std.specs.List.{list_all, sum_by, AllByRecursion}
use Rattle.std.proofs.lemmas.List.{length-map}
use Rattle.std.proofs.lemmas.List.Sums.{sum_by-cons}
use Rattle.xmp_map.specs.declared.aligned.Target.{Target}
use Rattle.xmp_map.specs.declared.array_map.ArrayMap.{ArrayMap}
use Rattle.xmp_map.specs.declared.grid.Grid.{Grid}
use Rattle.xmp_map.specs.declared.template.Template.{Template}
use Rattle.xmp_map.specs.Align.{aligned_dims, dims_of, unused}
use Rattle.xmp_map.specs.Held.{extents}
use Rattle.xmp_map.specs.Nodes.{filled}
use Rattle.xmp_map.specs.RowMajor.{product}
use Rattle.xmp_map.specs.Spread.{sizes_fit}
use Rattle.xmp_prog.specs.declared.parts.Array as made_array
use Rattle.xmp_prog.specs.declared.parts.Home.{Home}
use Rattle.xmp_prog.specs.declared.parts.Home.TheVariants as home
use Rattle.xmp_prog.specs.declared.parts.ProgParts.{ProgParts}
use Rattle.xmp_prog.specs.declared.statements.Stmt.{Stmt}
use Rattle.xmp_prog.specs.Fits as fits
use Rattle.xmp_prog.specs.Fits.{HomeFits, MappingsFit, SpreadFits, has_coarrays, node_count}
use Rattle.xmp_names.specs.declared.names.Array.{Array}
use Rattle.xmp_names.specs.declared.mappings.Align.{Align}
use Rattle.xmp_names.specs.declared.mappings.AlignPoint.{AlignPoint}
use Rattle.xmp_names.specs.declared.world.World.{World}
use Rattle.xmp_names.specs.declared.rules.Rule.TheVariants.{M10}
use Rattle.xmp_names.specs.Rules.{unless}
use Rattle.xmp_names.specs.Sizes.{most_cells, given_or_one, line_sizes, natural}
use Rattle.xmp_mapping_rules.specs.MappingRules.{align_of, cells_from, copies, first_nodes, forms_of, item_at, mapping_rules, is_given, node_product, nodes_of, nodes_right, number_of_nodes, one_to_three, sizes_or_row, template_lowers}
use Rattle.xmp_parts.specs.Parts.{EachMade, IsAligned, IsArray, IsGrid, IsHome, IsMapOver, IsOver, IsTemplate, Made, held_points, kind_of, targets, targets_from, widths_in}
use Rattle.xmp_mapping_rules.specs.MappingRules.{shadow_of}
use Rattle.xmp_names.specs.declared.mappings.NodesLine.{NodesLine}
use Rattle.xmp_parts.specs.Narrow.{is_count}
use Rattle.xmp_parts.proofs.Padded.{at_most_three}
use Rattle.xmp_parts.proofs.Rows.{right_nodes}
use Rattle.xmp_parts.proofs.Accepted.{cells_at, shadow_of_array}
use Rattle.xmp_parts.proofs.Unbroken.{both_true, holds, left_none, left_true, no_cell_rule, nodes_at, right_none, right_true}
use Rattle.xmp_parts.proofs.WidthsFit.{widths_length}

-- ---- what holds of each item that is made

pub each_passes : {A B : Type 0} (Is : ℕ → A → B → Type 0) (P : B → Type 0) (k : ℕ) (xs : List A) (ys : List B) → EachMade Is k xs ys →
    ((i : ℕ) (x : A) (y : B) → slice_get xs i ≡ Some x → Is (k + i) x y → P y) → AllByRecursion P ys
each_passes Is P k [] [] h each = tt
each_passes Is P k [] (y ∷ ys) h each = absurd h
each_passes Is P k (x ∷ xs) [] h each = absurd h
each_passes Is P k (x ∷ xs) (y ∷ ys) h each =
    let z : k ≡ k + 0 = omega arith in (
      each 0 x y refl (subst (λ n. Is n x y) z h.0),
      each_passes Is P (k + 1) xs ys h.1 (λ i a b e is.
          let j : k + 1 + i ≡ k + suc i = omega arith in
          each (suc i) a b e (subst (λ n. Is n a b) j is)),
    )

-- The same from the first item on.
pub each_here : {A B : Type 0} (Is : ℕ → A → B → Type 0) (P : B → Type 0) (xs : List A) (ys : List B) → EachMade Is 0 xs ys →
    ((i : ℕ) (x : A) (y : B) → slice_get xs i ≡ Some x → Is i x y → P y) → AllByRecursion P ys
each_here Is P xs ys h each = each_passes Is P 0 xs ys h (λ i x y e is.
    let j : 0 + i ≡ i = omega arith in
    each i x y e (subst (λ n. Is n x y) j is))

pub all_pass_of : {A : Type 0} (test : A → Bool) (xs : List A) → AllByRecursion (λ x. test x ≡ true) xs → list_all test xs ≡ true
all_pass_of test [] h = refl
all_pass_of test (x ∷ xs) h = both_true (test x) (list_all test xs) h.0 (all_pass_of test xs h.1)

-- ---- the extents of a map

targets_length : (points : List AlignPoint) (d : ℕ) (es : List ℕ) → length (targets_from d es points) ≡ length es
targets_length points d [] = refl
targets_length points d (x ∷ xs) = ap suc (targets_length points (d + 1) xs)

dims_extents : (es : List ℕ) (ts : List Target) (ws : List (ℕ × ℕ)) → length ts ≡ length es → length ws ≡ length es → map (λ l. l.extent) (dims_of es ts ws) ≡ es
dims_extents [] ts ws h k = refl
dims_extents (e ∷ es) [] ws h k = absurd (omega arith)
dims_extents (e ∷ es) (t ∷ ts) [] h k = absurd (omega arith)
dims_extents (e ∷ es) (t ∷ ts) (w ∷ ws) h k = ap (λ l. e ∷ l) (dims_extents es ts ws (omega arith) (omega arith))

map_filled : {A B : Type 0} (f : A → B) (d : A) (xs : List A) → map f (filled d xs) ≡ filled (f d) (map f xs)
map_filled f d [] = refl
map_filled f d (a ∷ []) = refl
map_filled f d (a ∷ b ∷ []) = refl
map_filled f d (a ∷ b ∷ c ∷ rest) = refl

take_filled : {A : Type 0} (d : A) (xs : List A) → length xs ≤ 3 → take (length xs) (filled d xs) ≡ xs
take_filled d [] h = refl
take_filled d (a ∷ []) h = refl
take_filled d (a ∷ b ∷ []) h = refl
take_filled d (a ∷ b ∷ c ∷ []) h = refl
take_filled d (a ∷ b ∷ c ∷ e ∷ rest) h = absurd (omega arith)

over_extents : (es : List ℕ) (ts : List Target) (ws : List (ℕ × ℕ)) → length ts ≡ length es → length ws ≡ length es → length es ≤ 3 →
    take (length es) (map (λ l. l.extent) (aligned_dims es ts ws)) ≡ es
over_extents es ts ws h k few =
    ap (take (length es)) (map_filled (λ l. l.extent) unused (dims_of es ts ws) ∙ ap (filled 1) (dims_extents es ts ws h k)) ∙ take_filled 1 es few

map_extents : (t : Template) (es : List ℕ) (points : List AlignPoint) (ws : List (ℕ × ℕ)) (m : ArrayMap) → IsOver t es points ws m → length ws ≡ length es → length es ≤ 3 →
    take m.dims (extents m) ≡ es
map_extents t es points ws m o k few =
    ap (λ n. take n (extents m)) o.dims ∙ (ap (λ l. take (length es) (map (λ x. x.extent) l)) o.aligned ∙ over_extents es (targets es points) ws (targets_length points 0 es) k few)

-- ---- the home of an array

module _ (w : World) (p : ProgParts) (k : ℕ) (array : Array) (made : made_array.Array) (h : mapping_rules w ≡ []) (at : slice_get w.names.arrays k ≡ Some array) (is : made.extents ≡ array.extents)
    (few : length array.extents ≤ 3) where
  spread_passes : (a : Align) (number : ℕ) (m : ArrayMap) (o : Option Template) → align_of w k ≡ Some a → number ≡ a.template → slice_get p.templates a.template ≡ o →
      IsMapOver w k array.extents a m o → SpreadFits p made number m
  spread_passes a number m None e n f r = absurd r
  spread_passes a number m (Some t) e n f r =
      let forms = forms_of w a.template in
      let ws : length (widths_in array.extents (shadow_of w k)) ≡ length array.extents = widths_length array.extents forms a.points (shadow_of w k) (shadow_of_array w k array a h at e) in
      record {
        template = ap (slice_get p.templates) n ∙ (f ∙ ap (λ x. Some x) (sym r.template));
        extents = map_extents t array.extents (held_points (template_lowers w a.template) 0 a.points) (widths_in array.extents (shadow_of w k)) m r ws few ∙ sym is;
      }

  aligned_passes : (o : Option Align) (x : Home) → align_of w k ≡ o → IsAligned w p.templates k array.extents o x → HomeFits p made x
  aligned_passes None x e i = subst (HomeFits p made) (sym i) tt
  aligned_passes (Some a) home.Copy e i = tt
  aligned_passes (Some a) (home.Spread number m) e i = spread_passes a number m (slice_get p.templates a.template) e i.0 refl i.1
  aligned_passes (Some a) home.Image e i = tt

  home_passes : (b : Bool) (x : Home) → IsHome b w p.templates k array.extents x → HomeFits p made x
  home_passes true x i = subst (HomeFits p made) (sym i) tt
  home_passes false x i = aligned_passes (align_of w k) x refl i

-- ---- cells

-- Each array of the program has one to three extents that are right.
pub sizes_at : (w : World) (k : ℕ) (a : Array) → mapping_rules w ≡ [] → slice_get w.names.arrays k ≡ Some a → sizes_fit a.extents ≡ true
sizes_at w k a h e = left_true (sizes_fit a.extents) _ (cells_at (copies w) 0 w.names.arrays k a (no_cell_rule w h) e).1

few_extents : (es : List ℕ) → sizes_fit es ≡ true → length es ≤ 3
few_extents es h = at_most_three (length es) (left_true (one_to_three (length es)) _ h)

-- The cells of arrays that are right, with those before them.
abbrev cells_in : List Array → ℕ
cells_in xs = sum_by {X = Array} (λ a. product a.extents) xs

cells_below : (times before : ℕ) (xs : List Array) → before * times ≤ 4194304 → cells_from times before xs ≡ [] → (before + cells_in xs) * times ≤ 4194304
cells_below times before [] h e =
    let z : before + 0 ≡ before = omega arith in
    subst (λ n. n * times ≤ 4194304) (sym z) h
cells_below times before (a ∷ more) h e =
    let test : Bool = sizes_fit a.extents && nat_le ((before + product a.extents) * times) most_cells in
    let right : test ≡ true = holds test M10 a.at (left_none (unless test M10 a.at) (cells_from times (before + product a.extents) more) e) in
    let here : (before + product a.extents) * times ≤ 4194304 = leb-true ((before + product a.extents) * times) 4194304 (right_true (sizes_fit a.extents) _ right) in
    let rest = cells_below times (before + product a.extents) more here (right_none (unless test M10 a.at) (cells_from times (before + product a.extents) more) e) in
    let c : cells_in (a ∷ more) ≡ product a.extents + cells_in more = sum_by-cons (λ (x : Array). product x.extents) a more in
    let z : before + cells_in (a ∷ more) ≡ before + product a.extents + cells_in more = omega arith in
    subst (λ n. n * times ≤ 4194304) (sym z) rest

-- The same of the arrays that are made.
cells_made : (w : World) (templates : List Template) (k : ℕ) (xs : List Array) (ys : List made_array.Array) → EachMade (IsArray w templates) k xs ys →
    sum_by {X = made_array.Array} (λ a. product a.extents) ys ≡ cells_in xs
cells_made w templates k [] [] h = refl
cells_made w templates k [] (y ∷ ys) h = absurd h
cells_made w templates k (x ∷ xs) [] h = absurd h
cells_made w templates k (x ∷ xs) (y ∷ ys) h =
    sum_by-cons (λ (a : made_array.Array). product a.extents) y ys
    ∙ (ap (λ n. n + sum_by {X = made_array.Array} (λ a. product a.extents) ys) (ap product h.0.extents)
    ∙ (ap (λ n. product x.extents + n) (cells_made w templates (k + 1) xs ys h.1) ∙ sym (sum_by-cons (λ (a : Array). product a.extents) x xs)))

-- ---- the number of nodes

pub product_filled : (ns : List ℕ) → length ns ≤ 3 → product (filled 1 ns) ≡ product ns
unfolding product
product_filled [] h = refl
product_filled (a ∷ []) h = refl
product_filled (a ∷ b ∷ []) h = refl
product_filled (a ∷ b ∷ c ∷ []) h = refl
product_filled (a ∷ b ∷ c ∷ d ∷ rest) h = absurd (omega arith)

one_row : (n : ℕ) → product (n ∷ []) ≡ n
unfolding product
one_row n = omega arith

given_nodes : (given : Option ℕ) (n : ℕ) → is_given given n ≡ true → unwrap_or given n ≡ n
given_nodes None n h = refl
given_nodes (Some m) n h = sym (eqb-true n m h)

row_nodes : (given : Option ℕ) (n : ℕ) → n ≡ unwrap_or given 1 → unwrap_or given n ≡ n
row_nodes None n h = refl
row_nodes (Some m) n h = sym h

-- The number of nodes is the product of the sizes of the nodes array.
pub nodes_counted : (w : World) → mapping_rules w ≡ [] → number_of_nodes w ≡ node_product (nodes_of w)
nodes_counted w h = go (item_at w.mappings.nodes (first_nodes w)) refl
  where
    go : (o : Option NodesLine) → item_at w.mappings.nodes (first_nodes w) ≡ o → unwrap_or w.given (node_product (sizes_or_row (given_or_one w) o)) ≡ node_product (sizes_or_row (given_or_one w) o)
    go None e = row_nodes w.given (product (given_or_one w ∷ [])) (one_row (given_or_one w))
    go (Some l) e =
        let sizes : List ℤ = line_sizes (given_or_one w) l in
        let right : nodes_right w.given sizes ≡ true = nodes_at w l h e in
        let rest = right_true (one_to_three (length sizes)) _ right in
        let both = right_true (list_all (λ n. int_le (pos 1) n) sizes) (nat_le (node_product sizes) 16 && is_given w.given (node_product sizes)) rest in
        given_nodes w.given (node_product sizes) (right_true (nat_le (node_product sizes) 16) _ both)

pub grid_nodes : (w : World) (g : Grid) → mapping_rules w ≡ [] → IsTrue (is_count w.given) → IsGrid (map natural (nodes_of w)) g → product g.sizes ≡ number_of_nodes w
grid_nodes w g h c is =
    let few : length (map natural (nodes_of w)) ≤ 3 = let m = length-map (nodes_of w) natural in let r = at_most_three (length (nodes_of w)) (right_nodes w h c).few in omega arith in
    ap product is.0 ∙ (product_filled (map natural (nodes_of w)) few ∙ sym (nodes_counted w h))

copies_made : (w : World) (main : Stmt) (p : ProgParts) → mapping_rules w ≡ [] → IsTrue (is_count w.given) → Made main w p → fits.copies p ≡ copies w
copies_made w main p h c made =
    ap (λ k. if has_coarrays k then node_count p else 1) made.kind ∙ (kinds w.names.coarray ∙ ap (λ n. if w.names.coarray then n else 1) (grid_nodes w p.grid h c made.grid))
  where
    kinds : (b : Bool) → (if has_coarrays (kind_of b) then node_count p else 1) ≡ (if b then node_count p else 1)
    kinds true = refl
    kinds false = refl

-- ---- all together

pub mappings_fit : (w : World) (main : Stmt) (p : ProgParts) → mapping_rules w ≡ [] → IsTrue (is_count w.given) → Made main w p → MappingsFit p
mappings_fit w main p h c made = record {
  templates = each_here (λ k line t. IsTemplate w p.grid k t) (λ t. t.grid ≡ p.grid) w.mappings.templates p.templates made.templates (λ k line t e is. is.grid);
  maps = each_here (IsArray w p.templates) (λ a. HomeFits p a a.home) w.names.arrays p.arrays made.arrays
      (λ k a m e is. home_passes w p k a m h e is.extents (few_extents a.extents (sizes_at w k a h e)) a.coarray m.home is.home);
  extents = all_pass_of (λ a. sizes_fit a.extents) p.arrays (each_here (IsArray w p.templates) (λ a. sizes_fit a.extents ≡ true) w.names.arrays p.arrays made.arrays
      (λ k a m e is. ap sizes_fit is.extents ∙ sizes_at w k a h e));
  cells =
      let all : (0 + cells_in w.names.arrays) * copies w ≤ 4194304 = cells_below (copies w) 0 w.names.arrays (omega arith) (no_cell_rule w h) in
      let z : 0 + cells_in w.names.arrays ≡ cells_in w.names.arrays = omega arith in
      subst (λ n. n * fits.copies p ≤ 4194304) (sym (cells_made w p.templates 0 w.names.arrays p.arrays made.arrays))
      (subst (λ n. cells_in w.names.arrays * n ≤ 4194304) (sym (copies_made w main p h c made)) (subst (λ n. n * copies w ≤ 4194304) z all));
}
