-- The rules of mappings, and the rule of names on parts of nodes arrays, over the whole program: a mapping holds wherever it
-- stands (XcalableMP 1.4, section 4.3).
-- Where a second `nodes`, or a second distribution, align or shadow of one name stands, it breaks a rule itself, and all
-- other rules go by the first.
use Rattle.std.specs.Prelude.{◌++◌, ◌∷◌, [], ℕ, ◌+◌, ◌*◌, ◌==◌, List, ℤ, pos, negsuc, ◌+ℤ◌, ◌-ℤ◌, int_le, nat_le, Bool, true, false, not, ◌&&◌, ◌||◌, if◌then◌else◌, Option, Some, None, is_some, length, map, slice_get}
use Rattle.std.specs.Option.{unwrap_or}
use Rattle.std.specs.Ordering.{int_eq}
use Rattle.std.specs.List.{list_all, flat_map, count_by, enumerate_from, sum, position_from}
use Rattle.xmp_base.specs.declared.place.Place.{Place}
use Rattle.xmp_map.specs.RowMajor.{product}
use Rattle.xmp_map.specs.Spread.{sizes_fit}
use Rattle.xmp_names.specs.declared.names.Array.{Array}
use Rattle.xmp_names.specs.declared.mappings.Form.{Form}
use Rattle.xmp_names.specs.declared.mappings.Form.TheVariants as form
use Rattle.xmp_names.specs.declared.mappings.AlignPoint.{AlignPoint}
use Rattle.xmp_names.specs.declared.mappings.AlignPoint.TheVariants as ap
use Rattle.xmp_names.specs.declared.mappings.NodesLine.{NodesLine}
use Rattle.xmp_names.specs.declared.mappings.TemplateLine.{TemplateLine}
use Rattle.xmp_names.specs.declared.mappings.Distribution.{Distribution}
use Rattle.xmp_names.specs.declared.mappings.Align.{Align}
use Rattle.xmp_names.specs.declared.mappings.Shadow.{Shadow}
use Rattle.xmp_names.specs.declared.mappings.LoopUse.{LoopUse}
use Rattle.xmp_names.specs.declared.rules.Rule.TheVariants.{N9, M1, M2, M3, M4, M5, M6, M7, M10}
use Rattle.xmp_names.specs.declared.rules.Broken.{Broken}
use Rattle.xmp_names.specs.declared.world.World.{World}
use Rattle.xmp_names.specs.Rules.{unless}
use Rattle.xmp_mapping_rules.specs.Numbers.{first_place, is_at}
use Rattle.xmp_names.specs.Sizes.{is_extent, most_cells, is_small, lower_at, natural, given_or_one, line_sizes, extents_in}

-- ---- the first of several

-- An item of a list by its place.
abbrev pub item_at : {A : Type 0} → List A → Option ℕ → Option A
item_at xs None = None
item_at xs (Some i) = slice_get xs i

-- The template of each distribution, and the array of each align and each shadow, by their numbers.
abbrev pub distributed : World → List ℕ
distributed w = map (λ d. d.template) w.mappings.distributions

abbrev pub aligned : World → List ℕ
aligned w = map (λ a. a.array) w.mappings.aligns

abbrev pub shadowed : World → List ℕ
shadowed w = map (λ s. s.array) w.mappings.shadows

-- The first distribution of a template, and the first align of an array.
abbrev pub distribution_of : World → ℕ → Option Distribution
distribution_of w k = item_at w.mappings.distributions (first_place k (distributed w))

abbrev pub align_of : World → ℕ → Option Align
align_of w k = item_at w.mappings.aligns (first_place k (aligned w))

-- And the first shadow of an array.
abbrev pub shadow_of : World → ℕ → Option Shadow
shadow_of w k = item_at w.mappings.shadows (first_place k (shadowed w))

-- The forms of a template, in the order of its dimensions; none where it is never distributed. And its sizes.
abbrev pub forms_in : Option Distribution → List Form
forms_in None = []
forms_in (Some d) = d.forms

abbrev pub forms_of : World → ℕ → List Form
forms_of w k = forms_in (distribution_of w k)

abbrev pub template_sizes_in : Option TemplateLine → List ℤ
template_sizes_in None = []
template_sizes_in (Some t) = t.sizes

abbrev pub template_sizes : World → ℕ → List ℤ
template_sizes w k = template_sizes_in (slice_get w.mappings.templates k)

-- And its lower bounds.
abbrev pub template_lowers_in : Option TemplateLine → List ℤ
template_lowers_in None = []
template_lowers_in (Some t) = t.lowers

abbrev pub template_lowers : World → ℕ → List ℤ
template_lowers w k = template_lowers_in (slice_get w.mappings.templates k)

-- Whether a form distributes its dimension, and whether by one interval for each node.
abbrev pub is_distributed : Form → Bool
is_distributed form.Whole = false
is_distributed form.Block = true
is_distributed (form.Cyclic n) = true
is_distributed (form.Gblock ns) = true

abbrev pub has_intervals : Form → Bool
has_intervals form.Whole = false
has_intervals form.Block = true
has_intervals (form.Cyclic n) = false
has_intervals (form.Gblock ns) = true

-- The same of a dimension that may have no form.
abbrev pub distributes : Option Form → Bool
distributes None = false
distributes (Some f) = is_distributed f

abbrev pub spans_intervals : Option Form → Bool
spans_intervals None = false
spans_intervals (Some f) = has_intervals f

-- ---- nodes

-- The nodes array of a program is the first that is no part of another.
abbrev pub first_nodes : World → Option ℕ
first_nodes w = position_from (λ l. not l.part) 0 w.mappings.nodes

-- Its sizes; where there is none all nodes stand in a row.
abbrev pub sizes_or_row : ℕ → Option NodesLine → List ℤ
sizes_or_row given None = pos given ∷ []
sizes_or_row given (Some l) = line_sizes given l

abbrev pub nodes_of : World → List ℤ
nodes_of w = sizes_or_row (given_or_one w) (item_at w.mappings.nodes (first_nodes w))

-- How many nodes an array of these sizes has.
abbrev pub node_product : List ℤ → ℕ
node_product sizes = product (map natural sizes)

-- The number of nodes: the given one, else the product of the sizes, in which `*` is 1; 1 without a nodes array.
abbrev pub number_of_nodes : World → ℕ
number_of_nodes w = unwrap_or w.given (node_product (nodes_of w))

-- One to three sizes, each at least 1, whose product is at most 16 and is the given number.
abbrev pub is_given : Option ℕ → ℕ → Bool
is_given None n = true
is_given (Some given) n = n == given

abbrev pub one_to_three : ℕ → Bool
one_to_three n = nat_le 1 n && nat_le n 3

abbrev pub nodes_right : Option ℕ → List ℤ → Bool
nodes_right given sizes =
    one_to_three (length sizes)
    && (list_all (λ n. int_le (pos 1) n) sizes && (nat_le (node_product sizes) 16 && is_given given (node_product sizes)))

-- There is one `nodes` without `=`, which is right, and none with it.
abbrev pub nodes_rule : World → ℕ × NodesLine → List Broken
nodes_rule w x =
    if x.1.part then unless false N9 x.1.at
    else unless (is_at x.0 (first_nodes w) && nodes_right w.given (line_sizes (given_or_one w) x.1)) M1 x.1.at

-- A program with a directive has it.
abbrev pub has_nodes : Option ℕ → Option Place → List Broken
has_nodes found None = []
has_nodes found (Some at) = unless (is_some found) M1 at

-- ---- templates and distributions

-- A template has one to three dimensions, each of 1 to 4,194,304 with a lower bound of at most 4,194,304 in size, and is
-- distributed. (A dimension with a bound beyond 8,388,608 has the size 0.)
abbrev pub template_rule : World → ℕ × TemplateLine → List Broken
template_rule w x =
    unless (one_to_three (length x.1.sizes) && (list_all is_extent x.1.sizes && list_all is_small x.1.lowers)) M2 x.1.at
    ++ unless (is_some (first_place x.0 (distributed w))) M3 x.1.at

-- It has one form for each dimension, and is distributed in as many dimensions as the nodes array has.
abbrev pub spread_right : List ℤ → List ℤ → List Form → Bool
spread_right nodes sizes forms = (length forms == length sizes) && (count_by is_distributed forms == length nodes)

-- A cyclic width is 1 to 4,194,304; the lengths of a gblock are as many as the nodes along its dimension, none is negative,
-- and their sum is the size.
abbrev pub counts : ℕ → ℤ → Bool
counts n (pos m) = n == m
counts n (negsuc m) = false

abbrev pub lengths_right : List ℤ → ℤ → Bool
lengths_right ns size = list_all (λ n. int_le (pos 0) n) ns && counts (sum (map natural ns)) size

abbrev pub form_right : Form → ℤ → ℤ → Bool
form_right form.Whole size parts = true
form_right form.Block size parts = true
form_right (form.Cyclic n) size parts = is_extent n
form_right (form.Gblock ns) size parts = counts (length ns) parts && lengths_right ns size

-- The k-th distributed dimension lies on the k-th dimension of the nodes array.
abbrev pub form_fits : Form → ℤ → List ℤ → Bool
form_fits f size [] = true
form_fits f size (parts ∷ more) = form_right f size parts

abbrev pub nodes_behind : Form → List ℤ → List ℤ
nodes_behind f [] = []
nodes_behind f (parts ∷ more) = if is_distributed f then more else parts ∷ more

abbrev pub forms_right : List Form → List ℤ → List ℤ → Bool
forms_right [] sizes nodes = true
forms_right (f ∷ fs) [] nodes = true
forms_right (f ∷ fs) (n ∷ ns) nodes = form_fits f n nodes && forms_right fs ns (nodes_behind f nodes)

-- A template is distributed once.
abbrev pub is_first_distribution : World → ℕ × Distribution → Bool
is_first_distribution w x = is_at x.0 (first_place x.1.template (distributed w))

abbrev pub distribution_rule : World → ℕ × Distribution → List Broken
distribution_rule w x =
    unless (is_first_distribution w x && spread_right (nodes_of w) (template_sizes w x.1.template) x.1.forms) M3 x.1.at
    ++ unless (not (is_first_distribution w x) || forms_right x.1.forms (template_sizes w x.1.template) (nodes_of w)) M4 x.1.at

-- ---- aligns

-- The dimensions of the array that stand in points, in the order of the template's.
abbrev pub dimension_in : AlignPoint → List ℕ
dimension_in ap.Star = []
dimension_in (ap.Dummy dimension offset) = dimension ∷ []

abbrev pub dimensions_in : List AlignPoint → List ℕ
dimensions_in points = flat_map dimension_in points

-- No dimension stands in two points, and each one with a dummy stands in one.
abbrev pub all_different : List ℕ → Bool
all_different ds = list_all (λ x. is_at x.0 (first_place x.1 ds)) (enumerate_from 0 ds)

abbrev pub dummies_right : List Bool → List ℕ → Bool
dummies_right dummies ds = list_all (λ x. not x.1 || is_some (first_place x.0 ds)) (enumerate_from 0 dummies)

-- The point of a dimension of the template: a distributed one is named, the written constant is small, and no position of
-- the array, which is the coordinate less the lower bound, leaves the template.
abbrev pub reaches : ℤ → ℤ → Option ℕ → Bool
reaches size position None = false
reaches size position (Some extent) = int_le (pos 0) position && int_le (position +ℤ pos extent) size

abbrev pub point_right : List ℕ → Bool → ℤ → ℤ → AlignPoint → Bool
point_right extents spread lower size ap.Star = not spread
point_right extents spread lower size (ap.Dummy d c) = is_small c && reaches size (c -ℤ lower) (slice_get extents d)

abbrev pub point_fits : List ℕ → Bool → ℤ → Option ℤ → AlignPoint → Bool
point_fits extents spread lower None p = false
point_fits extents spread lower (Some size) p = point_right extents spread lower size p

abbrev pub points_right : List ℕ → List Form → List ℤ → List ℤ → List AlignPoint → Bool
points_right extents forms lowers sizes points =
    list_all (λ x. point_fits extents (distributes (slice_get forms x.0)) (lower_at lowers x.0) (slice_get sizes x.0) x.1) (enumerate_from 0 points)

-- An array is aligned once, and not in a program with a coarray.
abbrev pub is_first_align : World → ℕ × Align → Bool
is_first_align w x = is_at x.0 (first_place x.1.array (aligned w))

-- (A wrong number of dimensions or points breaks a rule of names as well.)
abbrev pub align_right : World → Align → Bool
align_right w a =
    ((length a.dummies == length (extents_in (slice_get w.names.arrays a.array))) && (one_to_three (length a.points) && (length a.points == length (template_sizes w a.template))))
    && ((all_different (dimensions_in a.points) && dummies_right a.dummies (dimensions_in a.points))
    && points_right (extents_in (slice_get w.names.arrays a.array)) (forms_of w a.template) (template_lowers w a.template) (template_sizes w a.template) a.points)

abbrev pub align_rule : World → ℕ × Align → List Broken
align_rule w x = unless (is_first_align w x && (not w.names.coarray && align_right w x.1)) M5 x.1.at

-- ---- shadows

-- The dimensions of the array that are aligned with one that has intervals.
abbrev pub interval_dimension : List Form → ℕ × AlignPoint → List ℕ
interval_dimension forms x = if spans_intervals (slice_get forms x.0) then dimension_in x.1 else []

abbrev pub interval_dimensions : List Form → List AlignPoint → List ℕ
interval_dimensions forms points = flat_map (interval_dimension forms) (enumerate_from 0 points)

-- Both widths are 0 to 4,194,304, and 0 unless the dimension has intervals.
abbrev pub is_width : ℤ → Bool
is_width n = int_le (pos 0) n && int_le n (pos most_cells)

abbrev pub width_right : List ℕ → ℕ × (ℤ × ℤ) → Bool
width_right ds x =
    (is_width x.1.0 && is_width x.1.1)
    && ((int_eq x.1.0 (pos 0) && int_eq x.1.1 (pos 0)) || is_some (first_place x.0 ds))

abbrev pub widths_right : List ℕ → List (ℤ × ℤ) → Bool
widths_right ds widths = list_all (width_right ds) (enumerate_from 0 widths)

-- The array is aligned, and has one shadow, with widths for each of its dimensions.
abbrev pub shadow_right : World → Option Align → Shadow → Bool
shadow_right w None s = false
shadow_right w (Some a) s =
    (length s.widths == length (extents_in (slice_get w.names.arrays s.array)))
    && widths_right (interval_dimensions (forms_of w a.template) a.points) s.widths

abbrev pub is_first_shadow : World → ℕ × Shadow → Bool
is_first_shadow w x = is_at x.0 (first_place x.1.array (shadowed w))

abbrev pub shadow_rule : World → ℕ × Shadow → List Broken
shadow_rule w x = unless (is_first_shadow w x && shadow_right w (align_of w x.1.array) x.1) M6 x.1.at

-- ---- loop directives

-- The point of each distributed dimension of the template has an index.
abbrev pub indexed_right : List Form → List Bool → Bool
indexed_right forms indexed = list_all (λ x. x.1 || not (distributes (slice_get forms x.0))) (enumerate_from 0 indexed)

abbrev pub loop_rule : World → ℕ × LoopUse → List Broken
loop_rule w x = unless (indexed_right (forms_of w x.1.template) x.1.indexed) M7 x.1.at

-- ---- cells

-- The cells of all arrays so far, in a program with a coarray once for each node, are at most 4,194,304. An array whose
-- extents are wrong, which breaks a rule of names as well, can't be counted.
abbrev pub copies : World → ℕ
copies w = if w.names.coarray then number_of_nodes w else 1

abbrev pub cells_from : ℕ → ℕ → List Array → List Broken
cells_from copies before [] = []
cells_from copies before (a ∷ more) =
    unless (sizes_fit a.extents && nat_le ((before + product a.extents) * copies) most_cells) M10 a.at
    ++ cells_from copies (before + product a.extents) more

-- ---- all rules of mappings that are judged over the whole program

abbrev pub nodes_rules : World → List Broken
nodes_rules w =
    flat_map (nodes_rule w) (enumerate_from 0 w.mappings.nodes) ++ has_nodes (first_nodes w) w.mappings.first_directive

abbrev pub template_rules : World → List Broken
template_rules w = flat_map (template_rule w) (enumerate_from 0 w.mappings.templates)

abbrev pub distribution_rules : World → List Broken
distribution_rules w = flat_map (distribution_rule w) (enumerate_from 0 w.mappings.distributions)

abbrev pub align_rules : World → List Broken
align_rules w = flat_map (align_rule w) (enumerate_from 0 w.mappings.aligns)

abbrev pub shadow_rules : World → List Broken
shadow_rules w = flat_map (shadow_rule w) (enumerate_from 0 w.mappings.shadows)

abbrev pub loop_rules : World → List Broken
loop_rules w = flat_map (loop_rule w) (enumerate_from 0 w.mappings.loops)

abbrev pub cell_rules : World → List Broken
cell_rules w = cells_from (copies w) 0 w.names.arrays

abbrev pub mapping_rules : World → List Broken
mapping_rules w =
    nodes_rules w ++ (template_rules w ++ (distribution_rules w
    ++ (align_rules w ++ (shadow_rules w ++ (loop_rules w ++ cell_rules w)))))
