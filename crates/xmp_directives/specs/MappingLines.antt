-- The mapping directives where they stand: their names are resolved there, and their numbers kept (XcalableMP 1.4, section 4.3).
use Rattle.std.specs.Prelude.{⊤, ◌++◌, ◌∷◌, [], ℕ, ◌+◌, ◌==◌, List, ℤ, pos, Bool, true, false, not, Option, Some, None, length, map, slice_get}
use Rattle.xmp_base.specs.declared.place.Place.{Place}
use Rattle.xmp_syntax.specs.declared.parts.Name as named
use Rattle.xmp_syntax.specs.declared.parts.Inside.{Inside}
use Rattle.xmp_syntax.specs.declared.parts.Several.{Several}
use Rattle.xmp_syntax.specs.declared.parts.Several.TheVariants as several
use Rattle.xmp_syntax.specs.declared.parts.Single.{Single}
use Rattle.xmp_syntax.specs.declared.expression.Expr.{Expr}
use Rattle.xmp_syntax.specs.declared.directive.DirectiveLine.{DirectiveLine}
use Rattle.xmp_syntax.specs.declared.directive.DistForm.{DistForm}
use Rattle.xmp_syntax.specs.declared.directive.DistForm.TheVariants as dist
use Rattle.xmp_syntax.specs.declared.directive.AlignDimension.{AlignDimension}
use Rattle.xmp_syntax.specs.declared.directive.AlignDimension.TheVariants as dimension
use Rattle.xmp_syntax.specs.declared.directive.Point.{Point}
use Rattle.xmp_syntax.specs.declared.directive.Point.TheVariants as point
use Rattle.xmp_syntax.specs.declared.directive.NodesSet.{NodesSet}
use Rattle.xmp_syntax.specs.declared.directive.Mapping.{Mapping}
use Rattle.xmp_syntax.specs.declared.directive.Mapping.TheVariants as mapping
use Rattle.xmp_scopes.specs.Names as scope
use Rattle.xmp_names.specs.declared.names.Meaning.{Meaning}
use Rattle.xmp_names.specs.declared.names.Meaning.TheVariants.{Nodes, Template}
use Rattle.xmp_names.specs.declared.mappings.Notation.{Notation}
use Rattle.xmp_names.specs.declared.mappings.NodesLine.{NodesLine}
use Rattle.xmp_names.specs.declared.mappings.Form.{Form}
use Rattle.xmp_names.specs.declared.mappings.Form.TheVariants as form
use Rattle.xmp_names.specs.declared.mappings.AlignPoint.{AlignPoint}
use Rattle.xmp_names.specs.declared.mappings.AlignPoint.TheVariants as ap
use Rattle.xmp_names.specs.declared.rules.Rule.TheVariants.{N1, N2, N3}
use Rattle.xmp_names.specs.Walk.{Gave, Run, ◌>>=◌, pure, each, judge, constant, declare, meaning_of, name_of, an_array, a_nodes, a_template, directive_at, stands_outermost}
use Rattle.xmp_names.specs.Lists.{listed, inner, parts, notation, only, only_notation}
use Rattle.xmp_names.specs.Sizes.{extents_in, range_size}
use Rattle.xmp_directives.specs.Directives.{offset_of, match_template, second_of, set_of}

-- A mapping directive at its word.
abbrev pub mapping_at : DirectiveLine → Run ⊤
mapping_at line = do
  _ ← directive_at line.word
  stands_outermost line.word

-- ---- nodes and templates

abbrev pub new_nodes : NodesLine → Run ℕ
new_nodes l = λ w. Gave (length w.mappings.nodes) (record w {
  mappings = record w.mappings { nodes = w.mappings.nodes ++ l ∷ [] };
})

abbrev pub nodes_line : NodesLine → named.Name → Run ⊤
nodes_line l n = do
  number ← new_nodes l
  declare n (Nodes number)

-- A dimension of a template by its lower bound and its size: `[n]` has the coordinates 0 to n - 1, `n` in parentheses 1 to
-- n, and `l:u` l to u.
abbrev pub sized : Expr → Run (ℤ × ℤ)
sized x = do
  n ← constant x
  pure (pos 0, n)

abbrev pub bounds_of : ℤ → Option ℤ → ℤ × ℤ
bounds_of n None = (pos 1, n)
bounds_of lower (Some upper) = (lower, range_size lower upper)

abbrev pub ranged : Expr × Option (Place × Expr) → Run (ℤ × ℤ)
ranged x = do
  a ← constant x.0
  b ← second_of x.1
  pure (bounds_of a b)

abbrev pub template_dimensions : Several Expr (Expr × Option (Place × Expr)) → Run (List (ℤ × ℤ))
template_dimensions (several.Brackets xs) = each sized (inner xs)
template_dimensions (several.Parens x) = each ranged (listed x.item)

abbrev pub new_template : Place → Notation → List (ℤ × ℤ) → Run ℕ
new_template at written dims = λ w. Gave (length w.mappings.templates) (record w {
  mappings = record w.mappings {
    templates = w.mappings.templates ++ record { at = at; notation = written; lowers = map (λ d. d.0) dims; sizes = map (λ d. d.1) dims } ∷ [];
  };
})

abbrev pub template_line : Place → named.Name → Notation → List (ℤ × ℤ) → Run ⊤
template_line at n written dims = do
  number ← new_template at written dims
  declare n (Template number)

-- ---- distribute

abbrev pub width_of : Option (Inside Expr) → Run ℤ
width_of None = pure (pos 1)
width_of (Some x) = constant x.item

abbrev pub form_of : DistForm → Run Form
form_of (dist.Whole at) = pure form.Whole
form_of (dist.Block at) = pure form.Block
form_of (dist.Cyclic at width) = do
  w ← width_of width
  pure (form.Cyclic w)
form_of (dist.Gblock at lengths) = do
  ns ← each constant (listed lengths.item.item)
  pure (form.Gblock ns)

abbrev pub keep_distribution : Place → Option ℕ → List Form → Run ⊤
keep_distribution at None forms = pure tt
keep_distribution at (Some k) forms = λ w. Gave tt (record w {
  mappings = record w.mappings {
    distributions = w.mappings.distributions ++ record { at = at; template = k; forms = forms } ∷ [];
  };
})

abbrev pub distribute_line : Place → named.Name → Several DistForm DistForm → named.Name → Run ⊤
distribute_line at t forms onto = do
  template ← name_of a_template t
  kept ← each form_of (parts forms)
  _ ← match_template template (notation forms) (length kept) t.at
  _ ← name_of a_nodes onto
  keep_distribution at template kept

-- ---- align

-- The dummies of an align are the names of one scope, each with its dimension of the array; none stands there twice.
abbrev pub Dummies : Type 0
Dummies = List (List (scope.Name × ℕ))

abbrev pub dummy_of : ℕ → Dummies → AlignDimension → Run Dummies
dummy_of d known (dimension.Star at) = pure known
dummy_of d known (dimension.Dummy n) = do
  _ ← judge (not (scope.is_declared_here n.text known)) N2 n.at
  pure (scope.declare n.text d known)

abbrev pub dummies_from : ℕ → Dummies → List AlignDimension → Run Dummies
dummies_from d known [] = pure known
dummies_from d known (x ∷ xs) = do
  more ← dummy_of d known x
  dummies_from (d + 1) more xs

abbrev pub has_dummy : AlignDimension → Bool
has_dummy (dimension.Star at) = false
has_dummy (dimension.Dummy n) = true

-- A name in a point that is no dummy: it isn't known, or it is something else.
abbrev pub no_dummy : named.Name → Option Meaning → Run ⊤
no_dummy n None = judge false N1 n.at
no_dummy n (Some meaning) = judge false N3 n.at

abbrev pub dummy_in_point : named.Name → Option ℕ → Run ℕ
dummy_in_point n (Some d) = pure d
dummy_in_point n None = do
  meaning ← meaning_of n
  _ ← no_dummy n meaning
  pure 0

abbrev pub align_point : Dummies → Point → Run AlignPoint
align_point known (point.Star at) = pure ap.Star
align_point known (point.Index n offset) = do
  d ← dummy_in_point n (scope.nearest n.text known)
  c ← offset_of offset
  pure (ap.Dummy d c)

-- An array has as many dimensions in an align and in a shadow as extents.
abbrev pub match_array : Option ℕ → ℕ → Place → Run ⊤
match_array None count at = pure tt
match_array (Some k) count at = λ w. judge (count == length (extents_in (slice_get w.names.arrays k))) N3 at w

abbrev pub keep_align : Place → Option ℕ → Option ℕ → List Bool → List AlignPoint → Run ⊤
keep_align at (Some a) (Some t) dummies points = λ w. Gave tt (record w {
  mappings = record w.mappings {
    aligns = w.mappings.aligns ++ record { at = at; array = a; template = t; dummies = dummies; points = points } ∷ [];
  };
})
keep_align at _ _ dummies points = pure tt

-- The points over the dummies of the array, with the template.
abbrev pub aligned_points : List (Inside AlignDimension) → named.Name → Several Point Point → Run (Option ℕ × List AlignPoint)
aligned_points dimensions t points = do
  known ← dummies_from 0 [] (inner dimensions)
  template ← name_of a_template t
  kept ← each (align_point known) (parts points)
  pure (template, kept)

abbrev pub align_line : Place → named.Name → List (Inside AlignDimension) → named.Name → Several Point Point → Run ⊤
align_line at a dimensions t points = do
  array ← name_of an_array a
  _ ← match_array array (length dimensions) a.at
  onto ← aligned_points dimensions t points
  _ ← match_template onto.0 (notation points) (length onto.1) t.at
  keep_align at array onto.0 (map has_dummy (inner dimensions)) onto.1

-- ---- shadow

-- Both widths of a dimension; one number is both.
abbrev pub second_width : ℤ → Option (Place × Expr) → Run ℤ
second_width low None = pure low
second_width low (Some x) = constant x.1

abbrev pub widths_of : Expr × Option (Place × Expr) → Run (ℤ × ℤ)
widths_of x = do
  low ← constant x.0
  high ← second_width low x.1
  pure (low, high)

abbrev pub keep_shadow : Place → Option ℕ → List (ℤ × ℤ) → Run ⊤
keep_shadow at None widths = pure tt
keep_shadow at (Some k) widths = λ w. Gave tt (record w {
  mappings = record w.mappings {
    shadows = w.mappings.shadows ++ record { at = at; array = k; widths = widths } ∷ [];
  };
})

abbrev pub shadow_line : Place → named.Name → List (Inside (Expr × Option (Place × Expr))) → Run ⊤
shadow_line at a widths = do
  array ← name_of an_array a
  kept ← each widths_of (inner widths)
  _ ← match_array array (length kept) a.at
  keep_shadow at array kept

-- ---- all of them

-- The name of a nodes array and of a template is known behind its sizes, and that of a part behind the set that it names.
abbrev pub nodes_with_sizes : DirectiveLine → named.Name → Several Expr Expr → Run ⊤
nodes_with_sizes line n sizes = do
  values ← each constant (parts sizes)
  nodes_line (record { at = line.word; notation = notation sizes; sizes = Some values; part = false }) n

abbrev pub nodes_star : DirectiveLine → named.Name → Single Place → Run ⊤
nodes_star line n star = nodes_line (record { at = line.word; notation = only_notation star; sizes = None; part = false }) n

abbrev pub nodes_part : DirectiveLine → named.Name → Single Expr → NodesSet → Run ⊤
nodes_part line n size set = do
  value ← constant (only size)
  _ ← set_of false line.word set
  nodes_line (record { at = line.word; notation = only_notation size; sizes = Some (value ∷ []); part = true }) n

abbrev pub template_with_sizes : DirectiveLine → named.Name → Several Expr (Expr × Option (Place × Expr)) → Run ⊤
template_with_sizes line n sizes = do
  dims ← template_dimensions sizes
  template_line line.word n (notation sizes) dims

abbrev pub mapping_line : Mapping → Run ⊤
mapping_line (mapping.Nodes line n sizes) = nodes_with_sizes line n sizes
mapping_line (mapping.NodesStar line n star) = nodes_star line n star
mapping_line (mapping.NodesPart line n size at set) = nodes_part line n size set
mapping_line (mapping.Template line n sizes) = template_with_sizes line n sizes
mapping_line (mapping.Distribute line t forms at onto) = distribute_line line.word t forms onto
mapping_line (mapping.Align line a dimensions at t points) = align_line line.word a dimensions t points
mapping_line (mapping.Shadow line a widths) = shadow_line line.word a widths

abbrev pub line_of : Mapping → DirectiveLine
line_of (mapping.Nodes line n sizes) = line
line_of (mapping.NodesStar line n star) = line
line_of (mapping.NodesPart line n size at set) = line
line_of (mapping.Template line n sizes) = line
line_of (mapping.Distribute line t forms at onto) = line
line_of (mapping.Align line a dimensions at t points) = line
line_of (mapping.Shadow line a widths) = line

abbrev pub mapping_of : Mapping → Run ⊤
mapping_of x = do
  _ ← mapping_at (line_of x)
  mapping_line x
