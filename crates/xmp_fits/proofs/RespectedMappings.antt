-- The lines of mapping directives respect a relation that the single steps respect.
use Rattle.std.proofs.Common.{◌++◌, ◌∷◌, [], ℕ, ◌+◌, List, Bool, true, false, Option, Some, None, length, map}
use Rattle.std.specs.Prelude.{⊤, ℤ, pos, not}
use Rattle.xmp_base.specs.declared.place.Place.{Place}
use Rattle.xmp_syntax.specs.declared.parts.Name as named
use Rattle.xmp_syntax.specs.declared.parts.Inside.{Inside}
use Rattle.xmp_syntax.specs.declared.parts.Several.{Several}
use Rattle.xmp_syntax.specs.declared.parts.Several.TheVariants as several
use Rattle.xmp_syntax.specs.declared.parts.Single.{Single}
use Rattle.xmp_syntax.specs.declared.expression.Expr.{Expr}
use Rattle.xmp_syntax.specs.declared.directive.DistForm.{DistForm}
use Rattle.xmp_syntax.specs.declared.directive.DistForm.TheVariants as dist
use Rattle.xmp_syntax.specs.declared.directive.AlignDimension.{AlignDimension}
use Rattle.xmp_syntax.specs.declared.directive.AlignDimension.TheVariants as dimension
use Rattle.xmp_syntax.specs.declared.directive.Point.{Point}
use Rattle.xmp_syntax.specs.declared.directive.Point.TheVariants as point
use Rattle.xmp_syntax.specs.declared.directive.DirectiveLine.{DirectiveLine}
use Rattle.xmp_syntax.specs.declared.directive.NodesSet.{NodesSet}
use Rattle.xmp_syntax.specs.declared.directive.Mapping.{Mapping}
use Rattle.xmp_syntax.specs.declared.directive.Mapping.TheVariants as mapping
use Rattle.xmp_scopes.specs.Names as scope
use Rattle.xmp_names.specs.declared.names.Meaning.{Meaning}
use Rattle.xmp_names.specs.declared.mappings.NodesLine.{NodesLine}
use Rattle.xmp_names.specs.declared.mappings.Notation.{Notation}
use Rattle.xmp_names.specs.declared.mappings.Form.{Form}
use Rattle.xmp_names.specs.declared.mappings.Form.TheVariants as form
use Rattle.xmp_names.specs.declared.mappings.AlignPoint.{AlignPoint}
use Rattle.xmp_names.specs.declared.mappings.AlignPoint.TheVariants as ap_of
use Rattle.xmp_names.specs.declared.rules.Rule.TheVariants.{N1, N2, N3}
use Rattle.xmp_names.specs.Walk.{an_array, a_nodes, a_template}
use Rattle.xmp_names.specs.Lists.{listed, inner, parts, notation, only, only_notation}
use Rattle.xmp_directives.specs.MappingLines as lines
use Rattle.xmp_directives.specs.MappingLines.{Dummies, bounds_of, has_dummy, line_of}
use Rattle.xmp_names.specs.declared.world.World.{World}
use Rattle.xmp_fits.proofs.Laters.{begins_refl, begins_with}
use Rattle.xmp_fits.proofs.Respected.{Keeps, Respected, Going, ◌>>=◌, pure, each, then_keeps}
use Rattle.xmp_fits.proofs.RespectedSteps.{judge, constant, meaning_of, name_of, directive_at, stands_outermost}
use Rattle.xmp_fits.proofs.RespectedLines.{offset_of, match_template, match_array}
use Rattle.xmp_fits.proofs.RespectedDirectives.{second_of, set_of}

module _ {K : World → World → Type 0} (R : Respected K) where
  -- ---- nodes and templates

  abbrev pub nodes_line : NodesLine → named.Name → Going R ⊤
  nodes_line l n = record { run = lines.nodes_line l n; kept = R.nodes l n }

  abbrev pub template_line : Place → named.Name → Notation → List (ℤ × ℤ) → Going R ⊤
  template_line at n written dims = record { run = lines.template_line at n written dims; kept = R.template at n written dims }

  abbrev pub sized : Expr → Going R (ℤ × ℤ)
  sized x = do
    n ← constant R x
    pure R (pos 0, n)

  abbrev pub ranged : Expr × Option (Place × Expr) → Going R (ℤ × ℤ)
  ranged x = do
    a ← constant R x.0
    b ← second_of R x.1
    pure R (bounds_of a b)

  pub dimensions_kept : (x : Several Expr (Expr × Option (Place × Expr))) → Keeps K (lines.template_dimensions x)
  dimensions_kept (several.Brackets xs) = (each R sized (inner xs)).kept
  dimensions_kept (several.Parens x) = (each R ranged (listed x.item)).kept

  abbrev pub template_dimensions : Several Expr (Expr × Option (Place × Expr)) → Going R (List (ℤ × ℤ))
  template_dimensions x = record { run = lines.template_dimensions x; kept = dimensions_kept x }

  -- ---- distribute

  pub width_kept : (x : Option (Inside Expr)) → Keeps K (lines.width_of x)
  width_kept None = (pure R (pos 1)).kept
  width_kept (Some x) = (constant R x.item).kept

  abbrev pub width_of : Option (Inside Expr) → Going R ℤ
  width_of x = record { run = lines.width_of x; kept = width_kept x }

  pub form_kept : (f : DistForm) → Keeps K (lines.form_of f)
  form_kept (dist.Whole at) = (pure R form.Whole).kept
  form_kept (dist.Block at) = (pure R form.Block).kept
  form_kept (dist.Cyclic at width) = (do
    w ← width_of width
    pure R (form.Cyclic w)).kept
  form_kept (dist.Gblock at lengths) = (do
    ns ← each R (constant R) (listed lengths.item.item)
    pure R (form.Gblock ns)).kept

  abbrev pub form_of : DistForm → Going R Form
  form_of f = record { run = lines.form_of f; kept = form_kept f }

  pub distribution_kept : (at : Place) (t : Option ℕ) (forms : List Form) → Keeps K (lines.keep_distribution at t forms)
  distribution_kept at None forms = record { at = R.same }
  distribution_kept at (Some k) forms = record {
    at = λ w.
        R.mapped w (record w.mappings { distributions = w.mappings.distributions ++ record { at = at; template = k; forms = forms } ∷ [] }) w.deepest w.broken
        (record { nodes = begins_refl w.mappings.nodes; templates = begins_refl w.mappings.templates; distributions = begins_with w.mappings.distributions _; aligns = begins_refl w.mappings.aligns; shadows = begins_refl w.mappings.shadows; loops = begins_refl w.mappings.loops }) (begins_refl w.broken);
  }

  abbrev pub keep_distribution : Place → Option ℕ → List Form → Going R ⊤
  keep_distribution at t forms = record { run = lines.keep_distribution at t forms; kept = distribution_kept at t forms }

  abbrev pub distribute_line : Place → named.Name → Several DistForm DistForm → named.Name → Going R ⊤
  distribute_line at t forms onto = do
    template ← name_of R a_template t
    kept ← each R form_of (parts forms)
    _ ← match_template R template (notation forms) (length kept) t.at
    _ ← name_of R a_nodes onto
    keep_distribution at template kept

  -- ---- align

  pub dummy_kept : (d : ℕ) (known : Dummies) (x : AlignDimension) → Keeps K (lines.dummy_of d known x)
  dummy_kept d known (dimension.Star at) = (pure R known).kept
  dummy_kept d known (dimension.Dummy n) = (do
    _ ← judge R (not (scope.is_declared_here n.text known)) N2 n.at
    pure R (scope.declare n.text d known)).kept

  pub dummies_kept : (d : ℕ) (known : Dummies) (xs : List AlignDimension) → Keeps K (lines.dummies_from d known xs)
  dummies_kept d known [] = record { at = R.same }
  dummies_kept d known (x ∷ xs) = record { at = λ w. then_keeps R w (lines.dummy_of d known x w) (λ more. lines.dummies_from (d + 1) more xs) ((dummy_kept d known x).at w) (λ more. dummies_kept (d + 1) more xs) }

  abbrev pub dummies_from : ℕ → Dummies → List AlignDimension → Going R Dummies
  dummies_from d known xs = record { run = lines.dummies_from d known xs; kept = dummies_kept d known xs }

  pub no_dummy_kept : (n : named.Name) (m : Option Meaning) → Keeps K (lines.no_dummy n m)
  no_dummy_kept n None = (judge R false N1 n.at).kept
  no_dummy_kept n (Some m) = (judge R false N3 n.at).kept

  abbrev pub no_dummy : named.Name → Option Meaning → Going R ⊤
  no_dummy n m = record { run = lines.no_dummy n m; kept = no_dummy_kept n m }

  pub in_point_kept : (n : named.Name) (d : Option ℕ) → Keeps K (lines.dummy_in_point n d)
  in_point_kept n (Some d) = (pure R d).kept
  in_point_kept n None = (do
    m ← meaning_of R n
    _ ← no_dummy n m
    pure R 0).kept

  abbrev pub dummy_in_point : named.Name → Option ℕ → Going R ℕ
  dummy_in_point n d = record { run = lines.dummy_in_point n d; kept = in_point_kept n d }

  pub point_kept : (known : Dummies) (x : Point) → Keeps K (lines.align_point known x)
  point_kept known (point.Star at) = (pure R ap_of.Star).kept
  point_kept known (point.Index n offset) = (do
    d ← dummy_in_point n (scope.nearest n.text known)
    c ← offset_of R offset
    pure R (ap_of.Dummy d c)).kept

  abbrev pub align_point : Dummies → Point → Going R AlignPoint
  align_point known x = record { run = lines.align_point known x; kept = point_kept known x }

  pub align_kept : (at : Place) (a t : Option ℕ) (dummies : List Bool) (points : List AlignPoint) → Keeps K (lines.keep_align at a t dummies points)
  align_kept at (Some a) (Some t) dummies points = record {
    at = λ w.
        R.mapped w (record w.mappings { aligns = w.mappings.aligns ++ record { at = at; array = a; template = t; dummies = dummies; points = points } ∷ [] }) w.deepest w.broken
        (record { nodes = begins_refl w.mappings.nodes; templates = begins_refl w.mappings.templates; distributions = begins_refl w.mappings.distributions; aligns = begins_with w.mappings.aligns _; shadows = begins_refl w.mappings.shadows; loops = begins_refl w.mappings.loops }) (begins_refl w.broken);
  }
  align_kept at (Some a) None dummies points = record { at = R.same }
  align_kept at None t dummies points = record { at = R.same }

  abbrev pub keep_align : Place → Option ℕ → Option ℕ → List Bool → List AlignPoint → Going R ⊤
  keep_align at a t dummies points = record { run = lines.keep_align at a t dummies points; kept = align_kept at a t dummies points }

  abbrev pub aligned_points : List (Inside AlignDimension) → named.Name → Several Point Point → Going R (Option ℕ × List AlignPoint)
  aligned_points dimensions t points = do
    known ← dummies_from 0 [] (inner dimensions)
    template ← name_of R a_template t
    kept ← each R (align_point known) (parts points)
    pure R (template, kept)

  abbrev pub align_line : Place → named.Name → List (Inside AlignDimension) → named.Name → Several Point Point → Going R ⊤
  align_line at a dimensions t points = do
    array ← name_of R an_array a
    _ ← match_array R array (length dimensions) a.at
    onto ← aligned_points dimensions t points
    _ ← match_template R onto.0 (notation points) (length onto.1) t.at
    keep_align at array onto.0 (map has_dummy (inner dimensions)) onto.1

  -- ---- shadow

  pub second_kept : (low : ℤ) (x : Option (Place × Expr)) → Keeps K (lines.second_width low x)
  second_kept low None = (pure R low).kept
  second_kept low (Some x) = (constant R x.1).kept

  abbrev pub second_width : ℤ → Option (Place × Expr) → Going R ℤ
  second_width low x = record { run = lines.second_width low x; kept = second_kept low x }

  abbrev pub widths_of : Expr × Option (Place × Expr) → Going R (ℤ × ℤ)
  widths_of x = do
    low ← constant R x.0
    high ← second_width low x.1
    pure R (low, high)

  pub shadow_kept : (at : Place) (a : Option ℕ) (widths : List (ℤ × ℤ)) → Keeps K (lines.keep_shadow at a widths)
  shadow_kept at None widths = record { at = R.same }
  shadow_kept at (Some k) widths = record {
    at = λ w.
        R.mapped w (record w.mappings { shadows = w.mappings.shadows ++ record { at = at; array = k; widths = widths } ∷ [] }) w.deepest w.broken
        (record { nodes = begins_refl w.mappings.nodes; templates = begins_refl w.mappings.templates; distributions = begins_refl w.mappings.distributions; aligns = begins_refl w.mappings.aligns; shadows = begins_with w.mappings.shadows _; loops = begins_refl w.mappings.loops }) (begins_refl w.broken);
  }

  abbrev pub keep_shadow : Place → Option ℕ → List (ℤ × ℤ) → Going R ⊤
  keep_shadow at a widths = record { run = lines.keep_shadow at a widths; kept = shadow_kept at a widths }

  abbrev pub shadow_line : Place → named.Name → List (Inside (Expr × Option (Place × Expr))) → Going R ⊤
  shadow_line at a widths = do
    array ← name_of R an_array a
    kept ← each R widths_of (inner widths)
    _ ← match_array R array (length kept) a.at
    keep_shadow at array kept

  -- ---- all of them

  abbrev pub nodes_with_sizes : DirectiveLine → named.Name → Several Expr Expr → Going R ⊤
  nodes_with_sizes line n sizes = do
    values ← each R (constant R) (parts sizes)
    nodes_line (record { at = line.word; notation = notation sizes; sizes = Some values; part = false }) n

  abbrev pub nodes_part : DirectiveLine → named.Name → Single Expr → NodesSet → Going R ⊤
  nodes_part line n size set = do
    value ← constant R (only size)
    _ ← set_of R false line.word set
    nodes_line (record { at = line.word; notation = only_notation size; sizes = Some (value ∷ []); part = true }) n

  abbrev pub template_with_sizes : DirectiveLine → named.Name → Several Expr (Expr × Option (Place × Expr)) → Going R ⊤
  template_with_sizes line n sizes = do
    dims ← template_dimensions sizes
    template_line line.word n (notation sizes) dims

  abbrev pub mapping_line : Mapping → Going R ⊤
  mapping_line (mapping.Nodes line n sizes) = nodes_with_sizes line n sizes
  mapping_line (mapping.NodesStar line n star) = nodes_line (record { at = line.word; notation = only_notation star; sizes = None; part = false }) n
  mapping_line (mapping.NodesPart line n size at set) = nodes_part line n size set
  mapping_line (mapping.Template line n sizes) = template_with_sizes line n sizes
  mapping_line (mapping.Distribute line t forms at onto) = distribute_line line.word t forms onto
  mapping_line (mapping.Align line a dims at t points) = align_line line.word a dims t points
  mapping_line (mapping.Shadow line a widths) = shadow_line line.word a widths

  abbrev pub mapping_of : Mapping → Going R ⊤
  mapping_of x = do
    _ ← directive_at R (line_of x).word
    _ ← stands_outermost R (line_of x).word
    mapping_line x

  pub mapping_kept : (x : Mapping) → Keeps K (lines.mapping_of x)
  mapping_kept (mapping.Nodes line n sizes) = (mapping_of (mapping.Nodes line n sizes)).kept
  mapping_kept (mapping.NodesStar line n star) = (mapping_of (mapping.NodesStar line n star)).kept
  mapping_kept (mapping.NodesPart line n size at set) = (mapping_of (mapping.NodesPart line n size at set)).kept
  mapping_kept (mapping.Template line n sizes) = (mapping_of (mapping.Template line n sizes)).kept
  mapping_kept (mapping.Distribute line t forms at onto) = (mapping_of (mapping.Distribute line t forms at onto)).kept
  mapping_kept (mapping.Align line a dims at t points) = (mapping_of (mapping.Align line a dims at t points)).kept
  mapping_kept (mapping.Shadow line a widths) = (mapping_of (mapping.Shadow line a widths)).kept
