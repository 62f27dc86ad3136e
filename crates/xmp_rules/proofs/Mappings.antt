-- Mapping directives note what breaks at their spots, and declare nodes arrays and templates.
use Rattle.std.proofs.Common.{◌≡◌, ◌∙◌, refl, sym, ap, subst, ◌++◌, ◌∷◌, [], ℕ, ◌+◌, List, Bool, true, false, not, ◌||◌, ◌==◌, Option, Some, None, is_some, length, map, flat_map, slice_get, cond, if◌then◌else◌, append_assoc, append-nil}
use Rattle.std.proofs.lemmas.Grind.{flat_map-append}
use Rattle.std.specs.Prelude.{⊤, ℤ, pos}
use Rattle.std.specs.List.{list_any}
use Rattle.std.specs.Option.{option_or}
use Rattle.xmp_base.specs.declared.place.Place.{Place}
use Rattle.xmp_syntax.specs.declared.parts.Name as named
use Rattle.xmp_syntax.specs.declared.parts.Inside.{Inside}
use Rattle.xmp_syntax.specs.declared.parts.Several.{Several}
use Rattle.xmp_syntax.specs.declared.parts.Several.TheVariants as several
use Rattle.xmp_syntax.specs.declared.expression.Expr.{Expr}
use Rattle.xmp_syntax.specs.declared.directive.DirectiveLine.{DirectiveLine}
use Rattle.xmp_syntax.specs.declared.directive.DistForm.{DistForm}
use Rattle.xmp_syntax.specs.declared.directive.DistForm.TheVariants as dist
use Rattle.xmp_syntax.specs.declared.directive.AlignDimension.{AlignDimension}
use Rattle.xmp_syntax.specs.declared.directive.AlignDimension.TheVariants as dimension
use Rattle.xmp_syntax.specs.declared.directive.Point.{Point}
use Rattle.xmp_syntax.specs.declared.directive.Point.TheVariants as point
use Rattle.xmp_syntax.specs.declared.directive.Mapping.{Mapping}
use Rattle.xmp_syntax.specs.declared.directive.Mapping.TheVariants as mapping
use Rattle.xmp_scopes.specs.Names as scope
use Rattle.xmp_scopes.specs.Names.{Name, is_same, in_scope, nearest}
use Rattle.xmp_names.specs.declared.names.Meaning.{Meaning}
use Rattle.xmp_names.specs.declared.names.Meaning.TheVariants as m
use Rattle.xmp_names.specs.declared.mappings.Notation.{Notation}
use Rattle.xmp_names.specs.declared.mappings.NodesLine.{NodesLine}
use Rattle.xmp_names.specs.declared.mappings.Form.{Form}
use Rattle.xmp_names.specs.declared.mappings.Form.TheVariants as form
use Rattle.xmp_names.specs.declared.mappings.AlignPoint.{AlignPoint}
use Rattle.xmp_names.specs.declared.mappings.AlignPoint.TheVariants as ap_
use Rattle.xmp_names.specs.declared.rules.Rule.TheVariants.{N1, N2, N3}
use Rattle.xmp_names.specs.declared.world.World.{World}
use Rattle.xmp_names.specs.Rules.{unless}
use Rattle.xmp_names.specs.Lists.{listed, inner, parts, notation, only, only_notation}
use Rattle.xmp_names.specs.Sizes.{extents_in}
use Rattle.xmp_names.specs.Walk as walk
use Rattle.xmp_names.specs.Walk.{Gave, Run, an_array, a_nodes, a_template}
use Rattle.xmp_directives.specs.Directives as directives
use Rattle.xmp_directives.specs.MappingLines as lines
use Rattle.xmp_directives.specs.MappingLines.{Dummies, bounds_of, has_dummy}
use Rattle.xmp_rules.specs.Scopes as scopes
use Rattle.xmp_rules.specs.Scopes.{Declared, Context, meaning, declare}
use Rattle.xmp_rules.specs.Spots.{AnArray, SomeNodes, ATemplate, NoDummy, Points, Dimensions, What, Used, Formed, Declares, Dummy, Directive, Maps, all_in, constant, behind, of_offset, of_points, of_set, of_range, of_dimensions, count, of_width, of_form, dummy, of_dummy, of_dummies, of_align_point, line_of, of_line, of_mapping, behind_mapping}
use Rattle.xmp_rules.proofs.Kept.{kept, behind_none, behind_all, three}
use Rattle.xmp_rules.proofs.Standing.{Stands, breaks, found, all_found}
use Rattle.xmp_rules.proofs.Expressions.{name_found}
use Rattle.xmp_rules.proofs.Telling.{Ends, ends_then, ends_map, Added, added_none, added_then, Tells, ◌>>=◌, ended, pure, known, skipped_by, one_found, constant_of, each, by_meaning, name_of, directive_at, stands_outermost}
use Rattle.xmp_rules.proofs.Directives.{same_tells, offset_tells, second_tells, match_any, set_tells}
use Rattle.xmp_rules.proofs.Moving.{Moves, moves_then, moves_as, quiet, declared_stands, declares_found}

pub in_append : (c : Context) (xs ys : List What) → all_in c (xs ++ ys) ≡ all_in c xs ++ all_in c ys
in_append c [] ys = refl
in_append c (x ∷ xs) ys = ap (λ l. record { «in» = c; what = x } ∷ l) (in_append c xs ys)

-- ---- numbers and forms

range_tells : (x : Expr × Option (Place × Expr)) → Tells (λ c. of_range x) (lines.ranged x)
range_tells x = (do
  a ← constant_of x.0
  ended (known {ws = λ c. behind constant x.1} (directives.second_of x.1) (second_tells x.1)) (λ b. bounds_of a b)).tells

dimensions_tells : (x : Several Expr (Expr × Option (Place × Expr))) → Tells (λ c. of_dimensions x) (lines.template_dimensions x)
dimensions_tells (several.Brackets xs) = (each constant (λ x. ended (constant_of x) (λ n. (pos 0, n))) (inner xs)).tells
dimensions_tells (several.Parens x) = (each of_range (λ y. known {ws = λ c. of_range y} (lines.ranged y) (range_tells y)) (listed x.item)).tells

width_tells : (x : Option (Inside Expr)) → Tells (λ c. of_width x) (lines.width_of x)
width_tells None = (pure (pos 1)).tells
width_tells (Some x) = (constant_of x.item).tells

form_tells : (x : DistForm) → Tells (λ c. of_form x) (lines.form_of x)
form_tells (dist.Whole at) = (pure form.Whole).tells
form_tells (dist.Block at) = (pure form.Block).tells
form_tells (dist.Cyclic at width) = (ended (known {ws = λ c. of_width width} (lines.width_of width) (width_tells width)) (λ w. form.Cyclic w)).tells
form_tells (dist.Gblock at lengths) = (ended (each constant constant_of (listed lengths.item.item)) (λ ns. form.Gblock ns)).tells

keep_distribution_tells : (at : Place) (k : Option ℕ) (forms : List Form) → Tells (λ c. []) (lines.keep_distribution at k forms)
keep_distribution_tells at None forms = (pure tt).tells
keep_distribution_tells at (Some k) forms = record { at = λ w c s. record { names = refl; broken = sym (append-nil (kept w.broken)) } }

distribute_tells : (at : Place) (t : named.Name) (forms : Several DistForm DistForm) (onto : named.Name) → Tells (λ c. Used t ATemplate ∷ (of_points of_form t forms ++ Used onto SomeNodes ∷ [])) (lines.distribute_line at t forms onto)
distribute_tells at t forms onto =
    same_tells _ (λ c. Used t ATemplate ∷ (of_points of_form t forms ++ Used onto SomeNodes ∷ [])) (lines.distribute_line at t forms onto)
    (λ c. ap (λ l. Used t ATemplate ∷ l) (sym (append_assoc (flat_map of_form (parts forms)) (Formed t (Points (notation forms) (length (parts forms))) ∷ []) (Used onto SomeNodes ∷ []))))
    (do
      template ← name_of ATemplate a_template t (λ b. refl) (λ c. refl)
      kept ← each of_form (λ x. known {ws = λ c. of_form x} (lines.form_of x) (form_tells x)) (parts forms)
      _ ← known {ws = λ c. Formed t (Points (notation forms) (length (parts forms))) ∷ []} (directives.match_template template (notation forms) (length kept) t.at) (match_any template t (notation forms) (length kept) (length (parts forms)))
      _ ← name_of SomeNodes a_nodes onto (λ b. refl) (λ c. refl)
      known {ws = λ c. []} (lines.keep_distribution at template kept) (keep_distribution_tells at template kept)).tells

array_match : (k : Option ℕ) (n : named.Name) (count many : ℕ) → Tells (λ c. Formed n (Dimensions many) ∷ []) (lines.match_array k count n.at)
array_match None n count many = record { at = λ w c s. added_none w }
array_match (Some k) n count many = skipped_by (Formed n (Dimensions many)) (λ w. count == length (extents_in (slice_get w.names.arrays k))) N3 n.at refl (λ c. refl)

second_width_tells : (low : ℤ) (x : Option (Place × Expr)) → Tells (λ c. behind constant x) (lines.second_width low x)
second_width_tells low None = (pure low).tells
second_width_tells low (Some x) = (constant_of x.1).tells

widths_tells : (x : Expr × Option (Place × Expr)) → Tells (λ c. of_range x) (lines.widths_of x)
widths_tells x = (do
  low ← constant_of x.0
  ended (known {ws = λ c. behind constant x.1} (lines.second_width low x.1) (second_width_tells low x.1)) (λ high. (low, high))).tells

keep_shadow_tells : (at : Place) (k : Option ℕ) (widths : List (ℤ × ℤ)) → Tells (λ c. []) (lines.keep_shadow at k widths)
keep_shadow_tells at None widths = (pure tt).tells
keep_shadow_tells at (Some k) widths = record { at = λ w c s. record { names = refl; broken = sym (append-nil (kept w.broken)) } }

shadow_tells : (at : Place) (a : named.Name) (widths : List (Inside (Expr × Option (Place × Expr)))) →
    Tells (λ c. Used a AnArray ∷ (flat_map of_range (inner widths) ++ Formed a (Dimensions (length widths)) ∷ [])) (lines.shadow_line at a widths)
shadow_tells at a widths = (do
  array ← name_of AnArray an_array a (λ b. refl) (λ c. refl)
  kept ← each of_range (λ x. known {ws = λ c. of_range x} (lines.widths_of x) (widths_tells x)) (inner widths)
  _ ← known {ws = λ c. Formed a (Dimensions (length widths)) ∷ []} (lines.match_array array (length kept) a.at) (array_match array a (length kept) (length widths))
  known {ws = λ c. []} (lines.keep_shadow at array kept) (keep_shadow_tells at array kept)).tells

-- ---- align

-- The dummies that the checker keeps are these names.
abbrev pub AreDummies : Dummies → List Name → Type 0
AreDummies [] before = before ≡ []
AreDummies (ds ∷ []) before = map (λ d. d.0) ds ≡ before
AreDummies (ds ∷ es ∷ more) before = ⊥

named_in : (n : Name) (ds : List (Name × ℕ)) → is_some (in_scope n ds) ≡ list_any (is_same n) (map (λ d. d.0) ds)
named_in n [] = refl
named_in n (d ∷ ds) = by (is_same n d.0) (named_in n ds)
  where
    by : (t : Bool) → is_some (in_scope n ds) ≡ list_any (is_same n) (map (λ d. d.0) ds) → is_some (cond t (Some d.1) (in_scope n ds)) ≡ (t || list_any (is_same n) (map (λ d. d.0) ds))
    by true h = refl
    by false h = h

here_is : (n : Name) (known : Dummies) (before : List Name) → AreDummies known before → scope.is_declared_here n known ≡ list_any (is_same n) before
here_is n [] before h = sym (ap (list_any (is_same n)) h)
here_is n (ds ∷ []) before h = named_in n ds ∙ ap (list_any (is_same n)) h
here_is n (ds ∷ es ∷ more) before h = absurd h

or_none : (x : Option ℕ) → option_or x None ≡ x
or_none None = refl
or_none (Some x) = refl

nearest_is : (n : Name) (known : Dummies) (before : List Name) → AreDummies known before → is_some (nearest n known) ≡ list_any (is_same n) before
nearest_is n [] before h = sym (ap (list_any (is_same n)) h)
nearest_is n (ds ∷ []) before h = ap is_some (or_none (in_scope n ds)) ∙ (named_in n ds ∙ ap (list_any (is_same n)) h)
nearest_is n (ds ∷ es ∷ more) before h = absurd h

more_dummies : (n : Name) (d : ℕ) (known : Dummies) (before : List Name) → AreDummies known before → AreDummies (scope.declare n d known) (n ∷ before)
more_dummies n d [] before h = ap (λ l. n ∷ l) (sym h)
more_dummies n d (ds ∷ []) before h = ap (λ l. n ∷ l) h
more_dummies n d (ds ∷ es ∷ more) before h = absurd h

-- The names of dummies, the last first.
abbrev pub gathered : List Name → List AlignDimension → List Name
gathered before [] = before
gathered before (x ∷ xs) = gathered (dummy x ++ before) xs

pub record Gathered (w v : World) (c : Context) (ws : List What) (known : Dummies) (names : List Name) : Type 0 where
  pub added : Added w v (found c ws)
  pub are : AreDummies known names

dummy_ends : (d : ℕ) (known : Dummies) (before : List Name) (x : AlignDimension) → AreDummies known before → (w : World) (c : Context) → Ends (λ k v. Gathered w v c (of_dummy before x) k (dummy x ++ before)) (lines.dummy_of d known x w)
dummy_ends d known before (dimension.Star at) h w c = record { added = added_none w; are = h }
dummy_ends d known before (dimension.Dummy n) h w c = record {
  added = record {
    names = refl;
    broken = behind_all w.broken (not (scope.is_declared_here n.text known)) N2 n.at refl
        ∙ ap (λ l. kept w.broken ++ l) (ap (λ t. unless (not t) N2 n.at) (here_is n.text known before h) ∙ one_found c (Dummy before n));
  };
  are = more_dummies n.text d known before h;
}

dummies_end : (d : ℕ) (known : Dummies) (before : List Name) (xs : List AlignDimension) → AreDummies known before → (w : World) (c : Context) → Ends (λ k v. Gathered w v c (of_dummies before xs) k (gathered before xs)) (lines.dummies_from d known xs w)
dummies_end d known before [] h w c = record { added = added_none w; are = h }
dummies_end d known before (x ∷ xs) h w c =
    ends_then (λ k v. Gathered w v c (of_dummy before x) k (dummy x ++ before)) (λ k v. Gathered w v c (of_dummies before (x ∷ xs)) k (gathered before (x ∷ xs))) (lines.dummy_of d known x w) (λ more. lines.dummies_from (d + 1) more xs)
    (dummy_ends d known before x h w c)
    (λ k v g. ends_map (λ k u. Gathered v u c (of_dummies (dummy x ++ before) xs) k (gathered (dummy x ++ before) xs)) (λ k u. Gathered w u c (of_dummies before (x ∷ xs)) k (gathered before (x ∷ xs)))
    (lines.dummies_from (d + 1) k xs v) (dummies_end (d + 1) k (dummy x ++ before) xs g.are v c)
    (λ k u e. record { added = subst (Added w u) (sym (flat_map-append (breaks c) (of_dummy before x) (of_dummies (dummy x ++ before) xs))) (added_then g.added e.added); are = e.are }))

or_moves : (a b c : Bool) → (b || (a || c)) ≡ ((a || b) || c)
or_moves true true c = refl
or_moves true false c = refl
or_moves false true c = refl
or_moves false false c = refl

any_both : (p : Name → Bool) (xs ys : List Name) → list_any p (xs ++ ys) ≡ (list_any p xs || list_any p ys)
any_both p [] ys = refl
any_both p (x ∷ xs) ys = ap (λ t. p x || t) (any_both p xs ys) ∙ by (p x)
  where
    by : (t : Bool) → (t || (list_any p xs || list_any p ys)) ≡ ((t || list_any p xs) || list_any p ys)
    by true = refl
    by false = refl

any_gathered : (p : Name → Bool) (before : List Name) (xs : List AlignDimension) → list_any p (gathered before xs) ≡ (list_any p (flat_map dummy xs) || list_any p before)
any_gathered p before [] = refl
any_gathered p before (x ∷ xs) =
    any_gathered p (dummy x ++ before) xs ∙ (ap (λ t. list_any p (flat_map dummy xs) || t) (any_both p (dummy x) before)
    ∙ (or_moves (list_any p (dummy x)) (list_any p (flat_map dummy xs)) (list_any p before) ∙ ap (λ t. t || list_any p before) (sym (any_both p (dummy x) (flat_map dummy xs)))))

or_false : (b : Bool) → (b || false) ≡ b
or_false true = refl
or_false false = refl

-- A name in a point that is no dummy.
abbrev no_dummy_run : named.Name → Option Meaning → Run ℕ
no_dummy_run n k = walk.◌>>=◌ (lines.no_dummy n k) (λ _. walk.pure 0)

no_dummy_ends : (n : named.Name) (k : Option Meaning) (v : World) → Ends (λ a u. Added v u (unless (is_some k) N1 n.at)) (no_dummy_run n k v)
no_dummy_ends n None v = record { names = refl; broken = behind_all v.broken false N1 n.at refl }
no_dummy_ends n (Some k) v = record { names = refl; broken = behind_none v.broken false N3 n.at refl ∙ sym (append-nil (kept v.broken)) }

no_dummy_tells : (n : named.Name) → Tells (λ c. Used n NoDummy ∷ []) (lines.dummy_in_point n None)
no_dummy_tells n = by_meaning n (no_dummy_run n) (λ c. Used n NoDummy ∷ []) (λ w v c s same k.
    ends_map (λ (a : ℕ) x. Added v x (unless (is_some (nearest n.text w.names.scopes)) N1 n.at)) (λ (a : ℕ) x. Added w x (found c (Used n NoDummy ∷ []))) (no_dummy_run n (nearest n.text w.names.scopes) v)
    (no_dummy_ends n (nearest n.text w.names.scopes) v)
    (λ y x e. record {
      names = e.names ∙ same;
      broken = three (kept w.broken) (kept v.broken) (kept x.broken) _ _ k e.broken ∙ ap (λ l. kept w.broken ++ l) (name_found w.names c s n NoDummy (λ b. refl) refl ∙ one_found c (Used n NoDummy));
    }))

in_point_tells : (n : named.Name) (x : Option ℕ) (t : Bool) → is_some x ≡ t → Tells (λ c. if t then [] else Used n NoDummy ∷ []) (lines.dummy_in_point n x)
in_point_tells n None t h = subst (λ t. Tells (λ c. if t then [] else Used n NoDummy ∷ []) (lines.dummy_in_point n None)) h (no_dummy_tells n)
in_point_tells n (Some d) t h = subst (λ t. Tells (λ c. if t then [] else Used n NoDummy ∷ []) (lines.dummy_in_point n (Some d))) h (pure d).tells

align_point_tells : (known : Dummies) (dummies : List Name) → ((n : Name) → is_some (nearest n known) ≡ list_any (is_same n) dummies) → (x : Point) → Tells (λ c. of_align_point dummies x) (lines.align_point known x)
align_point_tells known dummies h (point.Star at) = (pure ap_.Star).tells
align_point_tells known_dummies dummies h (point.Index n offset) = (do
  d ← known {ws = λ c. if list_any (is_same n.text) dummies then [] else Used n NoDummy ∷ []} (lines.dummy_in_point n (nearest n.text known_dummies)) (in_point_tells n (nearest n.text known_dummies) (list_any (is_same n.text) dummies) (h n.text))
  ended (known {ws = λ c. of_offset offset} (directives.offset_of offset) (offset_tells offset)) (λ c. ap_.Dummy d c)).tells

-- What follows the dummies of an align.
abbrev behind_dummies : named.Name → Several Point Point → Dummies → Run (Option ℕ × List AlignPoint)
behind_dummies t points known =
    walk.◌>>=◌ (walk.name_of a_template t) (λ template. walk.◌>>=◌ (walk.each (lines.align_point known) (parts points)) (λ kept. walk.pure (template, kept)))

behind_tells : (t : named.Name) (points : Several Point Point) (known_dummies : Dummies) (dummies : List Name) → ((n : Name) → is_some (nearest n known_dummies) ≡ list_any (is_same n) dummies) →
    Tells (λ c. Used t ATemplate ∷ flat_map (of_align_point dummies) (parts points)) (behind_dummies t points known_dummies)
behind_tells t points known_dummies dummies h = (do
  template ← name_of ATemplate a_template t (λ b. refl) (λ c. refl)
  ended (each (of_align_point dummies) (λ x. known {ws = λ c. of_align_point dummies x} (lines.align_point known_dummies x) (align_point_tells known_dummies dummies h x)) (parts points)) (λ kept. (template, kept))).tells

aligned_tells : (dimensions : List (Inside AlignDimension)) (t : named.Name) (points : Several Point Point) →
    Tells (λ c. of_dummies [] (inner dimensions) ++ (Used t ATemplate ∷ flat_map (of_align_point (flat_map dummy (inner dimensions))) (parts points))) (lines.aligned_points dimensions t points)
aligned_tells dimensions t points = record {
  at = λ w c s.
      let xs : List What = of_dummies [] (inner dimensions) in
      let ys : List What = Used t ATemplate ∷ flat_map (of_align_point (flat_map dummy (inner dimensions))) (parts points) in
      ends_then (λ k v. Gathered w v c xs k (gathered [] (inner dimensions))) (λ (a : Option ℕ × List AlignPoint) v. Added w v (found c (xs ++ ys))) (lines.dummies_from 0 [] (inner dimensions) w) (behind_dummies t points)
      (dummies_end 0 [] [] (inner dimensions) refl w c)
      (λ k v g. ends_map (λ (a : Option ℕ × List AlignPoint) u. Added v u (found c ys)) (λ (a : Option ℕ × List AlignPoint) u. Added w u (found c (xs ++ ys))) (behind_dummies t points k v)
      ((behind_tells t points k (flat_map dummy (inner dimensions))
      (λ n. nearest_is n k (gathered [] (inner dimensions)) g.are ∙ (any_gathered (is_same n) [] (inner dimensions) ∙ or_false (list_any (is_same n) (flat_map dummy (inner dimensions)))))).at v c
      (subst (λ e. Stands e c) (sym g.added.names) s))
      (λ a u e. subst (Added w u) (sym (flat_map-append (breaks c) xs ys)) (added_then g.added e)));
}

keep_align_tells : (at : Place) (a t : Option ℕ) (dummies : List Bool) (points : List AlignPoint) → Tells (λ c. []) (lines.keep_align at a t dummies points)
keep_align_tells at None t dummies points = (pure tt).tells
keep_align_tells at (Some a) None dummies points = (pure tt).tells
keep_align_tells at (Some a) (Some t) dummies points = record { at = λ w c s. record { names = refl; broken = sym (append-nil (kept w.broken)) } }

align_tells : (at : Place) (a : named.Name) (dimensions : List (Inside AlignDimension)) (t : named.Name) (points : Several Point Point) →
    Tells (λ c. Used a AnArray ∷ (Formed a (Dimensions (length dimensions)) ∷ (of_dummies [] (inner dimensions) ++ (Used t ATemplate
    ∷ of_points (of_align_point (flat_map dummy (inner dimensions))) t points)))) (lines.align_line at a dimensions t points)
align_tells at a dimensions t points =
    same_tells _ (λ c. Used a AnArray ∷ (Formed a (Dimensions (length dimensions)) ∷ (of_dummies [] (inner dimensions) ++ (Used t ATemplate ∷ of_points (of_align_point (flat_map dummy (inner dimensions))) t points))))
    (lines.align_line at a dimensions t points)
    (λ c. ap (λ l. Used a AnArray ∷ (Formed a (Dimensions (length dimensions)) ∷ l))
    (append_assoc (of_dummies [] (inner dimensions)) (Used t ATemplate ∷ flat_map (of_align_point (flat_map dummy (inner dimensions))) (parts points)) (Formed t (Points (notation points) (length (parts points))) ∷ [])))
    (do
      array ← name_of AnArray an_array a (λ b. refl) (λ c. refl)
      _ ← known {ws = λ c. Formed a (Dimensions (length dimensions)) ∷ []} (lines.match_array array (length dimensions) a.at) (array_match array a (length dimensions) (length dimensions))
      onto ← known {ws = λ c. of_dummies [] (inner dimensions) ++ (Used t ATemplate ∷ flat_map (of_align_point (flat_map dummy (inner dimensions))) (parts points))} (lines.aligned_points dimensions t points) (aligned_tells dimensions t points)
      _ ← known {ws = λ c. Formed t (Points (notation points) (length (parts points))) ∷ []} (directives.match_template onto.0 (notation points) (length onto.1) t.at) (match_any onto.0 t (notation points) (length onto.1) (length (parts points)))
      known {ws = λ c. []} (lines.keep_align at array onto.0 (map has_dummy (inner dimensions)) onto.1) (keep_align_tells at array onto.0 (map has_dummy (inner dimensions)) onto.1)).tells

-- ---- the declarations of nodes arrays and templates

nodes_declared : (l : NodesLine) (n : named.Name) (written : Notation) (k : ℕ) → Moves (λ c. all_in c (Declares n ∷ [])) (declare n.text (scopes.Nodes written k)) (lines.nodes_line l n)
nodes_declared l n written k = record { at = λ w c s. record { stands = declared_stands w.names c n.text (m.Nodes (length w.mappings.nodes)) (scopes.Nodes written k) tt s; broken = declares_found w c n s } }

template_declared : (at : Place) (n : named.Name) (form : Notation) (dims : List (ℤ × ℤ)) (written : Notation) (k : ℕ) → Moves (λ c. all_in c (Declares n ∷ [])) (declare n.text (scopes.Template written k)) (lines.template_line at n form dims)
template_declared at n form dims written k = record {
  at = λ w c s. record { stands = declared_stands w.names c n.text (m.Template (length w.mappings.templates)) (scopes.Template written k) tt s; broken = declares_found w c n s };
}

-- Numbers first, and then a declaration.
numbers_declared : {A : Type 0} (ws : List What) (n : named.Name) (d : Declared) (p : Run A) (q : A → Run ⊤) → Tells (λ c. ws) p → ((a : A) → Moves (λ c. all_in c (Declares n ∷ [])) (declare n.text d) (q a)) →
    Moves (λ c. all_in c (ws ++ Declares n ∷ [])) (declare n.text d) (walk.◌>>=◌ p q)
numbers_declared ws n d p q h k =
    moves_as (λ c. all_in c ws ++ all_in c (Declares n ∷ [])) (λ c. all_in c (ws ++ Declares n ∷ [])) (declare n.text d) (declare n.text d) (walk.◌>>=◌ p q) (λ c. ap all_found (sym (in_append c ws (Declares n ∷ [])))) (λ c. refl)
    (moves_then (λ c. all_in c ws) (λ c. all_in c (Declares n ∷ [])) (λ c. c) (declare n.text d) p q (quiet (λ c. ws) p h) k)

line_moves : (x : Mapping) → Moves (λ c. all_in c (of_line x)) (behind_mapping x) (lines.mapping_line x)
line_moves (mapping.Nodes line n sizes) =
    numbers_declared (flat_map constant (parts sizes)) n (scopes.Nodes (notation sizes) (length (parts sizes))) (walk.each walk.constant (parts sizes)) (λ values. lines.nodes_line (record { at = line.word; notation = notation sizes; sizes = Some values; part = false }) n)
    (each constant constant_of (parts sizes)).tells (λ values. nodes_declared _ n (notation sizes) (length (parts sizes)))
line_moves (mapping.NodesStar line n star) = nodes_declared (record { at = line.word; notation = only_notation star; sizes = None; part = false }) n (only_notation star) 1
line_moves (mapping.NodesPart line n size at set) =
    moves_as (λ c. all_in c (constant (only size)) ++ all_in c (of_set set ++ Declares n ∷ [])) (λ c. all_in c (constant (only size) ++ (of_set set ++ Declares n ∷ []))) _ _ (lines.nodes_part line n size set)
    (λ c. ap all_found (sym (in_append c (constant (only size)) (of_set set ++ Declares n ∷ [])))) (λ c. refl)
    (moves_then (λ c. all_in c (constant (only size))) (λ c. all_in c (of_set set ++ Declares n ∷ [])) (λ c. c) (declare n.text (scopes.Nodes (only_notation size) 1)) (walk.constant (only size))
    (λ value. walk.◌>>=◌ (directives.set_of false line.word set) (λ _. lines.nodes_line (record { at = line.word; notation = only_notation size; sizes = Some (value ∷ []); part = true }) n))
    (quiet (λ c. constant (only size)) (walk.constant (only size)) (constant_of (only size)).tells)
    (λ value. numbers_declared (of_set set) n (scopes.Nodes (only_notation size) 1) (directives.set_of false line.word set) (λ _. lines.nodes_line (record { at = line.word; notation = only_notation size; sizes = Some (value ∷ []); part = true }) n)
    (set_tells false line.word set) (λ _. nodes_declared _ n (only_notation size) 1)))
line_moves (mapping.Template line n sizes) =
    numbers_declared (of_dimensions sizes) n (scopes.Template (notation sizes) (count sizes)) (lines.template_dimensions sizes) (λ dims. lines.template_line line.word n (notation sizes) dims)
    (dimensions_tells sizes) (λ dims. template_declared line.word n (notation sizes) dims (notation sizes) (count sizes))
line_moves (mapping.Distribute line t forms at onto) = quiet (λ c. of_line (mapping.Distribute line t forms at onto)) (lines.distribute_line line.word t forms onto) (distribute_tells line.word t forms onto)
line_moves (mapping.Align line a dimensions at t points) = quiet (λ c. of_line (mapping.Align line a dimensions at t points)) (lines.align_line line.word a dimensions t points) (align_tells line.word a dimensions t points)
line_moves (mapping.Shadow line a widths) = quiet (λ c. of_line (mapping.Shadow line a widths)) (lines.shadow_line line.word a widths) (shadow_tells line.word a widths)

word_tells : (l : DirectiveLine) → Tells (λ c. Directive l.word ∷ (Maps l.word ∷ [])) (lines.mapping_at l)
word_tells l = (do
  _ ← directive_at l.word
  stands_outermost (Maps l.word) l.word (λ c. refl)).tells

same_line : (x : Mapping) → lines.line_of x ≡ line_of x
same_line (mapping.Nodes line n sizes) = refl
same_line (mapping.NodesStar line n star) = refl
same_line (mapping.NodesPart line n size at set) = refl
same_line (mapping.Template line n sizes) = refl
same_line (mapping.Distribute line t forms at onto) = refl
same_line (mapping.Align line a dimensions at t points) = refl
same_line (mapping.Shadow line a widths) = refl

pub mapping_moves : (x : Mapping) → Moves (λ c. all_in c (of_mapping x)) (behind_mapping x) (lines.mapping_of x)
mapping_moves x = subst (λ l. Moves (λ c. all_in c (Directive l.word ∷ (Maps l.word ∷ of_line x))) (behind_mapping x) (lines.mapping_of x)) (same_line x)
    (moves_then (λ c. all_in c (Directive (lines.line_of x).word ∷ (Maps (lines.line_of x).word ∷ []))) (λ c. all_in c (of_line x)) (λ c. c) (behind_mapping x) (lines.mapping_at (lines.line_of x)) (λ _. lines.mapping_line x)
    (quiet (λ c. Directive (lines.line_of x).word ∷ (Maps (lines.line_of x).word ∷ [])) (lines.mapping_at (lines.line_of x)) (word_tells (lines.line_of x))) (λ _. line_moves x))
