-- The steps of the loop directive: where no rule breaks, what they make fits.
use Rattle.std.proofs.Common.{◌≡◌, ◌≤◌, ◌<◌, ◌∙◌, sym, ap, refl, subst, ◌++◌, ◌∷◌, [], ℕ, ℤ, Bool, true, List, Option, Some, length, map, arith, eqb-true}
use Rattle.std.specs.Prelude.{⊤, slice_get, ◌==◌}
use Rattle.std.specs.Option.{unwrap_or}
use Rattle.std.specs.List.{AllByRecursion}
use Rattle.xmp_base.specs.declared.place.Place.{Place}
use Rattle.xmp_map.specs.declared.template.Template.{Template}
use Rattle.xmp_prog.specs.declared.parts.ProgParts.{ProgParts}
use Rattle.xmp_prog.specs.declared.statements.LoopDirective.{LoopDirective}
use Rattle.xmp_prog.specs.declared.statements.Stmt as made
use Rattle.xmp_prog.specs.declared.statements.Stmt.TheVariants as s
use Rattle.xmp_prog.specs.Counted.{is_nest}
use Rattle.xmp_prog.specs.Statements.{statements_of, writes_of}
use Rattle.xmp_prog.specs.Tests.{counted_fits}
use Rattle.xmp_syntax.specs.declared.directive.LoopLine.{LoopLine}
use Rattle.xmp_syntax.specs.declared.directive.Point.{Point}
use Rattle.xmp_directives.specs.declared.loop_lines.LoopParts.{LoopParts}
use Rattle.xmp_names.specs.declared.mappings.LoopUse.{LoopUse}
use Rattle.xmp_names.specs.declared.mappings.TemplateLine.{TemplateLine}
use Rattle.xmp_names.specs.declared.rules.Rule.TheVariants.{N3, M7}
use Rattle.xmp_names.specs.declared.world.World.{World}
use Rattle.xmp_names.specs.Rules.{unless}
use Rattle.xmp_names.specs.declared.mappings.Notation.{Notation}
use Rattle.xmp_names.specs.Lists.{notation, parts}
use Rattle.xmp_directives.specs.Directives.{Nest, is_indexed, judged_loop, loop_line, loop_right, lowers_of, made_points, match_template, template_takes, name_list, nest_of, point_of, reductions_of, use_template}
use Rattle.xmp_mapping_rules.specs.MappingRules.{forms_of, indexed_right, loop_rule, loop_rules, mapping_rules, cell_rules, nodes_of, shadow_rules, template_sizes, template_sizes_in}
use Rattle.xmp_parts.specs.Parts.{IsOf, IsTemplate}
use Rattle.xmp_names.specs.Walk.{Gave, a_template, each, if_there, name_of}
use Rattle.xmp_fits.proofs.DirectivesPass.{DirectiveFits, StmtFits, StmtMade, loop_fits, map_all}
use Rattle.xmp_fits.proofs.Endings.{Ending, Number, before_judged, directed, earlier, found_at, goes_directed, item_there, judged_true, later_at, no_broken, opened, same_world, template_number}
use Rattle.xmp_fits.proofs.GoodSteps.{begins_get, get_last}
use Rattle.xmp_fits.proofs.GoodWorlds.{Good, Own}
use Rattle.xmp_fits.proofs.KeptRuns.{Kept, going}
use Rattle.xmp_fits.proofs.Respected.{Ends}
use Rattle.xmp_fits.proofs.RespectedSteps as kept_steps
use Rattle.xmp_fits.proofs.Respected as kept
use Rattle.xmp_fits.proofs.RespectedLines as kept_lines
use Rattle.xmp_fits.proofs.RespectedDirectives as kept_directives
use Rattle.xmp_fits.proofs.LoopsPass.{RightLoop, constants_small, distributed_named, each_of_nest, each_once, points_there, template_named}
use Rattle.xmp_parts.proofs.MadeLists.{made_here}
use Rattle.xmp_fits.proofs.NestsPass.{nest_fits, nest_passes}
use Rattle.xmp_parts.proofs.Padded.{at_most_three}
use Rattle.xmp_parts.proofs.Unbroken.{RightTemplate, holds, left_none, left_true, none_here, right_none, template_at}
use Rattle.xmp_parts.proofs.Unbroken.{after_aligns}

-- ---- the template of a loop directive, at the end

-- A template that is named, by what stands of it at the end of the walk.
pub record TemplateThere (w : World) (p : ProgParts) (k : ℕ) (last : World) : Type 0 where
  pub line : TemplateLine
  pub at : slice_get w.mappings.templates k ≡ Some line
  pub made : Template
  pub is : slice_get p.templates k ≡ Some made
  pub as_line : IsOf p.grid line.sizes (forms_of last k) made
  pub few : length (forms_of last k) ≤ 3

pub template_there : (w : World) (p : ProgParts) (k : ℕ) (e : Ending w p) → k < length w.mappings.templates → TemplateThere w p k e.last
template_there w p k e h =
    let x = item_there w.mappings.templates k h in
    let y : slice_get e.last.mappings.templates k ≡ Some x.0 = begins_get w.mappings.templates e.last.mappings.templates k x.0 e.later.mappings.templates x.1 in
    let m = made_here (λ k line t. IsTemplate e.last p.grid k t) e.last.mappings.templates p.templates k x.0 e.made.templates y in
    let right : RightTemplate (nodes_of e.last) x.0.sizes (forms_of e.last k) = template_at e.last k x.0 e.rules y in
    let sizes : template_sizes e.last k ≡ x.0.sizes = ap template_sizes_in y in
    let same : length (forms_of e.last k) ≡ length x.0.sizes = eqb-true (length (forms_of e.last k)) (length x.0.sizes) (left_true (length (forms_of e.last k) == length x.0.sizes) _ right.spread) in
    let three : length x.0.sizes ≤ 3 = at_most_three (length x.0.sizes) right.few in
    record {
      line = x.0;
      at = x.1;
      made = m.0;
      is = m.1;
      as_line = subst (λ ns. IsOf p.grid ns (forms_of e.last k) m.0) sizes m.2;
      few = omega arith;
    }

-- The points of a loop directive that is kept have an index for each distributed dimension.
indexed_at : (w : World) (k : ℕ) (x : LoopUse) → mapping_rules w ≡ [] → slice_get w.mappings.loops k ≡ Some x → indexed_right (forms_of w x.template) x.indexed ≡ true
indexed_at w k x h e =
    let rules : loop_rules w ≡ [] = left_none (loop_rules w) (cell_rules w) (right_none (shadow_rules w) (loop_rules w ++ cell_rules w) (after_aligns w h)) in
    let one : loop_rule w (k, x) ≡ [] = none_here (loop_rule w) w.mappings.loops k x rules e in
    holds (indexed_right (forms_of w x.template) x.indexed) M7 x.at one

-- ---- the line

-- What is known of the parts of a line, where the walk ends in this world.
pub record LineFits (p : ProgParts) (last : World) (parts : LoopParts) : Type 0 where
  pub number : ℕ
  pub is : parts.template ≡ Some number
  pub sizes : List ℤ
  pub made : Template
  pub at : slice_get p.templates number ≡ Some made
  pub as_line : IsOf p.grid sizes (forms_of last number) made
  pub few : length (forms_of last number) ≤ 3
  pub as_dims : length parts.points ≡ length sizes

abbrev pub LineMade : LoopParts → World → Type 0
LineMade parts v = (p : ProgParts) (e : Ending v p) → LineFits p e.last parts

points_kept : (xs : List Point) → Kept (each point_of xs)
points_kept xs = (kept.each going (kept_directives.point_of going) xs).kept

-- As many points as dimensions.
points_match : (v u : World) (template : Option ℕ) (written : Notation) (k n : ℕ) (at : Place) (l : TemplateLine) (x : ⊤) → template ≡ Some k → slice_get v.mappings.templates k ≡ Some l →
    match_template template written n at v ≡ Gave x u → u.broken ≡ [] → n ≡ length l.sizes
points_match v u template written k n at l x is there e none =
    let test : Bool = template_takes written n (slice_get v.mappings.templates k) in
    let read : Gave tt (record v { broken = v.broken ++ unless test N3 at }) ≡ Gave x u = ap (λ o. match_template o written n at v) (sym is) ∙ e in
    let world : record v { broken = v.broken ++ unless test N3 at } ≡ u = same_world read in
    let same : test ≡ true = judged_true v.broken test N3 at (ap (λ (y : World). y.broken) world ∙ none) in
    eqb-true n (length l.sizes) (left_true (n == length l.sizes) _ (sym (ap (template_takes written n) there) ∙ same))

pub line_made : (own : Own) (w : World) (line : LoopLine) → Good own w → Ends LineMade (loop_line line w)
line_made own w line g =
    let u : World = directed line.line.word w in
    let g0 : Good own u = (goes_directed line.line.word w).good own g in
    opened (if_there name_list line.names u) _ LineMade (λ names v1 e1.
    opened (name_of a_template line.template v1) _ LineMade (λ template v2 e2.
    opened (each point_of (parts line.points) v2) _ LineMade (λ points v3 e3.
    opened (match_template template (notation line.points) (length points) line.template.at v3) _ LineMade (λ x v4 e4.
    opened (lowers_of template v4) _ LineMade (λ lowers v6 e6.
    opened (reductions_of [] line.reductions v6) _ LineMade (λ reductions v5 e5. λ p end.
    let l1 = later_at (if_there name_list line.names) u names v1 (kept.if_there going (kept_directives.name_list going) line.names).kept e1 in
    let l2 = later_at (name_of a_template line.template) v1 template v2 (kept_steps.name_of going a_template line.template).kept e2 in
    let l3 = later_at (each point_of (parts line.points)) v2 points v3 (points_kept (parts line.points)) e3 in
    let l4 = later_at (match_template template (notation line.points) (length points) line.template.at) v3 x v4 (kept_lines.match_template going template (notation line.points) (length points) line.template.at).kept e4 in
    let l6 = later_at (lowers_of template) v4 lowers v6 (kept_lines.lowers_kept going template) e6 in
    let l5 = later_at (reductions_of [] line.reductions) v6 reductions v5 (kept_directives.reductions_kept going [] line.reductions) e5 in
    let end4 : Ending v4 p = earlier v4 v6 p l6.onward.later (earlier v6 v5 p l5.onward.later end) in
    let end2 : Ending v2 p = earlier v2 v3 p l3.onward.later (earlier v3 v4 p l4.onward.later end4) in
    let end1 : Ending v1 p = earlier v1 v2 p l2.onward.later end2 in
    let k : Number (length v1.mappings.templates) template = template_number own line.template v1 template (l1.good own g0) (found_at a_template line.template v1 v2 template p e2 end2) in
    let t : TemplateThere v1 p k.number end1.last = template_there v1 p k.number end1 k.below in
    let at2 : slice_get v2.mappings.templates k.number ≡ Some t.line = begins_get v1.mappings.templates v2.mappings.templates k.number t.line l2.onward.later.mappings.templates t.at in
    let at3 : slice_get v3.mappings.templates k.number ≡ Some t.line = begins_get v2.mappings.templates v3.mappings.templates k.number t.line l3.onward.later.mappings.templates at2 in
    record {
      number = k.number;
      is = k.is;
      sizes = t.line.sizes;
      made = t.made;
      at = t.is;
      as_line = t.as_line;
      few = t.few;
      as_dims = points_match v3 v4 template (notation line.points) k.number (length points) line.template.at t.line x k.is at3 e4 (no_broken v4 p end4);
    }))))))

-- ---- the loop

-- The use of a template is kept.
use_there : (v u : World) (template : Option ℕ) (k : ℕ) (at : Place) (indexed : List Bool) (x : ⊤) → template ≡ Some k → use_template template at indexed v ≡ Gave x u →
    slice_get u.mappings.loops (length v.mappings.loops) ≡ Some (record { at = at; template = k; indexed = indexed })
use_there v u template k at indexed x is e =
    let kept_use : LoopUse = record { at = at; template = k; indexed = indexed } in
    let with_use : World = record v { mappings = record v.mappings { loops = v.mappings.loops ++ kept_use ∷ [] } } in
    let read : Gave tt with_use ≡ Gave x u = ap (λ o. use_template o at indexed v) (sym is) ∙ e in
    ap (λ (y : World). slice_get y.mappings.loops (length v.mappings.loops)) (sym (same_world read)) ∙ get_last v.mappings.loops kept_use

-- A loop directive that is right, over a loop whose statements fit.
right_loop_fits : (p : ProgParts) (parts : LoopParts) (n : ℕ) (x : made.Stmt) (d : LoopDirective) → RightLoop p (unwrap_or parts.template 0) parts.points parts.names (nest_of n x).0 → d.template ≡ unwrap_or parts.template 0 →
    d.points ≡ made_points parts.lowers 0 parts.points → d.nest ≡ (nest_of n x).0 → StmtFits p x → StmtFits p (s.Loop d (nest_of n x).1)
right_loop_fits p parts n x d r a b c h =
    let template : ℕ = unwrap_or parts.template 0 in
    let nest = (nest_of n x).0 in
    let counts : AllByRecursion (λ y. counted_fits p y ≡ true) (statements_of x) = map_all (DirectiveFits p) (λ y. counted_fits p y ≡ true) (λ y f. f.counted) (statements_of x) h in
    loop_fits p d (nest_of n x).1 (record {
      counted = refl;
      loop_templates = template_named p template parts.lowers parts.points parts.names nest d r a b c;
      points = points_there p template parts.lowers parts.points parts.names nest d r a b c;
      constants = constants_small p template parts.lowers parts.points parts.names nest d r a b c;
      distributed = distributed_named p template parts.lowers parts.points parts.names nest d r a b c;
      indices = each_once p template parts.lowers parts.points parts.names nest d r a b c;
      nest_indices = each_of_nest p template parts.lowers parts.points parts.names nest d r a b c;
      nests = ap (λ hs. is_nest p hs (writes_of (nest_of n x).1)) c ∙ nest_fits p n x counts;
      arrays = refl;
      sides = refl;
      sections = refl;
      casts = refl;
      tasks = refl;
      tasks_apart = refl;
    }) (nest_passes (DirectiveFits p) n x h)

pub loop_made : (v : World) (word : Place) (parts : LoopParts) (n : ℕ) (x : made.Stmt) → LineMade parts v → StmtMade x v → Ends StmtMade (judged_loop word parts (nest_of n x) v)
loop_made v word parts n x lines fits =
    let nest : Nest = nest_of n x in
    let test : Bool = loop_right parts.names parts.points nest.0 in
    let u : World = record v { broken = v.broken ++ unless test M7 word } in
    opened (use_template parts.template word (map is_indexed parts.points) u) _ StmtMade (λ y u2 e. λ p end.
    let l = later_at (use_template parts.template word (map is_indexed parts.points)) u y u2 (kept_directives.use_kept going parts.template word (map is_indexed parts.points)) e in
    let end1 : Ending u p = earlier u u2 p l.onward.later end in
    let end0 : Ending v p = before_judged v (unless test M7 word) p end1 in
    let line : LineFits p end.last parts = lines p end0 in
    let used = use_there u u2 parts.template line.number word (map is_indexed parts.points) y line.is e in
    let kept_use : LoopUse = record { at = word; template = line.number; indexed = map is_indexed parts.points } in
    let there : slice_get end.last.mappings.loops (length u.mappings.loops) ≡ Some kept_use = begins_get u2.mappings.loops end.last.mappings.loops (length u.mappings.loops) kept_use end.later.mappings.loops used in
    let number : line.number ≡ unwrap_or parts.template 0 = ap (λ o. unwrap_or o 0) (sym line.is) in
    let right : RightLoop p (unwrap_or parts.template 0) parts.points parts.names nest.0 = record {
      right = judged_true v.broken test M7 word (no_broken u p end1);
      sizes = line.sizes;
      forms = forms_of end.last line.number;
      made = line.made;
      at = ap (slice_get p.templates) (sym number) ∙ line.at;
      is = line.as_line;
      few = line.few;
      as_dims = line.as_dims;
      indexed = indexed_at end.last (length u.mappings.loops) kept_use end.rules there;
    } in
    right_loop_fits p parts n x (record { template = unwrap_or parts.template 0; points = made_points parts.lowers 0 parts.points; nest = nest.0; reductions = parts.reductions; at = word }) right refl refl refl (fits p end0))
