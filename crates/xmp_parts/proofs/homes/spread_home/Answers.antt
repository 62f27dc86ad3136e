use Rattle.std.proofs.Common.{◌≡◌, ◌∙◌, ℕ, ℤ, List, Option, Some, subst, refl, arith}
use Rattle.std.specs.Prelude.{option_copied}
use Rattle.std.proofs.lemmas.Option.{none-some, same_Some}
use Rattle.xmp_map.specs.declared.array_map.ArrayMap.{ArrayMap}
use Rattle.xmp_map.specs.declared.template.Template.{Template}
use Rattle.xmp_names.specs.declared.mappings.Align.{Align}
use Rattle.xmp_names.specs.declared.mappings.AlignPoint.{AlignPoint}
use Rattle.xmp_names.specs.declared.mappings.Shadow.{Shadow}
use Rattle.xmp_names.specs.declared.world.World.{World}
use Rattle.xmp_parts.specs.Parts.{IsMapOver, IsOver, held_points, widths_in}
use Rattle.xmp_mapping_rules.specs.MappingRules.{shadow_of, template_lowers}
use Rattle.xmp_parts.proofs.Accepted.{MapFits, map_facts}
use Rattle.xmp_parts.proofs.HeldPoints.{held_length}
use Rattle.xmp_parts.proofs.homes.spread_home.Goals as goal

moved : (es fs : List ℕ) (ls ms : List ℤ) (ps qs : List AlignPoint) (s u : Option Shadow) (t v : Template) → es ≡ fs → ls ≡ ms → ps ≡ qs → s ≡ u → v ≡ t →
    MapFits fs (held_points ms 0 qs) u t → MapFits es (held_points ls 0 ps) s v
moved es fs ls ms ps qs s u t v e l p q r f = rw (e, l, p, q, r) f

over : (w : World) (k : ℕ) (extents es : List ℕ) (a : Align) (ls : List ℤ) (ps : List AlignPoint) (s : Option Shadow) (m : ArrayMap) (t : Template) (o : Option Template) →
    es ≡ extents → ls ≡ template_lowers w a.template → ps ≡ a.points → s ≡ shadow_of w k → Some t ≡ o → IsOver t es (held_points ls 0 ps) (widths_in es s) m → IsMapOver w k extents a m o
over w k extents es a ls ps s m t o e l p q r i =
    let j : IsOver t extents (held_points (template_lowers w a.template) 0 a.points) (widths_in extents (shadow_of w k)) m = rw (← e, ← l, ← p, ← q) i in
    subst (λ x. IsMapOver w k extents a m x) r j

fits : (c : goal.After-as_slice-points) → MapFits c.as_slice-extents.result.now (held_points c.template_lowers-lowers.result.now 0 c.as_slice-points.result.now) (option_copied c.shadow_of-shadow.result) c.in-Some.template.now
fits c =
    let f = map_facts c.args.lines.now c.args.grid.now c.args.templates.now c.args.k c.args.array.now c.args.align.now c.requires.unbroken c.requires.templates c.requires.array c.requires.align in
    moved _ _ _ _ _ _ _ _ f.0 _ c.as_slice-extents.ensures c.template_lowers-lowers.ensures c.as_slice-points.ensures c.shadow_of-shadow.ensures (same_Some _ _ (c.in-Some.ensures ∙ f.1)) f.2

pub unreachable-requires : goal.unreachable-requires
unreachable-requires c =
    let f = map_facts c.args.lines.now c.args.grid.now c.args.templates.now c.args.k c.args.array.now c.args.align.now c.requires.unbroken c.requires.templates c.requires.array c.requires.align in
    none-some f.0 (c.in-None.ensures ∙ f.1)

pub made_map-requires-clause-few : goal.made_map-requires-clause-few
made_map-requires-clause-few c =
    let held = (fits c).few in
    let many = held_length c.template_lowers-lowers.result.now 0 c.as_slice-points.result.now in
    omega arith

pub made_map-requires-clause-shadow : goal.made_map-requires-clause-shadow
made_map-requires-clause-shadow c = (fits c).narrow_widths

pub made_map-requires-clause-widths : goal.made_map-requires-clause-widths
made_map-requires-clause-widths c = (fits c).as_extents

pub made_map-requires-clause-sizes : goal.made_map-requires-clause-sizes
made_map-requires-clause-sizes c = (fits c).fit

pub made_map-requires-clause-cells : goal.made_map-requires-clause-cells
made_map-requires-clause-cells c = (fits c).cells

pub made_map-requires-clause-right : goal.made_map-requires-clause-right
made_map-requires-clause-right c = (fits c).right

pub returns : goal.returns
returns c = (
  refl,
  over c.args.lines.now c.args.k c.args.array.now.extents c.as_slice-extents.result.now c.args.align.now c.template_lowers-lowers.result.now c.as_slice-points.result.now (option_copied c.shadow_of-shadow.result) c.in_ok-map-in-Some.map c.in-Some.template.now _
      c.as_slice-extents.ensures c.template_lowers-lowers.ensures c.as_slice-points.ensures c.shadow_of-shadow.ensures c.in-Some.ensures c.in_ok-map-in-Some.ensures,
)
