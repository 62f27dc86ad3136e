use Rattle.std.proofs.Common.{◌≡◌, ◌∙◌, ◌&&◌, ◌-ℤ◌, ap, sym, arith, rules}
use Rattle.std.specs.Prelude.{slice_get}
use Rattle.std.proofs.lemmas.Int.{ints}
use Rattle.xmp_names.specs.Sizes.{is_small}
use Rattle.xmp_mapping_rules.specs.MappingRules.{point_right, reaches}
use Rattle.xmp_mapping_rules.proofs.align_rules.point_right.Goals as goal
use mir.Syntax.{w64, w128}
use mir.Val.{SFits, of_z, to_z}

pub returns-then-is_small : goal.returns-then-is_small
returns-then-is_small c =
    let f : SFits w64 c.in-Dummy.offset = search rules in
    let g : SFits w64 c.args.lower = search rules in
    let h : SFits w64 c.args.size = search rules in
    let o : to_z w64 (of_z w64 c.in-Dummy.offset) ≡ c.in-Dummy.offset = omega (arith, ints) in
    let z : to_z w64 (of_z w64 c.args.size) ≡ c.args.size = omega (arith, ints) in
    let is : c.position_of.result ≡ to_z w64 (of_z w64 c.in-Dummy.offset) -ℤ to_z w64 (of_z w64 c.args.lower) = c.position_of.ensures in
    let p : to_z w128 (of_z w128 c.position_of.result) ≡ c.in-Dummy.offset -ℤ c.args.lower = omega (arith, ints) in
    c.reaches.ensures
    ∙ (ap (λ s. reaches s (to_z w128 (of_z w128 c.position_of.result)) c.extent_at-extent.result) z
    ∙ (ap (λ q. reaches c.args.size q c.extent_at-extent.result) p
    ∙ (ap (reaches c.args.size (c.in-Dummy.offset -ℤ c.args.lower)) c.extent_at-extent.ensures
    ∙ sym (ap (point_right c.args.extents.now c.args.spread c.args.lower c.args.size) c.in-Dummy.is
    ∙ ap (λ b. b && reaches c.args.size (c.in-Dummy.offset -ℤ c.args.lower) (slice_get c.args.extents.now c.in-Dummy.dimension)) (ap is_small (sym o) ∙ (sym c.is_small.ensures ∙ c.if-is_small.true))))))
