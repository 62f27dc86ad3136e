use Rattle.std.proofs.Common.{length, map, ◌≡◌, true, sym, ◌∙◌, ap, arith}
use Rattle.std.specs.List.{list_all}
use Rattle.std.proofs.lemmas.Bool.Decides.{nat_tests}
use Rattle.xmp_dist.specs.Valid.{is_extent}
use Rattle.xmp_map.specs.RowMajor.{product}
use Rattle.std.specs.Prelude.{drop}
use Rattle.xmp_map.specs.Align.{is_unused}
use Rattle.xmp_map.proofs.HoldLaws.{aligned_extents, aligned_product, aligned_rest, extents_most}
use Rattle.xmp_map.proofs.array_map.ArrayMap.new.Goals as goal

pub fault-requires : goal.fault-requires
fault-requires c =
    let s : list_all is_extent c.args.extents.now ≡ true = grind (arith, nat_tests) in
    let h = sym (ap (λ ls. list_all (λ l. is_extent l.extent) ls) c.aligned_dims.ensures) ∙ aligned_extents c.args.extents.now c.args.target.now c.args.shadow.now s in
    let m = extents_most c.aligned_dims.result.0 c.aligned_dims.result.1 c.aligned_dims.result.2 h in
    let m0 = m.0 in let m1 = m.1 in let m2 = m.2 in
    grind (arith, nat_tests)

pub invariant_of-result-clause-extents : goal.invariant_of-result-clause-extents
invariant_of-result-clause-extents c =
    let s : list_all is_extent c.args.extents.now ≡ true = grind (arith, nat_tests) in
    let h = sym (ap (λ ls. list_all (λ l. is_extent l.extent) ls) c.aligned_dims.ensures) ∙ aligned_extents c.args.extents.now c.args.target.now c.args.shadow.now s in
    grind (arith, nat_tests)

pub invariant_of-result-clause-small : goal.invariant_of-result-clause-small
invariant_of-result-clause-small c =
    let h = sym (ap (λ ls. product (map (λ l. l.extent) ls)) c.aligned_dims.ensures) ∙ aligned_product c.args.extents.now c.args.target.now c.args.shadow.now c.requires.targets c.requires.shadows c.requires.most in
    omega (arith, h, c.requires.cells)

pub invariant_of-result-clause-rest : goal.invariant_of-result-clause-rest
invariant_of-result-clause-rest c =
    let h = sym (ap (λ ls. list_all is_unused (drop (length c.args.extents.now) ls)) c.aligned_dims.ensures)
    ∙ aligned_rest c.args.extents.now c.args.target.now c.args.shadow.now c.requires.targets c.requires.shadows c.requires.most in
    grind (arith, nat_tests)
