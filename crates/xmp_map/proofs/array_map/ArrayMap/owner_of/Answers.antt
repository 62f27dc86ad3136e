use Rattle.std.proofs.Common.{◌≡◌, length, rules, arith, true}
use Rattle.std.proofs.lemmas.Bool.Decides.{nat_tests}
use Rattle.xmp_map.specs.Held.{owns}
use Rattle.xmp_map.proofs.Three.{three_of}
use Rattle.xmp_map.proofs.GridLaws.{grid_pair}
use Rattle.xmp_map.proofs.MapLaws.{blank}
use Rattle.xmp_map.proofs.OwnerLaws.{owner_is, owner_number, owner_place-is}
use Rattle.xmp_map.proofs.array_map.ArrayMap.owner_of.Goals as goal

pub row_major-requires-clause-inside : goal.row_major-requires-clause-inside
row_major-requires-clause-inside c =
    let m = c.args.self.now in
    let l : length m.aligned ≡ 3 = search rules in
    let ls : length m.template.spread ≡ 3 = search rules in
    let lg : length m.template.grid.sizes ≡ 3 = search rules in
    let e = three_of m.aligned blank blank blank l in
    let lc : length c.args.cell.now.at ≡ 3 = search rules in
    let o = owner_is m _ _ _ c.args.cell.now.at c.owner_along.result c.owner_along-2.result c.owner_along-3.result e ls lg lc c.requires c.owner_along.ensures c.owner_along-2.ensures c.owner_along-3.ensures in
    o.inside

pub row_major-requires-clause-pair : goal.row_major-requires-clause-pair
row_major-requires-clause-pair c =
    let m = c.args.self.now in
    let lg : length m.template.grid.sizes ≡ 3 = search rules in
    let p = grid_pair m.template.grid lg in
    omega arith

pub returns-clause-owns : goal.returns-clause-owns
returns-clause-owns c =
    let m = c.args.self.now in
    let l : length m.aligned ≡ 3 = search rules in
    let ls : length m.template.spread ≡ 3 = search rules in
    let lg : length m.template.grid.sizes ≡ 3 = search rules in
    let e = three_of m.aligned blank blank blank l in
    let lc : length c.args.cell.now.at ≡ 3 = search rules in
    let o = owner_is m _ _ _ c.args.cell.now.at c.owner_along.result c.owner_along-2.result c.owner_along-3.result e ls lg lc c.requires c.owner_along.ensures c.owner_along-2.ensures c.owner_along-3.ensures in
    let h = o.owner c.row_major.result (owner_place-is m c.args.cell.now.at _ c.row_major.result o c.row_major.ensures.number) in
    grind (arith, nat_tests)

pub returns-clause-only : goal.returns-clause-only
returns-clause-only c other lt ho =
    let m = c.args.self.now in
    let l : length m.aligned ≡ 3 = search rules in
    let ls : length m.template.spread ≡ 3 = search rules in
    let lg : length m.template.grid.sizes ≡ 3 = search rules in
    let e = three_of m.aligned blank blank blank l in
    let lc : length c.args.cell.now.at ≡ 3 = search rules in
    let o = owner_is m _ _ _ c.args.cell.now.at c.owner_along.result c.owner_along-2.result c.owner_along-3.result e ls lg lc c.requires c.owner_along.ensures c.owner_along-2.ensures c.owner_along-3.ensures in
    let h : owns m other c.args.cell.now.at ≡ true = grind (arith, nat_tests) in
    owner_number m c.args.cell.now.at _ c.row_major.result other o c.row_major.ensures.number lt h

pub returns-clause-holds : goal.returns-clause-holds
returns-clause-holds c =
    let m = c.args.self.now in
    let l : length m.aligned ≡ 3 = search rules in
    let ls : length m.template.spread ≡ 3 = search rules in
    let lg : length m.template.grid.sizes ≡ 3 = search rules in
    let e = three_of m.aligned blank blank blank l in
    let lc : length c.args.cell.now.at ≡ 3 = search rules in
    let o = owner_is m _ _ _ c.args.cell.now.at c.owner_along.result c.owner_along-2.result c.owner_along-3.result e ls lg lc c.requires c.owner_along.ensures c.owner_along-2.ensures c.owner_along-3.ensures in
    let h = o.holder c.row_major.result (owner_place-is m c.args.cell.now.at _ c.row_major.result o c.row_major.ensures.number) in
    grind (arith, nat_tests)
