use Rattle.std.proofs.Common.{◌≡◌, length, rules, arith}
use Rattle.std.proofs.lemmas.Bool.Decides.{nat_tests}
use Rattle.xmp_map.proofs.Three.{three_of}
use Rattle.xmp_map.proofs.MapLaws.{blank, dims_fit, inside_three}
use Rattle.xmp_map.proofs.array_map.ArrayMap.owner_along.Goals as goal

pub owner_on-requires-clause-target : goal.owner_on-requires-clause-target
owner_on-requires-clause-target c =
    let m = c.args.self.now in
    let l : length m.aligned ≡ 3 = search rules in
    let e = three_of m.aligned blank blank blank l in
    let f = dims_fit m _ _ _ e in
    let h = f.targets.2 in
    grind (arith, nat_tests)

pub owner_on-requires-clause-extent : goal.owner_on-requires-clause-extent
owner_on-requires-clause-extent c =
    let m = c.args.self.now in
    let l : length m.aligned ≡ 3 = search rules in
    let e = three_of m.aligned blank blank blank l in
    let f = dims_fit m _ _ _ e in
    let h = f.sizes.2 in
    grind (arith, nat_tests)

pub owner_on-requires-clause-inside : goal.owner_on-requires-clause-inside
owner_on-requires-clause-inside c =
    let m = c.args.self.now in
    let l : length m.aligned ≡ 3 = search rules in
    let e = three_of m.aligned blank blank blank l in
    let i = inside_three m _ _ _ c.args.cell.now e c.told-cell c.requires in
    i.third

pub owner_on-requires-2-clause-target : goal.owner_on-requires-2-clause-target
owner_on-requires-2-clause-target c =
    let m = c.args.self.now in
    let l : length m.aligned ≡ 3 = search rules in
    let e = three_of m.aligned blank blank blank l in
    let f = dims_fit m _ _ _ e in
    let h = f.targets.1 in
    grind (arith, nat_tests)

pub owner_on-requires-2-clause-extent : goal.owner_on-requires-2-clause-extent
owner_on-requires-2-clause-extent c =
    let m = c.args.self.now in
    let l : length m.aligned ≡ 3 = search rules in
    let e = three_of m.aligned blank blank blank l in
    let f = dims_fit m _ _ _ e in
    let h = f.sizes.1 in
    grind (arith, nat_tests)

pub owner_on-requires-2-clause-inside : goal.owner_on-requires-2-clause-inside
owner_on-requires-2-clause-inside c =
    let m = c.args.self.now in
    let l : length m.aligned ≡ 3 = search rules in
    let e = three_of m.aligned blank blank blank l in
    let i = inside_three m _ _ _ c.args.cell.now e c.told-cell c.requires in
    i.second

pub owner_on-requires-3-clause-target : goal.owner_on-requires-3-clause-target
owner_on-requires-3-clause-target c =
    let m = c.args.self.now in
    let l : length m.aligned ≡ 3 = search rules in
    let e = three_of m.aligned blank blank blank l in
    let f = dims_fit m _ _ _ e in
    let h = f.targets.0 in
    grind (arith, nat_tests)

pub owner_on-requires-3-clause-extent : goal.owner_on-requires-3-clause-extent
owner_on-requires-3-clause-extent c =
    let m = c.args.self.now in
    let l : length m.aligned ≡ 3 = search rules in
    let e = three_of m.aligned blank blank blank l in
    let f = dims_fit m _ _ _ e in
    let h = f.sizes.0 in
    grind (arith, nat_tests)

pub owner_on-requires-3-clause-inside : goal.owner_on-requires-3-clause-inside
owner_on-requires-3-clause-inside c =
    let m = c.args.self.now in
    let l : length m.aligned ≡ 3 = search rules in
    let e = three_of m.aligned blank blank blank l in
    let i = inside_three m _ _ _ c.args.cell.now e c.told-cell c.requires in
    i.first
