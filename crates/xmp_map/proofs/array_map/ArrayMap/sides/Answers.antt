use Rattle.std.proofs.Common.{◌≡◌, arith, length, get_or, rules, sym}
use Rattle.std.proofs.lemmas.Bool.Decides.{nat_tests}
use Rattle.xmp_map.specs.RowMajor.{product}
use Rattle.xmp_map.proofs.Three.{three_of}
use Rattle.xmp_map.proofs.MapLaws.{blank, dims_fit, side_is, sides_are, sides_fit}
use Rattle.xmp_map.proofs.array_map.ArrayMap.sides.Goals as goal

pub held-requires-clause-target : goal.held-requires-clause-target
held-requires-clause-target c =
    let m = c.args.self.now in
    let l : length m.aligned ≡ 3 = search rules in
    let e = three_of m.aligned blank blank blank l in
    let f = dims_fit m _ _ _ e in
    let h = f.targets.0 in
    grind (arith, nat_tests)

pub held-requires-clause-shadow : goal.held-requires-clause-shadow
held-requires-clause-shadow c =
    let m = c.args.self.now in
    let l : length m.aligned ≡ 3 = search rules in
    let e = three_of m.aligned blank blank blank l in
    let f = dims_fit m _ _ _ e in
    let h = f.shadows.0 in
    grind (arith, nat_tests)

pub held-requires-clause-extent : goal.held-requires-clause-extent
held-requires-clause-extent c =
    let m = c.args.self.now in
    let l : length m.aligned ≡ 3 = search rules in
    let e = three_of m.aligned blank blank blank l in
    let f = dims_fit m _ _ _ e in
    let h = f.sizes.0 in
    grind (arith, nat_tests)

pub held-requires-2-clause-target : goal.held-requires-2-clause-target
held-requires-2-clause-target c =
    let m = c.args.self.now in
    let l : length m.aligned ≡ 3 = search rules in
    let e = three_of m.aligned blank blank blank l in
    let f = dims_fit m _ _ _ e in
    let h = f.targets.1 in
    grind (arith, nat_tests)

pub held-requires-2-clause-shadow : goal.held-requires-2-clause-shadow
held-requires-2-clause-shadow c =
    let m = c.args.self.now in
    let l : length m.aligned ≡ 3 = search rules in
    let e = three_of m.aligned blank blank blank l in
    let f = dims_fit m _ _ _ e in
    let h = f.shadows.1 in
    grind (arith, nat_tests)

pub held-requires-2-clause-extent : goal.held-requires-2-clause-extent
held-requires-2-clause-extent c =
    let m = c.args.self.now in
    let l : length m.aligned ≡ 3 = search rules in
    let e = three_of m.aligned blank blank blank l in
    let f = dims_fit m _ _ _ e in
    let h = f.sizes.1 in
    grind (arith, nat_tests)

pub held-requires-3-clause-target : goal.held-requires-3-clause-target
held-requires-3-clause-target c =
    let m = c.args.self.now in
    let l : length m.aligned ≡ 3 = search rules in
    let e = three_of m.aligned blank blank blank l in
    let f = dims_fit m _ _ _ e in
    let h = f.targets.2 in
    grind (arith, nat_tests)

pub held-requires-3-clause-shadow : goal.held-requires-3-clause-shadow
held-requires-3-clause-shadow c =
    let m = c.args.self.now in
    let l : length m.aligned ≡ 3 = search rules in
    let e = three_of m.aligned blank blank blank l in
    let f = dims_fit m _ _ _ e in
    let h = f.shadows.2 in
    grind (arith, nat_tests)

pub held-requires-3-clause-extent : goal.held-requires-3-clause-extent
held-requires-3-clause-extent c =
    let m = c.args.self.now in
    let l : length m.aligned ≡ 3 = search rules in
    let e = three_of m.aligned blank blank blank l in
    let f = dims_fit m _ _ _ e in
    let h = f.sizes.2 in
    grind (arith, nat_tests)

pub returns : goal.returns
unfolding product
returns c =
    let m = c.args.self.now in
    let l : length m.aligned ≡ 3 = search rules in
    let e = three_of m.aligned blank blank blank l in
    let f = dims_fit m _ _ _ e in
    let t = m.template in
    let l0 = get_or m.aligned 0 blank in
    let l1 = get_or m.aligned 1 blank in
    let l2 = get_or m.aligned 2 blank in
    let s = sides_are m c.args.node l0 l1 l2 e in
    let r1 = side_is t.spread t.grid.sizes c.args.node l0 c.grid_place-at.result c.held.result l0.extent c.grid_place-at.ensures.place c.held.ensures.held in
    let r2 = side_is t.spread t.grid.sizes c.args.node l1 c.grid_place-at.result c.held-2.result l1.extent c.grid_place-at.ensures.place c.held-2.ensures.held in
    let r3 = side_is t.spread t.grid.sizes c.args.node l2 c.grid_place-at.result c.held-3.result l2.extent c.grid_place-at.ensures.place c.held-3.ensures.held in
    let k = sides_fit c.held.result c.held-2.result c.held-3.result l0.extent l1.extent l2.extent 4194304 c.held.ensures.most c.held-2.ensures.most c.held-3.ensures.most f.sizes.0 f.sizes.1 f.sizes.2 f.cells in
    let p = k.pair in
    let q = k.all in
    record { sides = rw (r1, r2, r3) (sym s); pair = p; small = omega arith }
