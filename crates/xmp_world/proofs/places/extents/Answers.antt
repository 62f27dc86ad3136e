use Rattle.std.proofs.Common.{◌≡◌, length, get_or, rules, arith, sym}
use Rattle.xmp_map.proofs.Three.{three_of, product-three}
use Rattle.xmp_map.proofs.MapLaws.{blank, dims_fit, extents_are, sides_fit}
use Rattle.xmp_world.proofs.places.extents.Goals as goal

pub returns-clause-extents : goal.returns-clause-extents
returns-clause-extents c =
    let m = c.args.m.now in
    let l : length m.aligned ≡ 3 = search rules in
    sym (extents_are m _ _ _ (three_of m.aligned blank blank blank l))

pub returns-clause-pair : goal.returns-clause-pair
returns-clause-pair c =
    let m = c.args.m.now in
    let l : length m.aligned ≡ 3 = search rules in
    let f = dims_fit m _ _ _ (three_of m.aligned blank blank blank l) in
    let x = (get_or m.aligned 0 blank).extent in
    let y = (get_or m.aligned 1 blank).extent in
    let z = (get_or m.aligned 2 blank).extent in
    (sides_fit x y z x y z 4194304 (omega arith) (omega arith) (omega arith) f.sizes.0 f.sizes.1 f.sizes.2 f.cells).pair

pub returns-clause-small : goal.returns-clause-small
returns-clause-small c =
    let m = c.args.m.now in
    let l : length m.aligned ≡ 3 = search rules in
    let f = dims_fit m _ _ _ (three_of m.aligned blank blank blank l) in
    let p = product-three (get_or m.aligned 0 blank).extent (get_or m.aligned 1 blank).extent (get_or m.aligned 2 blank).extent in
    let few = f.cells in
    omega (arith, p, few)
