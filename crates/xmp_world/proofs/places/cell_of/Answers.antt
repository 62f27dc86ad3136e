use Rattle.std.proofs.Common.{ℕ, sym, arith, get_or, subst, List}
use Rattle.xmp_map.specs.RowMajor.{unravel}
use Rattle.xmp_map.specs.Boxes.{IsInside}
use Rattle.xmp_map.proofs.Order.{below_inside, unravel_below}
use Rattle.xmp_map.proofs.Three.{product_of, place_of, rows_fit}
use Rattle.xmp_world.proofs.places.cell_of.Goals as goal

pub overflow_mul-rest : goal.overflow_mul-rest
overflow_mul-rest c = let s = c.args.sizes.now in
    let e = product_of s c.told-sizes in
    let f = rows_fit (get_or s 0 0) (get_or s 1 0) (get_or s 2 0) c.args.n 4194304 (omega arith) (omega arith) in omega arith

pub nonzero_rem-rest : goal.nonzero_rem-rest
nonzero_rem-rest c = let s = c.args.sizes.now in
    let e = product_of s c.told-sizes in
    let f = rows_fit (get_or s 0 0) (get_or s 1 0) (get_or s 2 0) c.args.n 4194304 (omega arith) (omega arith) in omega arith

pub overflow_mul-result : goal.overflow_mul-result
overflow_mul-result c = let s = c.args.sizes.now in
    let e = product_of s c.told-sizes in
    let f = rows_fit (get_or s 0 0) (get_or s 1 0) (get_or s 2 0) c.args.n 4194304 (omega arith) (omega arith) in omega arith

pub nonzero_div-result : goal.nonzero_div-result
nonzero_div-result c = let s = c.args.sizes.now in
    let e = product_of s c.told-sizes in
    let f = rows_fit (get_or s 0 0) (get_or s 1 0) (get_or s 2 0) c.args.n 4194304 (omega arith) (omega arith) in omega arith

pub nonzero_div-result-2 : goal.nonzero_div-result-2
nonzero_div-result-2 c = let s = c.args.sizes.now in
    let e = product_of s c.told-sizes in
    let f = rows_fit (get_or s 0 0) (get_or s 1 0) (get_or s 2 0) c.args.n 4194304 (omega arith) (omega arith) in omega arith

pub nonzero_rem-result : goal.nonzero_rem-result
nonzero_rem-result c = let s = c.args.sizes.now in
    let e = product_of s c.told-sizes in
    let f = rows_fit (get_or s 0 0) (get_or s 1 0) (get_or s 2 0) c.args.n 4194304 (omega arith) (omega arith) in omega arith

pub returns : goal.returns
returns c =
    let s = c.args.sizes.now in
    let e = sym (place_of c.args.sizes.now c.args.n c.told-sizes) in
    let P : List ℕ → Type 0 = λ xs. IsInside xs c.args.sizes.now in
    record {
      subscripts = e;
      inside = subst P (sym e) (below_inside (unravel s c.args.n) s (unravel_below s c.args.n c.requires.below));
    }
