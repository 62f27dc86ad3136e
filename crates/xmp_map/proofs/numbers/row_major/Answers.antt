use Rattle.std.proofs.Common.{◌<◌, sym, arith, get_or, length}
use Rattle.xmp_map.proofs.Order.{inside_below, below_at, row_major-lt}
use Rattle.xmp_map.proofs.Three.{product_of, row_major_of, place_fits}
use Rattle.xmp_map.proofs.numbers.row_major.Goals as goal

pub overflow_mul-result : goal.overflow_mul-result
overflow_mul-result c = let s = c.args.sizes.now in let x = c.args.at.now in
    let b = inside_below x s c.requires.inside in
    let l : 0 < length s = omega arith in
    let l1 : 1 < length s = omega arith in
    let l2 : 2 < length s = omega arith in
    let e = product_of s c.told-sizes in
    let f = place_fits (get_or s 0 0) (get_or s 1 0) (get_or s 2 0) (get_or x 0 0) (get_or x 1 0) (get_or x 2 0) 4194304 c.requires.pair (omega arith) (below_at x s 0 b l) (below_at x s 1 b l1) (below_at x s 2 b l2) in omega arith

pub overflow_add-result : goal.overflow_add-result
overflow_add-result c = let s = c.args.sizes.now in let x = c.args.at.now in
    let b = inside_below x s c.requires.inside in
    let l : 0 < length s = omega arith in
    let l1 : 1 < length s = omega arith in
    let l2 : 2 < length s = omega arith in
    let e = product_of s c.told-sizes in
    let f = place_fits (get_or s 0 0) (get_or s 1 0) (get_or s 2 0) (get_or x 0 0) (get_or x 1 0) (get_or x 2 0) 4194304 c.requires.pair (omega arith) (below_at x s 0 b l) (below_at x s 1 b l1) (below_at x s 2 b l2) in omega arith

pub overflow_mul-result-2 : goal.overflow_mul-result-2
overflow_mul-result-2 c = let s = c.args.sizes.now in let x = c.args.at.now in
    let b = inside_below x s c.requires.inside in
    let l : 0 < length s = omega arith in
    let l1 : 1 < length s = omega arith in
    let l2 : 2 < length s = omega arith in
    let e = product_of s c.told-sizes in
    let f = place_fits (get_or s 0 0) (get_or s 1 0) (get_or s 2 0) (get_or x 0 0) (get_or x 1 0) (get_or x 2 0) 4194304 c.requires.pair (omega arith) (below_at x s 0 b l) (below_at x s 1 b l1) (below_at x s 2 b l2) in omega arith

pub overflow_add-result-2 : goal.overflow_add-result-2
overflow_add-result-2 c = let s = c.args.sizes.now in let x = c.args.at.now in
    let b = inside_below x s c.requires.inside in
    let l : 0 < length s = omega arith in
    let l1 : 1 < length s = omega arith in
    let l2 : 2 < length s = omega arith in
    let e = product_of s c.told-sizes in
    let f = place_fits (get_or s 0 0) (get_or s 1 0) (get_or s 2 0) (get_or x 0 0) (get_or x 1 0) (get_or x 2 0) 4194304 c.requires.pair (omega arith) (below_at x s 0 b l) (below_at x s 1 b l1) (below_at x s 2 b l2) in omega arith

pub returns : goal.returns
returns c =
    let s = c.args.sizes.now in
    let x = c.args.at.now in
    let e = row_major_of s x c.told-sizes c.told-at in
    let h = row_major-lt x s (inside_below x s c.requires.inside) in
    record { number = sym e; below = omega arith }
