use Rattle.std.proofs.Common.{◌≡◌, arith, length, sym}
use Rattle.xmp_map.proofs.Three.{place_of}
use Rattle.xmp_own_parts.proofs.Grids.{rows_fit}
use Rattle.xmp_own_parts.proofs.places.stands_at.Goals as goal

pub overflow_mul-rest : goal.overflow_mul-rest
overflow_mul-rest c = let l : length c.args.grid.now.sizes ≡ 3 = omega arith in let f = rows_fit c.args.grid.now l in omega arith

pub overflow_mul-result : goal.overflow_mul-result
overflow_mul-result c = let l : length c.args.grid.now.sizes ≡ 3 = omega arith in let f = rows_fit c.args.grid.now l in omega arith

pub nonzero_rem-rest : goal.nonzero_rem-rest
nonzero_rem-rest c = let l : length c.args.grid.now.sizes ≡ 3 = omega arith in let f = rows_fit c.args.grid.now l in omega arith

pub nonzero_div-result : goal.nonzero_div-result
nonzero_div-result c = let l : length c.args.grid.now.sizes ≡ 3 = omega arith in let f = rows_fit c.args.grid.now l in omega arith

pub nonzero_div-result-2 : goal.nonzero_div-result-2
nonzero_div-result-2 c = let l : length c.args.grid.now.sizes ≡ 3 = omega arith in let f = rows_fit c.args.grid.now l in omega arith

pub nonzero_rem-result : goal.nonzero_rem-result
nonzero_rem-result c = let l : length c.args.grid.now.sizes ≡ 3 = omega arith in let f = rows_fit c.args.grid.now l in omega arith

pub returns : goal.returns
returns c = let l : length c.args.grid.now.sizes ≡ 3 = omega arith in sym (place_of c.args.grid.now.sizes c.args.node l)
