use Rattle.std.proofs.Common.{arith}
use Rattle.xmp_map.proofs.Three.{product_of}
use Rattle.xmp_world.proofs.places.cell_count.Goals as goal

pub overflow_mul-result : goal.overflow_mul-result
overflow_mul-result c = let e = product_of c.args.sizes.now c.told-sizes in omega arith

pub overflow_mul-result-2 : goal.overflow_mul-result-2
overflow_mul-result-2 c = let e = product_of c.args.sizes.now c.told-sizes in omega arith

pub returns : goal.returns
returns c = let e = product_of c.args.sizes.now c.told-sizes in omega arith
