use Rattle.std.proofs.Common.{arith, sym, get_or}
use Rattle.xmp_map.proofs.Three.{row_major_of}
use Rattle.xmp_tasks.proofs.Grids.{leader_small, sizes_of}
use Rattle.xmp_tasks.proofs.sets.leader.Goals as goal

pub overflow_mul-result : goal.overflow_mul-result
overflow_mul-result c =
    let s = c.args.grid.now.sizes in
    let x = c.args.set.now.first in
    let f = leader_small (get_or x 0 0) (get_or x 1 0) (get_or x 2 0) (get_or s 1 0) (get_or s 2 0) (omega arith) (omega arith) (omega arith) (sizes_of s (omega arith) c.args.grid.now.valid) in
    omega arith

pub overflow_add-result : goal.overflow_add-result
overflow_add-result c =
    let s = c.args.grid.now.sizes in
    let x = c.args.set.now.first in
    let f = leader_small (get_or x 0 0) (get_or x 1 0) (get_or x 2 0) (get_or s 1 0) (get_or s 2 0) (omega arith) (omega arith) (omega arith) (sizes_of s (omega arith) c.args.grid.now.valid) in
    omega arith

pub returns : goal.returns
returns c = sym (row_major_of c.args.grid.now.sizes c.args.set.now.first (omega arith) (omega arith))
