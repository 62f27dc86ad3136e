use Rattle.std.proofs.Common.{◌≡◌, arith, length, drop, ap}
use Rattle.xmp_dist.specs.Table.{chunk_of}
use Rattle.xmp_dist.proofs.Spans.{chunk_here, chunk_next, chunk_none}
use Rattle.xmp_dist.proofs.chunks.chunk_of.Goals as goal

pub returns-then-rest-len : goal.returns-then-rest-len
returns-then-rest-len c = omega (arith, chunk_here, c.loop-i.invariant)

pub loop-i-preserved : goal.loop-i-preserved
loop-i-preserved c = omega (arith, chunk_next, c.loop-i.invariant)

pub returns : goal.returns
returns c =
    let z = chunk_none c.args.lengths.now c.loop-i.rest in
    let e : c.loop-i.i ≡ length c.args.lengths.now = omega arith in
    let k = ap (λ i. chunk_of (drop i c.args.lengths.now) c.loop-i.rest) e in
    omega (arith, c.loop-i.invariant)
