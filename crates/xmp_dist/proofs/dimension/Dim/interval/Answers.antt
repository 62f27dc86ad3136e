use Rattle.xmp_dist.proofs.Owned.{interval_owned, chunk_order}
use Rattle.xmp_dist.proofs.dimension.Dim.interval.Goals as goal

pub returns : goal.returns
returns c =
    let d = c.args.self.now in
    let order = chunk_order d.size d.nodes d.dist c.args.c d.valid in
    record {
      start = c.ends.ensures.start;
      finish = c.ends.ensures.finish;
      order = rw (c.ends.ensures.start, c.ends.ensures.finish) order.0;
      inside = rw c.ends.ensures.finish order.1;
      owned = λ x h. rw (c.ends.ensures.start, c.ends.ensures.finish) (interval_owned d c.args.c x c.requires.chunked c.requires.node h);
    }
