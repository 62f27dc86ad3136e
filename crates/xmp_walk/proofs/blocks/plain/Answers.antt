use Rattle.std.proofs.Common.{ap}
use Rattle.xmp_directives.specs.Directives.{bcast_of, reflect_of}
use Rattle.xmp_walk.specs.Program.{plain_of}
use Rattle.xmp_names.proofs.Walks.{same_walk}
use Rattle.xmp_walk.proofs.blocks.plain.Goals as goal

pub returns-in-Reflect : goal.returns-in-Reflect
returns-in-Reflect c =
    let w : _ = c.args.world.now in
    same_walk (plain_of c.args.x.now w) (reflect_of c.in-Reflect.line c.in-Reflect.names.item w) c.reflect.result c.reflect.new.world
    (ap (λ p. plain_of p w) c.in-Reflect.is) c.reflect.ensures

pub returns-in-Bcast : goal.returns-in-Bcast
returns-in-Bcast c =
    let w : _ = c.args.world.now in
    same_walk (plain_of c.args.x.now w) (bcast_of c.in-Bcast.line c.in-Bcast.names.item c.in-Bcast.set w) c.bcast.result c.bcast.new.world
    (ap (λ p. plain_of p w) c.in-Bcast.is) c.bcast.ensures
