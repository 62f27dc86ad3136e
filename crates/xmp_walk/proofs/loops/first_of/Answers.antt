use Rattle.std.proofs.Common.{ap}
use Rattle.xmp_syntax.specs.declared.statement.ForFirst.TheVariants as for_first
use Rattle.xmp_walk.specs.Statements.{first_of}
use Rattle.xmp_names.proofs.Walks.{same_walk}
use Rattle.xmp_walk.proofs.loops.first_of.Goals as goal

pub returns-in-Declare : goal.returns-in-Declare
returns-in-Declare c =
    let w : _ = c.args.world.now in
    let x : _ = c.in-Declare in
    same_walk (first_of c.args.x.now w) (first_of (for_first.Declare x.at x.name x.equals x.value) w) c.first_declared.result c.first_declared.new.world
    (ap (λ y. first_of y w) x.is) c.first_declared.ensures
