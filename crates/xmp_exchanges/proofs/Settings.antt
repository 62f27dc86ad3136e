-- Variables that are set.
use Rattle.std.proofs.Common.{◌≡◌, List, [], ◌∷◌, refl}
use Rattle.xmp_prog.specs.declared.statements.Name.{Name}
use Rattle.xmp_meaning.specs.declared.ends.Flow.TheVariants.{Next}
use Rattle.xmp_meaning.specs.Runs.{State, Gave}
use Rattle.xmp_meaning.specs.LoopEnds.{set_all}

-- without values none is
pub none_left : (ns : List Name) (s : State (Unit {0})) → set_all ns [] s ≡ Gave Next s
none_left [] s = refl
none_left (n ∷ ns) s = refl
