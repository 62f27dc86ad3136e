use Rattle.std.proofs.Common.{◌≡◌, ℕ, ℤ, List, [], ◌∷◌, Bool, true, refl}
use Rattle.xmp_prog.specs.declared.statements.MoveSide.{MoveSide}
use Rattle.xmp_meaning.specs.Handlers.{erased}
use Rattle.xmp_meaning.specs.declared.ends.Flow.{Flow}
use Rattle.xmp_meaning.specs.declared.ends.Flow.TheVariants.{Next}
use Rattle.xmp_meaning.specs.Runs.{State, Gave}
use Rattle.xmp_meaning.specs.Context.{Context}
use Rattle.xmp_meaning.specs.Sections.{fit, store_all}

pub fit_none : (ns : List ℤ) → fit [] ns ≡ true
fit_none [] = refl
fit_none (n ∷ ns) = refl

-- where there are no more values nothing is written
pub store_none : (cx : Context) (target : MoveSide) (cells : List ℕ) (s : State (Unit {0})) → store_all erased cx target cells [] s ≡ Gave Next s
store_none cx target [] s = refl
store_none cx target (n ∷ ns) s = refl
