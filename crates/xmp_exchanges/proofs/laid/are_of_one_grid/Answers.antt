use Rattle.std.proofs.Common.{◌∙◌, sym, subst}
use Rattle.xmp_prog.specs.declared.parts.Home.{Home}
use Rattle.xmp_prog.specs.declared.parts.Home.TheVariants as home
use Rattle.xmp_move.specs.Laid.{AreOfOneGrid, grid_of}
use Rattle.xmp_exchanges.proofs.SameGrids.{same_grids}
use Rattle.xmp_exchanges.proofs.laid.are_of_one_grid.Goals as goal

pub returns-in-Spread-source : goal.returns-in-Spread-source
returns-in-Spread-source c = λ h.
    subst (λ (t : Home). AreOfOneGrid (grid_of t) (grid_of c.args.source.now)) (sym c.in-Spread.is)
    (subst (λ (s : Home). AreOfOneGrid (grid_of (home.Spread c.in-Spread.field-0 c.in-Spread.map)) (grid_of s)) (sym c.in-Spread-source.is)
    (same_grids c.in-Spread.map.template.grid c.in-Spread-source.other.template.grid (sym c.eq.ensures ∙ h)))
