use Rattle.std.proofs.Common.{◌∙◌, sym, subst}
use Rattle.xmp_prog.specs.declared.parts.Home.{Home}
use Rattle.xmp_move.specs.Laid.{MapFits}
use Rattle.xmp_exchanges.proofs.Lists.{take_mapped}
use Rattle.xmp_exchanges.proofs.laid.map_fits.Goals as goal

pub returns-then-map-le3 : goal.returns-then-map-le3
returns-then-map-le3 c = λ h.
    subst (λ (t : Home). MapFits t c.args.extents.now) (sym c.in-Spread.is)
    (sym (take_mapped (λ l. l.extent) c.in-Spread.map.dims c.in-Spread.map.aligned) ∙ c.agree.ensures h)
