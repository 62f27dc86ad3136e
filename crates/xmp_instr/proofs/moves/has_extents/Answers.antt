use Rattle.std.proofs.Common.{◌∙◌, sym, ap, take}
use Rattle.std.proofs.lemmas.Bool.Decides.{Decides-eqb}
use Rattle.std.proofs.lemmas.Slice.Eq.{slice_eq-Decides}
use Rattle.xmp_instr.proofs.moves.has_extents.Goals as goal

pub returns : goal.returns
returns c =
    let e = ap (take c.args.map.now.dims) c.extents_of-all.ensures in
    let d = slice_eq-Decides Decides-eqb _ _ _ c.eq.ensures in
    (λ h. sym e ∙ d.0 h, λ h. d.1 (e ∙ h))
