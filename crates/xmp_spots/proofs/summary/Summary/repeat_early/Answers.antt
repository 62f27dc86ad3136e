use Rattle.std.proofs.Common.{◌++◌, subst}
use Rattle.std.specs.Prelude.{IsPermutation}
use Rattle.indexmap.proofs.MapLemmas.{OnOk-map}
use Rattle.xmp_spots.proofs.SummaryLaws.{absorbed_in}
use Rattle.xmp_spots.proofs.summary.Summary.repeat_early.Goals as goal

pub returns-clause-late : goal.returns-clause-late
returns-clause-late c =
    OnOk-map c.absorb.result _ _
    (λ e. absorbed_in c.args.self.now.late c.args.self.now.early c.absorb.new.self
    (subst (λ l. IsPermutation (c.args.self.now.late ++ l) c.absorb.new.self) c.in_ok-copy.ensures e))
    c.absorb.ensures.ok
