use Rattle.std.proofs.Common.{◌++◌, subst}
use Rattle.std.specs.Prelude.{IsPermutation}
use Rattle.indexmap.proofs.MapLemmas.{OnOk-map}
use Rattle.xmp_spots.proofs.SummaryLaws.{absorbed_in}
use Rattle.xmp_spots.proofs.summary.Summary.gather.Goals as goal

pub returns-clause-early : goal.returns-clause-early
returns-clause-early c =
    OnOk-map c.absorb.result _ _
    (λ e. absorbed_in c.args.self.now.early c.args.next.early c.absorb.new.self
    (subst (λ l. IsPermutation (c.args.self.now.early ++ l) c.absorb.new.self) c.into_early.ensures e))
    c.absorb.ensures.ok
