use Rattle.std.proofs.Common.{rules, w64}
use Rattle.std.specs.Prelude.{FitsSigned}
use Rattle.std.proofs.lemmas.Int.{to_z-of_z}
use Rattle.xmp_machine.specs.Resuming.{value_by}
use Rattle.xmp_machine.proofs.Reductions.{combined_more}
use Rattle.xmp_machine.proofs.reducing.combined.Goals as goal

pub nodes-preserved : goal.nodes-preserved
nodes-preserved c =
    let fit : FitsSigned w64 c.combine-value.result = search rules in
    let one : FitsSigned w64 c.value_by.result = search rules in
    let a = to_z-of_z w64 c.combine-value.result fit in
    let b = to_z-of_z w64 c.value_by.result one in
    let e = c.combine-value.ensures.value in
    let more = combined_more c.args.r.now (value_by c.args.node c.args.store.now c.args.heard.now c.args.j c.args.r.now.slot) c.nodes.k c.nodes.auto.k in
    cc
