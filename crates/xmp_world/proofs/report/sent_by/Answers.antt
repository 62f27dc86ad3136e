use Rattle.std.proofs.Common.{◌≡◌, ◌+◌, ℕ, length, sym, ap, ◌∙◌, arith}
use Rattle.std.specs.Prelude.{unwrap_or}
use Rattle.std.specs.List.{range_with_len, sum_by}
use Rattle.xmp_nodes.specs.Nodes.{bounded}
use Rattle.xmp_world.specs.Counts.{sent_to}
use Rattle.xmp_world.proofs.ReportLaws.{sum_more, bounded_more}
use Rattle.xmp_world.proofs.report.sent_by.Goals as goal

pub loop-to-preserved : goal.loop-to-preserved
loop-to-preserved c =
    let f : ℕ → ℕ = λ to. unwrap_or (sent_to c.args.world.now c.args.node to) 0 in
    let here : f c.loop-to.to ≡ c.sent.result = ap (λ o. unwrap_or o 0) c.sent.ensures in
    c.saturating_add-all.ensures
    ∙ (ap (λ a. bounded (a + c.sent.result)) c.loop-to.invariant
    ∙ (bounded_more (sum_by f (range_with_len 0 c.loop-to.to)) c.sent.result
    ∙ (ap (λ x. bounded (sum_by f (range_with_len 0 c.loop-to.to) + x)) (sym here)
    ∙ ap bounded (sym (sum_more f c.loop-to.to)))))

pub returns : goal.returns
returns c =
    let f : ℕ → ℕ = λ to. unwrap_or (sent_to c.args.world.now c.args.node to) 0 in
    let all : c.loop-to.to ≡ length c.args.world.now.stores = omega (arith, c.requires.count, c.loop-to.auto.to-end, c.loop-to-test.false) in
    c.loop-to.invariant ∙ ap (λ n. bounded (sum_by f (range_with_len 0 n))) all
