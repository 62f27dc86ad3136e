use Rattle.std.proofs.Common.{◌≡◌, ◌++◌, [], length, sym, ap, ◌∙◌}
use Rattle.std.specs.Prelude.{unwrap_or}
use Rattle.std.specs.List.{flat_map, range_with_len}
use Rattle.xmp_nodes.specs.Nodes.{bounded}
use Rattle.xmp_world.specs.Reports.{counts_in, line_text, report_line}
use Rattle.xmp_world.proofs.ReportLaws.{flat_more, bounded_small}
use Rattle.xmp_world.proofs.report.report_of.Goals as goal

pub loop-node-preserved : goal.loop-node-preserved
loop-node-preserved c =
    let w = c.args.world.now in
    let node = c.loop-node.node in
    let words : length c.store.result.now ≡ (counts_in w node).words = sym (ap (λ o. length (unwrap_or o [])) c.store.ensures) in
    let small : c.turns.result ≡ bounded c.turns.result = bounded_small c.turns.result c.turns.type_inv in
    let turns : c.turns.result ≡ bounded (counts_in w node).turns = small ∙ sym (ap (λ o. bounded (unwrap_or o 0)) c.turns.ensures) in
    let before = flat_map (λ k. report_line k (counts_in w k)) (range_with_len 0 node) in
    c.in_ok-push_line.ensures
    ∙ ((λ i. c.loop-node.invariant i ++ line_text node (words i) (turns i) (c.sent_by-sent.ensures i))
    ∙ sym (flat_more (λ k. report_line k (counts_in w k)) node))
