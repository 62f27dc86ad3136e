use Rattle.std.proofs.Common.{◌∙◌, ap}
use Rattle.std.proofs.lemmas.Bool.{and_from, iff_false}
use Rattle.xmp_paths.specs.NodeSets.{has}
use Rattle.xmp_paths.specs.Copies.{may_be_stale}
use Rattle.xmp_paths.proofs.FindLaws.{clear_read}
use Rattle.xmp_paths.proofs.walk.judge.Goals as goal

pub returns-in_default : goal.returns-in_default
returns-in_default c =
    clear_read c.args.phase c.args.event.now c.in-Read.object c.in-Read.nodes c.in-Read.rule c.in-Read.at (may_be_stale c.args.copies.now) c.in-Read.is
    (λ node h k. iff_false c.meets.ensures c.if-meets.false (node, and_from _ _ h (ap (λ n. has n node) c.get.ensures ∙ k)))
