use Rattle.std.proofs.Common.{◌≤◌, arith, subst}
use Rattle.xmp_move.specs.Reaches.{ReachFits}
use Rattle.xmp_move.proofs.ReachLaws.{span_position, rounds_position}
use Rattle.xmp_move.proofs.reach.Reach.position.Goals as goal

pub overflow_sub-result-in-Rounds : goal.overflow_sub-result-in-Rounds
overflow_sub-result-in-Rounds c =
    let e = rounds_position c.in-Rounds.width c.in-Rounds.nodes c.in-Rounds.node c.in-Rounds.offset c.args.x in
    omega arith

pub returns-in-Rounds : goal.returns-in-Rounds
returns-in-Rounds c =
    let e = rounds_position c.in-Rounds.width c.in-Rounds.nodes c.in-Rounds.node c.in-Rounds.offset c.args.x in
    rw c.in-Rounds.is (omega arith)

pub returns-in-Span : goal.returns-in-Span
returns-in-Span c =
    let le : c.in-Span.from ≤ c.in-Span.to = subst (λ r. ReachFits r c.args.extent) c.in-Span.is c.requires.fits in
    let e = span_position c.in-Span.from c.in-Span.to c.args.x le in
    rw c.in-Span.is (omega arith)
