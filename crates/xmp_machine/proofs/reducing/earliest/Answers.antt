use Rattle.std.proofs.Common.{◌-◌, ◌∙◌, ap, sym, arith, map}
use Rattle.std.specs.List.{range_with_len}
use Rattle.std.specs.Option.{option_map}
use Rattle.xmp_instr.specs.Resumed.{all_of, earliest_trap}
use Rattle.xmp_code.specs.Ends.{said_of_each}
use Rattle.xmp_machine.specs.Resuming.{end_by, with_earlier}
use Rattle.xmp_machine.proofs.Reductions.{earliest_of, ranged}
use Rattle.xmp_machine.proofs.reducing.earliest.Goals as goal

pub nodes-preserved : goal.nodes-preserved
nodes-preserved c =
    let end = end_by c.args.node c.args.own.now c.args.heard.now in
    let k = c.nodes.left - 1 in
    let i = c.nodes.invariant.count in
    let t = c.nodes-test.true in
    record {
      count = omega (arith, i, t);
      found = c.with_earlier-found.ensures
          ∙ ap (λ e. with_earlier e (said_of_each c.nodes.found)) c.end_by.ensures
          ∙ ap (with_earlier (end k)) c.nodes.invariant.found
          ∙ sym (ap (λ xs. option_map earliest_trap (all_of xs)) (ranged end k c.nodes.left c.nodes._k (omega (arith, i, t)))
          ∙ earliest_of (end k) (map end (range_with_len c.nodes.left c.nodes._k)));
    }
