use Rattle.std.proofs.Common.{◌-◌, ◌∙◌, Some, ap, arith}
use Rattle.xmp_machine.specs.Resuming.{with_reduced}
use Rattle.xmp_machine.proofs.Reductions.{reduced_step}
use Rattle.xmp_machine.proofs.reducing.reduce.Goals as goal

pub variables-preserved : goal.variables-preserved
variables-preserved c =
    let i = c.variables.invariant.count in
    let t = c.variables-test.true in
    record {
      count = omega (arith, i, t);
      words = reduced_step c.args.nodes c.args.node c.args.heard.now c.args.reduced.now (c.variables.left - 1) c.variables.left c.in-Some.r.now c.args.words.now c.variables.words c.reduce_one.new.words
          (omega (arith, i, t)) (omega (arith, i, t)) c.in-Some.ensures.lookup.1 c.variables.invariant.words
          (c.reduce_one.ensures ∙ ap (λ xs. with_reduced c.args.nodes c.args.node c.args.heard.now (c.variables.left - 1) (Some c.in-Some.r.now) xs c.variables.words) c.behind.ensures);
    }
