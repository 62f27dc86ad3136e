use Rattle.std.proofs.Common.{◌∙◌, ap, subst, arith}
use Rattle.xmp_meaning.specs.declared.ends.Flow.TheVariants.{Next}
use Rattle.xmp_meaning.specs.Runs.{Does}
use Rattle.xmp_nodes.specs.Nodes.{all_do}
use Rattle.xmp_exchanges.specs.Unpacks.{unpacks}
use Rattle.xmp_exchanges.proofs.OneExchange.{exchange_by, tables_many, tables_filled}
use Rattle.xmp_exchanges.proofs.exchange.exchange_by.Goals as goal

pub invariant_of-unpacking : goal.invariant_of-unpacking
invariant_of-unpacking c =
    let p = c.args.together.now.program.now in
    let t = c.args.transfer.now in
    let m = tables_many p t c.args.args.now c.args.nodes.now c.requires.many c.requires.enough c.args.plans.now c.args.tables.now c.requires.plans c.requires.tables in
    record {
      long = tables_filled p t c.args.args.now c.args.nodes.now c.requires.many c.requires.enough c.args.plans.now c.args.tables.now c.requires.plans c.requires.tables;
      few = let f = c.requires.few in omega (arith, m, f);
    }

pub returns : goal.returns
returns c =
    let p = c.args.together.now.program.now in
    let t = c.args.transfer.now in
    subst (λ r. Does r c.all_do.result c.all_do.new.nodes)
    (ap (all_do Next (unpacks t c.args.plans.now c.args.tables.now)) c.say.ensures
    ∙ exchange_by p t c.args.args.now c.args.nodes.now c.requires.many c.requires.enough c.args.plans.now c.args.tables.now c.requires.plans c.requires.tables)
    c.all_do.ensures
