use Rattle.xmp_source.proofs.Sources.{err_map, only_memory}
use Rattle.xmp_source.proofs.source.tree_of.Goals as goal

pub returns-clause-no_other : goal.returns-clause-no_other
returns-clause-no_other c = λ x p.
    err_map c.judged.result (λ e b. only_memory c.args.text.now (λ r. c.never_tree_and_refused.ensures c.args.text.now x r p) e b) c.judged.ensures.fault
