use Rattle.xmp_source.proofs.Sources.{err_map, macro_fault}
use Rattle.xmp_source.proofs.source.expanded.Goals as goal

pub returns-clause-fault : goal.returns-clause-fault
returns-clause-fault c =
    err_map c.expand.result (λ e b. macro_fault c.args.text.now c.in_ok-tokens.tokens.items e c.in_ok-tokens.ensures.ok b) c.expand.ensures.err
