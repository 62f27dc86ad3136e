use Rattle.std.proofs.Common.{subst}
use Rattle.std.specs.Prelude.{IfErr}
use Rattle.xmp_parse.specs.Faults.{IsFault}
use Rattle.xmp_source.proofs.Sources.{err_map, syntax_fault}
use Rattle.xmp_source.proofs.source.judged.Goals as goal

pub returns-clause-fault : goal.returns-clause-fault
returns-clause-fault c =
    let here : IfErr c.parse.result (λ e. IsFault c.in_ok-tokens.tokens.items e)
    = subst (λ ts. IfErr c.parse.result (λ e. IsFault ts e)) c.as_slice.ensures.value c.parse.ensures.fault in
    err_map c.parse.result (λ e b. syntax_fault c.args.text.now c.in_ok-tokens.tokens.items e c.in_ok-tokens.ensures.comes b) here
