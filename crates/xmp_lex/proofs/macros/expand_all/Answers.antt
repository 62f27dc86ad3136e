use Rattle.std.proofs.Common.{◌≡◌, List, [], refl, subst, arith}
use Rattle.std.proofs.lemmas.List.{nil_from_length}
use Rattle.xmp_lex.proofs.ExpandLemmas.{InText, text_next, text_end, text_breaks, expanded_finished}
use Rattle.xmp_lex.proofs.macros.expand_all.Goals as goal

pub returns-in-Err-clause-err : goal.returns-in-Err-clause-err
returns-in-Err-clause-err c = text_breaks c.args.tokens.items c.loop-token.definitions c.in-Some.token c.pop_front.new.self.items c.loop-token.output c.in-Err.fault
    (subst (λ ts. InText c.args.tokens.items c.loop-token.definitions ts c.loop-token.output) c.in-Some.ensures.items c.loop-token.invariant) c.in-Some.token.kind refl c.in-Err.ensures.err

pub loop-token-preserved : goal.loop-token-preserved
loop-token-preserved c = text_next c.args.tokens.items c.loop-token.definitions _ c.in-Some.token c.pop_front.new.self.items c.step.new.rest.items c.loop-token.output _
    (subst (λ ts. InText c.args.tokens.items c.loop-token.definitions ts c.loop-token.output) c.in-Some.ensures.items c.loop-token.invariant) c.in-Some.token.kind refl c.in-Ok.ensures.ok

pub returns-clause-ok : goal.returns-clause-ok
returns-clause-ok c =
    let none : c.loop-token.rest.items ≡ [] = nil_from_length c.loop-token.rest.items (let z = c.in_default.ensures.cases.0 in omega arith) in
    text_end c.args.tokens.items c.loop-token.definitions c.loop-token.output (subst (λ ts. InText c.args.tokens.items c.loop-token.definitions ts c.loop-token.output) none c.loop-token.invariant)

pub returns-clause-finished : goal.returns-clause-finished
returns-clause-finished c = expanded_finished c.args.tokens.items c.loop-token.output.tokens.items c.requires.finished (returns-clause-ok c)
