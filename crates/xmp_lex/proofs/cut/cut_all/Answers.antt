use Rattle.xmp_lex.specs.Found.{state_of}
use Rattle.xmp_lex.proofs.CutLemmas.{in_start, in_next, refused, passed, passed_last, nonempty, is_nil}
use Rattle.xmp_lex.proofs.cut.cut_all.Goals as goal

pub loop-rest-init : goal.loop-rest-init
loop-rest-init c = rw c.new-tokens.ensures.items (in_start c.args.text.now c.requires)

pub returns-in-Err-clause-err : goal.returns-in-Err-clause-err
returns-in-Err-clause-err c = rw c.refusal.ensures (refused _ _ _ _ _ _ c.loop-rest.invariant (nonempty _ _ c.is_empty.ensures c.loop-rest-test.true) c.in-Err.ensures.err)

pub returns-in-Err-put-clause-err : goal.returns-in-Err-put-clause-err
returns-in-Err-put-clause-err c = passed c.args.text.now c.loop-rest.tokens.items c.loop-rest.at (state_of c.loop-rest.mode) c.loop-rest.rest.now c.in-Ok.field-0.length c.in-Ok.field-0.token c.in-Ok.field-0.mode _ c.loop-rest.invariant (nonempty _ _ c.is_empty.ensures c.loop-rest-test.true) c.in-Ok.ensures.ok c.in-Err-put.ensures.err

pub loop-rest-preserved : goal.loop-rest-preserved
loop-rest-preserved c = in_next c.args.text.now c.loop-rest.tokens.items c.loop-rest.at (state_of c.loop-rest.mode) c.loop-rest.rest.now c.in-Ok.field-0.length c.in-Ok.field-0.token c.in-Ok.field-0.mode
    c.put.new.tokens.items c.behind-at.result c.front.result.now c.from-rest.result.now
    c.loop-rest.invariant (nonempty _ _ c.is_empty.ensures c.loop-rest-test.true) c.in-Ok.ensures.ok c.in-Ok-put.ensures.ok c.front.ensures c.behind-at.ensures.value c.behind-at.ensures.line c.behind-at.ensures.column c.from-rest.ensures

pub returns-in-Err-finish-clause-err : goal.returns-in-Err-finish-clause-err
returns-in-Err-finish-clause-err c = passed_last _ _ _ _ _ _ c.loop-rest.invariant (is_nil _ _ c.is_empty.ensures c.loop-rest-test.false) c.in-Err-finish.ensures.err
