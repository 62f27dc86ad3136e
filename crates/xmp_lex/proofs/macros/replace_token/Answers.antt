use Rattle.std.proofs.Common.{◌∙◌, ap}
use Rattle.std.proofs.lemmas.Result.{on_ok_weaker}
use Rattle.xmp_lex.specs.Expand.{definition_of}
use Rattle.xmp_lex.specs.Output.{frame}
use Rattle.xmp_lex.proofs.UseLemmas.{if_err, token_stays, token_full, token_used, token_over}
use Rattle.xmp_lex.proofs.macros.replace_token.Goals as goal

pub returns-in-None-clause-ok : goal.returns-in-None-clause-ok
returns-in-None-clause-ok c = on_ok_weaker c.put_copy.result (token_stays c.args.definitions.now c.args.token.now c.args.output.now c.put_copy.new.output (c.in-None.ensures ∙ ap (λ ns. definition_of c.args.definitions.now ns c.args.token.now.kind) c.new.ensures)) c.put_copy.ensures.ok

pub returns-in-None-clause-err : goal.returns-in-None-clause-err
returns-in-None-clause-err c = if_err c.put_copy.result (token_full c.args.definitions.now c.args.token.now c.args.output.now) c.put_copy.ensures.err

pub returns-in-Err-clause-err : goal.returns-in-Err-clause-err
returns-in-Err-clause-err c = token_full c.args.definitions.now c.args.token.now c.args.output.now c.in-Err.fault c.in-Err.ensures.err

pub returns-clause-ok : goal.returns-clause-ok
returns-clause-ok c = on_ok_weaker c.replace.result (token_used c.args.definitions.now c.args.token.now (frame c.in-Some.first) c.args.output.now c.count_name.new.output c.replace.new.output (c.in-Some.ensures ∙ ap (λ ns. definition_of c.args.definitions.now ns c.args.token.now.kind) c.new.ensures) c.in-Ok.ensures.ok) c.replace.ensures.ok

pub returns-clause-err : goal.returns-clause-err
returns-clause-err c = if_err c.replace.result (λ f. token_over c.args.definitions.now c.args.token.now (frame c.in-Some.first) c.args.output.now c.count_name.new.output f (c.in-Some.ensures ∙ ap (λ ns. definition_of c.args.definitions.now ns c.args.token.now.kind) c.new.ensures) c.in-Ok.ensures.ok) c.replace.ensures.err
