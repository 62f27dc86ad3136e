use Rattle.std.proofs.Common.{◌≡◌, ◌∙◌, sym, Option, Some, None, refl, is_some, false, []}
use Rattle.std.proofs.lemmas.Result.{on_ok_weaker}
use Rattle.xmp_lex.specs.Expand.{definition_of}
use Rattle.xmp_lex.proofs.UseLemmas.{if_err, token_stays, token_full}
use Rattle.xmp_lex.proofs.macros.put_token.Goals as goal

none : {X : Type 0} (o : Option X) → is_some o ≡ false → o ≡ None
none None e = refl
none (Some x) e = absurd (cc)

pub returns-clause-ok : goal.returns-clause-ok
returns-clause-ok c =
    on_ok_weaker c.put.result (token_stays c.args.definitions.now c.args.token c.args.output.now c.put.new.output (sym (none (definition_of c.args.definitions.now [] c.args.token.kind) (sym c.is_replaced.ensures ∙ c.if-is_replaced.false)))) c.put.ensures.ok

pub returns-clause-err : goal.returns-clause-err
returns-clause-err c = if_err c.put.result (token_full c.args.definitions.now c.args.token c.args.output.now) c.put.ensures.err
