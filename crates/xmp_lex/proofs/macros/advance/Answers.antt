use Rattle.std.proofs.Common.{◌∙◌, ◌++◌, [], ◌∷◌, sym, ap, subst}
use Rattle.xmp_lex.specs.Output.{frame, frames, Advances}
use Rattle.xmp_lex.proofs.UseLemmas.{on_both, on_three, frames_last, names_last, advance_done, advance_keep, advance_use}
use Rattle.xmp_lex.proofs.macros.advance.Goals as goal

pub returns-in-None-clause-ok : goal.returns-in-None-clause-ok
returns-in-None-clause-ok c =
    advance_done c.args.definitions.now c.args.at (frames c.args.uses.now.items) (frame c.args.current) _ c.args.output.now c.in-None.ensures (c.show_last.ensures _ _ (c.requires.names ∙ names_last (frames c.args.uses.now.items) (frame c.args.current))) c.requires.few

pub returns-in-None-use_of-clause-ok : goal.returns-in-None-use_of-clause-ok
returns-in-None-use_of-clause-ok c = on_both c.keep.result c.keep.ensures.uses c.keep.ensures.put (λ u p.
    subst (λ us. Advances c.args.definitions.now c.args.at (frames c.args.uses.now.items ++ frame c.args.current ∷ []) us c.args.hidden.now c.args.output.now c.keep.new.output)
    (sym (ap frames u ∙ frames_last c.args.uses.now.items (record { name = c.args.current.name; rest = c.in-Some.rest })))
    (advance_keep c.args.definitions.now c.args.at (frames c.args.uses.now.items) (frame c.args.current) c.in-Some.token.now c.in-Some.rest.now c.args.hidden.now c.args.output.now c.keep.new.output
    c.in-Some.ensures c.requires.names c.in-None-use_of.ensures p))

pub returns-in-Some-use_of-clause-ok : goal.returns-in-Some-use_of-clause-ok
returns-in-Some-use_of-clause-ok c = on_three c.enter.result c.enter.ensures.uses c.enter.ensures.hidden c.enter.ensures.put (λ u h p.
    subst (λ us. Advances c.args.definitions.now c.args.at (frames c.args.uses.now.items ++ frame c.args.current ∷ []) us c.enter.new.hidden c.args.output.now c.enter.new.output)
    (sym (ap frames u ∙ frames_last (c.args.uses.now.items ++ record { name = c.args.current.name; rest = c.in-Some.rest } ∷ []) c.in-Some-use_of.inner
    ∙ ap (λ us. us ++ frame c.in-Some-use_of.inner ∷ []) (frames_last c.args.uses.now.items (record { name = c.args.current.name; rest = c.in-Some.rest }))))
    (subst (λ ns. Advances c.args.definitions.now c.args.at (frames c.args.uses.now.items ++ frame c.args.current ∷ []) (frames c.args.uses.now.items ++ (c.args.current.name.now, c.in-Some.rest.now) ∷ [] ++ frame c.in-Some-use_of.inner ∷ []) ns c.args.output.now c.enter.new.output)
    (sym h)
    (advance_use c.args.definitions.now c.args.at (frames c.args.uses.now.items) (frame c.args.current) (frame c.in-Some-use_of.inner) c.in-Some.token.now c.in-Some.rest.now c.args.hidden.now c.args.output.now c.enter.new.output
    c.in-Some.ensures c.requires.names c.in-Some-use_of.ensures p)))
