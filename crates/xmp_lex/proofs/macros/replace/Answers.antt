use Rattle.std.proofs.Common.{◌∙◌, ◌++◌, [], ◌∷◌, ap, subst, arith}
use Rattle.xmp_lex.specs.Output.{frame, frames}
use Rattle.xmp_lex.proofs.UseLemmas.{InUse, frames_last, no_frames, use_start, use_next, use_end, use_stops}
use Rattle.xmp_lex.proofs.macros.replace.Goals as goal

pub loop-current-init : goal.loop-current-init
loop-current-init c = rw (c.in-Ok.ensures.uses, c.new-uses.ensures.items)
    (use_start c.args.definitions.now c.args.at (frame c.args.first) c.open.new.hidden c.args.output.now (c.in-Ok.ensures.hidden ∙ ap (λ ns. ns ++ c.args.first.name.now ∷ []) c.new-hidden.ensures) c.requires)

pub returns-in-Err-advance-clause-err : goal.returns-in-Err-advance-clause-err
returns-in-Err-advance-clause-err c = use_stops c.args.definitions.now c.args.at (frame c.args.first) (frame c.in-Some.current) (frames c.pop.new.self.items) c.loop-current.hidden c.args.output.now c.loop-current.output c.in-Err-advance.fault
    (subst (λ us. InUse c.args.definitions.now c.args.at (frame c.args.first) us c.loop-current.hidden c.args.output.now c.loop-current.output) (ap frames c.in-Some.ensures.items ∙ frames_last c.pop.new.self.items c.in-Some.current) c.loop-current.invariant)
    c.in-Err-advance.ensures.err

pub loop-current-preserved : goal.loop-current-preserved
loop-current-preserved c = use_next c.args.definitions.now c.args.at (frame c.args.first) (frames c.pop.new.self.items ++ frame c.in-Some.current ∷ []) _ c.loop-current.hidden _ c.args.output.now c.loop-current.output _
    (subst (λ us. InUse c.args.definitions.now c.args.at (frame c.args.first) us c.loop-current.hidden c.args.output.now c.loop-current.output) (ap frames c.in-Some.ensures.items ∙ frames_last c.pop.new.self.items c.in-Some.current) c.loop-current.invariant)
    c.in-Ok-advance.ensures.ok

pub returns-clause-ok : goal.returns-clause-ok
returns-clause-ok c = use_end c.args.definitions.now c.args.at (frame c.args.first) c.loop-current.hidden c.args.output.now c.loop-current.output
    (subst (λ us. InUse c.args.definitions.now c.args.at (frame c.args.first) us c.loop-current.hidden c.args.output.now c.loop-current.output) (no_frames c.loop-current.uses.items (let z = c.in_default.ensures.cases.0 in omega arith)) c.loop-current.invariant)
