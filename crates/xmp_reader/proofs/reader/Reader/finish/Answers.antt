use Rattle.std.proofs.Common.{rules, ◌≡◌, ℕ, true, false, sym, refl, ◌∙◌}
use Rattle.xmp_syntax.specs.Grammar as g
use Rattle.xmp_reader.specs.declared.effect.Effect.TheVariants as eff
use Rattle.xmp_reader.proofs.Taking.{taken_stuck, past_deep}
use Rattle.xmp_reader.proofs.Whole.{finish_ok, finish_read}
use Rattle.xmp_reader.proofs.reader.Reader.finish.Goals as goal

pub returns-then-not-is_finish-clause-goes : goal.returns-then-not-is_finish-clause-goes
returns-then-not-is_finish-clause-goes c = λ s L K w. rw c.unexpected.ensures.value (taken_stuck eff.Plain g.is_finish c.args.self.depth _ s L K (sym c.if-not-is_finish.ensures) w)

pub returns-in-None-behind-clause-goes : goal.returns-in-None-behind-clause-goes
returns-in-None-behind-clause-goes c = λ s L K w.
    past_deep eff.Plain g.is_finish c.args.self.depth c.args.self.tokens.now _ _ s L K c.in-Some.ensures (sym c.if-not-is_finish.ensures) c.in-None-behind.ensures w

pub returns-in-Some-behind-clause-goes : goal.returns-in-Some-behind-clause-goes
returns-in-Some-behind-clause-goes c = λ s L K w.
    finish_ok s c.args.self.depth c.in-Some-behind.depth c.args.self.tokens.now _ _ L K c.in-Some.ensures (sym c.if-not-is_finish.ensures) c.in-Some-behind.ensures w
