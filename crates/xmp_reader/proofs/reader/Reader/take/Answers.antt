use Rattle.std.proofs.Common.{rules, ◌≡◌, ℕ, sym, ◌∙◌}
use Rattle.xmp_reader.proofs.Taking.{taken_stuck}
use Rattle.xmp_reader.proofs.reader.Reader.take.Goals as goal

pub returns-then-found-clause-goes : goal.returns-then-found-clause-goes
returns-then-found-clause-goes c = λ p f h s L K w. c.past.ensures.goes p f (h ∙ c.if-found.true) s L K w

pub returns-else-found-clause-goes : goal.returns-else-found-clause-goes
returns-else-found-clause-goes c = λ p f h s L K w. rw c.unexpected.ensures.value (taken_stuck c.args.effect p c.args.self.depth _ s L K (h ∙ c.if-found.false) w)
