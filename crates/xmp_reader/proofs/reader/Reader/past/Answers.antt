use Rattle.std.proofs.Common.{rules, ◌≡◌, ℕ, sym}
use Rattle.xmp_reader.proofs.Taking.{past_ok, past_deep}
use Rattle.xmp_reader.proofs.reader.Reader.past.Goals as goal

pub returns-in-None-behind-clause-goes : goal.returns-in-None-behind-clause-goes
returns-in-None-behind-clause-goes c = λ p f h s L K w. past_deep c.args.effect p c.args.self.depth c.args.self.tokens.now _ _ s L K c.in-Some.ensures h c.in-None-behind.ensures w

pub returns-in-Some-behind-clause-goes : goal.returns-in-Some-behind-clause-goes
returns-in-Some-behind-clause-goes c = λ p f h s L K w. past_ok c.args.effect p c.args.self.depth c.in-Some-behind.depth c.args.self.tokens.now _ _ s L K c.in-Some.ensures h f c.in-Some-behind.ensures w
