use Rattle.std.proofs.Common.{rules, ◌≡◌, ℕ, true, false, sym, refl, ◌∙◌}
use Rattle.xmp_reader.proofs.Opening.{image_taken, image_deep}
use Rattle.xmp_reader.proofs.reader.Reader.both.Goals as goal

pub returns-in-None-behind-clause-goes : goal.returns-in-None-behind-clause-goes
returns-in-None-behind-clause-goes c = λ s L K w.
    image_deep s c.args.self.depth _ _ _ _ _ L K c.in-Some.ensures c.in-Some-first_and_rest.ensures c.requires.pair c.in-None-behind.ensures c.requires.deep w

pub returns-in-Some-behind-clause-goes : goal.returns-in-Some-behind-clause-goes
returns-in-Some-behind-clause-goes c = λ s L K w.
    image_taken s c.args.self.depth c.in-Some-behind.depth _ _ _ _ _ L K c.in-Some.ensures c.in-Some-first_and_rest.ensures c.requires.pair c.in-Some-behind.ensures c.requires.deep w
