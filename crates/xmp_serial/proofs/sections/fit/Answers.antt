use Rattle.std.proofs.Common.{ℤ, List, ap, ◌∙◌, sym, drop}
use Rattle.xmp_meaning.specs.Sections.{fit}
use Rattle.xmp_serial.proofs.Stores.{fit_none}
use Rattle.xmp_serial.proofs.sections.fit.Goals as goal

pub returns-in-None : goal.returns-in-None
returns-in-None c = sym (c.lengths.invariant
    ∙ ap (λ (x : List ℤ). fit x (drop c.lengths.n-index c.args.source.now)) c.in-None.ensures
    ∙ fit_none (drop c.lengths.n-index c.args.source.now))
