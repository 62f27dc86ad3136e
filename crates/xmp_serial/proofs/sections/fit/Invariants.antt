use Rattle.std.proofs.Common.{◌≡◌, drop}
use Rattle.xmp_meaning.specs.Sections.{fit}
use Rattle.xmp_serial.proofs.sections.fit.Given as goal

abbrev pub invariant-lengths : goal.invariant-lengths
invariant-lengths l = fit l.target l.source ≡ fit l.left (drop l.n-index l.source)
