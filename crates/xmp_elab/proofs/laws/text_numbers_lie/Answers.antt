use Rattle.std.proofs.Common.{◌≡◌, true, All, subst}
use Rattle.xmp_fits.specs.NumbersLie.{number_lies}
use Rattle.xmp_fits.proofs.SpelledNumbers.{spelled}
use Rattle.xmp_elab.proofs.TextNumbers.{all_numbers}
use Rattle.xmp_elab.proofs.laws.text_numbers_lie.Goals as goal

pub returns : goal.returns
returns c = λ text x p.
    spelled x (subst (All (λ token. number_lies token.kind ≡ true)) p.program.whole (all_numbers text p.comes.tokens p.expanded p.comes.cut p.comes.expands))
