use Rattle.std.proofs.Common.{◌≡◌, true}
use Rattle.xmp_base.proofs.FirstLaws.{first_or}
use Rattle.xmp_base.proofs.refusal.earlier.Goals as goal

pub returns-clause-joins : goal.returns-clause-joins
returns-clause-joins c = λ p q h k. rw c.first_of_both.ensures (first_or (λ r. p r ≡ true) (λ r. q r ≡ true) c.args.a c.args.b h k)
