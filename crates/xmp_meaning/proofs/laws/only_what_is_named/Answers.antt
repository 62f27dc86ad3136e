use Rattle.xmp_meaning.proofs.Stays.{keeps_scalar, keeps_array}
use Rattle.xmp_meaning.proofs.laws.only_what_is_named.Goals as goal

pub returns : goal.returns
returns c start = record { scalars = keeps_scalar; arrays = keeps_array }
