-- An expression as far as it is read from the left, at an index: what is to be known of it when more follows.
use Rattle.std.specs.Prelude.{ℤ}
use Rattle.xmp_num.specs.declared.types.BinOp.TheVariants.{Add, Sub}
use Rattle.xmp_first.specs.declared.first_running.Running.{Running}
use Rattle.xmp_first.specs.declared.first_running.Running.TheVariants as running
use Rattle.xmp_first.specs.FirstGrammar.{Sum, term, plus, minus}
use Rattle.xmp_first.specs.FirstMeaning.{product_value, sum_value}

abbrev pub running_of : Sum → ℤ → Running
running_of (term p) i = running.Product (product_value p i)
running_of (plus s p) i = running.Joined (sum_value s i) Add (product_value p i)
running_of (minus s p) i = running.Joined (sum_value s i) Sub (product_value p i)
