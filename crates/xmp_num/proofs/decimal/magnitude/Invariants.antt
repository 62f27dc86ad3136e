use Rattle.std.proofs.Common.{◌≡◌, pos, take}
use Rattle.std.specs.Int.{int_wrap, w64}
use Rattle.std.specs.Str.Parse.{digits_value}
use Rattle.xmp_num.proofs.decimal.magnitude.Given as goal

abbrev pub invariant-loop-digit : goal.invariant-loop-digit
invariant-loop-digit l = l.value ≡ int_wrap w64 (pos (digits_value 10 (take l.digit-index l.digits)))
