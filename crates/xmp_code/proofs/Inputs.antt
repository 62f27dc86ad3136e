use Rattle.std.proofs.Common.{◌≡◌, ◌≤◌, ◌+◌, ℕ, ℤ, List, [], length, drop, Option, None, arith, ap}
use Rattle.std.proofs.lemmas.List.{drop_all}
use Rattle.xmp_num.specs.declared.types.Ty.{Ty}
use Rattle.xmp_num.specs.Decimal.{scan_of}

at_rest : (at : ℕ) → at ≡ at + 0
at_rest at = omega arith

-- behind the end of the input there is no number
pub scan_behind : (ty : Ty) (input : List ℕ) (at : ℕ) → length input ≤ at → ◌≡◌ {A = Option ℤ × ℕ} (None, at) (scan_of ty input at)
unfolding scan_of
scan_behind ty input at h =
    let none : drop at input ≡ [] = drop_all at input h in
    rw none (cc (at_rest at))
