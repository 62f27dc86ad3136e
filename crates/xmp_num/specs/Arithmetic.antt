-- C's operators on 32 and 64 bits in two's complement, over the integers (ISO C11 6.5; where C leaves a result open, this project wraps or traps).
use Rattle.std.specs.Prelude.{ℕ, zero, suc, ◌^◌, ℤ, pos, negsuc, ◌+ℤ◌, ◌*ℤ◌, ◌-ℤ◌, Bool, true, false, not, if◌then◌else◌, Result, Ok, Err, int_lt, int_le, int_div, int_rem, nat_lt, FitsSigned}
use Rattle.std.specs.Int.{int_wrap, int_div_euclid, int_bit_and, int_bit_or, int_bit_xor, w32, w64}
use Rattle.std.specs.Ordering.{int_eq}
use mir.Syntax.{Width}
use Rattle.xmp_num.specs.declared.types.Ty.{Ty}
use Rattle.xmp_num.specs.declared.types.Ty.TheVariants.{Int, Long}
use Rattle.xmp_num.specs.declared.types.TrapKind.{TrapKind}
use Rattle.xmp_num.specs.declared.types.TrapKind.TheVariants.{Zero, Shift}
use Rattle.xmp_num.specs.declared.types.BinOp.{BinOp}
use Rattle.xmp_num.specs.declared.types.BinOp.TheVariants as op

-- The type's width, and its number of bits.
abbrev pub width_of : Ty → Width
width_of Int = w32
width_of Long = w64

abbrev pub bits_of : Ty → ℕ
bits_of Int = 32
bits_of Long = 64

-- The value of the type that is equal to z modulo the type's range.
abbrev pub wrap : Ty → ℤ → ℤ
wrap ty z = int_wrap (width_of ty) z

-- 1 or 0, as a comparison gives it.
abbrev pub truth : Bool → ℤ
truth true = pos 1
truth false = pos 0

-- A value of the type.
abbrev pub FitsType : Ty → ℤ → Type 0
FitsType ty z = FitsSigned (width_of ty) z

-- The value, or the trap where the divisor is 0.
abbrev pub with_divisor : ℤ → ℤ → Result ℤ TrapKind
with_divisor (pos zero) value = Err Zero
with_divisor (pos (suc n)) value = Ok value
with_divisor (negsuc n) value = Ok value

-- The value at the count of a shift, or the trap where the count is negative or not below the type's width.
abbrev pub with_count : Ty → ℤ → (ℕ → ℤ) → Result ℤ TrapKind
with_count ty (pos k) value_at = if nat_lt k (bits_of ty) then Ok (value_at k) else Err Shift
with_count ty (negsuc k) value_at = Err Shift

-- What an operator gives. `int_div` and `int_rem` truncate towards 0; `int_div_euclid` by a positive number rounds down. The bits of
-- a value are its 64 bits in two's complement, which repeat the sign of a value of 32 bits, so `&`, `|` and `^` don't depend on the type.
unfoldable pub binary_of : BinOp → Ty → ℤ → ℤ → Result ℤ TrapKind
binary_of op.Add ty a b = Ok (wrap ty (a +ℤ b))
binary_of op.Sub ty a b = Ok (wrap ty (a -ℤ b))
binary_of op.Mul ty a b = Ok (wrap ty (a *ℤ b))
binary_of op.Div ty a b = with_divisor b (wrap ty (int_div a b))
binary_of op.Rem ty a b = with_divisor b (wrap ty (int_rem a b))
binary_of op.Shl ty a b = with_count ty b (λ k. wrap ty (a *ℤ pos (2 ^ k)))
binary_of op.Shr ty a b = with_count ty b (λ k. int_div_euclid a (pos (2 ^ k)))
binary_of op.And ty a b = Ok (int_bit_and w64 a b)
binary_of op.Or ty a b = Ok (int_bit_or w64 a b)
binary_of op.Xor ty a b = Ok (int_bit_xor w64 a b)
binary_of op.Less ty a b = Ok (truth (int_lt a b))
binary_of op.LessEq ty a b = Ok (truth (int_le a b))
binary_of op.Greater ty a b = Ok (truth (int_lt b a))
binary_of op.GreaterEq ty a b = Ok (truth (int_le b a))
binary_of op.Equal ty a b = Ok (truth (int_eq a b))
binary_of op.Differ ty a b = Ok (truth (not (int_eq a b)))
