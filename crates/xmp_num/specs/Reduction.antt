-- The operations of a `reduction` clause of XcalableMP 1.4, on 32 and 64 bits in two's complement.
use Rattle.std.specs.Prelude.{◌≡◌, ◌^◌, ◌-◌, ℤ, pos, negsuc, ◌+ℤ◌, ◌*ℤ◌}
use Rattle.std.specs.Int.{int_bit_and, int_bit_or, int_bit_xor, int_max, int_min, w64}
use Rattle.xmp_num.specs.declared.types.Ty.{Ty}
use Rattle.xmp_num.specs.declared.types.RedOp.{RedOp}
use Rattle.xmp_num.specs.declared.types.RedOp.TheVariants as red
use Rattle.xmp_num.specs.Arithmetic.{wrap, bits_of}

-- One step of a reduction.
unfoldable pub combine_of : RedOp → Ty → ℤ → ℤ → ℤ
combine_of red.Add ty a b = wrap ty (a +ℤ b)
combine_of red.Mul ty a b = wrap ty (a *ℤ b)
combine_of red.And ty a b = int_bit_and w64 a b
combine_of red.Or ty a b = int_bit_or w64 a b
combine_of red.Xor ty a b = int_bit_xor w64 a b
combine_of red.Max ty a b = int_max a b
combine_of red.Min ty a b = int_min a b

-- The least and the greatest value of the type.
abbrev pub least : Ty → ℤ
least ty = negsuc (2 ^ (bits_of ty - 1) - 1)

abbrev pub greatest : Ty → ℤ
greatest ty = pos (2 ^ (bits_of ty - 1) - 1)

-- The value that a reduction begins at: it changes no value that it is combined with.
abbrev pub unit_of : RedOp → Ty → ℤ
unit_of red.Add ty = pos 0
unit_of red.Mul ty = pos 1
unit_of red.And ty = negsuc 0
unit_of red.Or ty = pos 0
unit_of red.Xor ty = pos 0
unit_of red.Max ty = least ty
unit_of red.Min ty = greatest ty

-- The operation on the values that lie in a set: its results lie in the set, brackets and order don't matter, and the unit changes nothing.
pub record IsCommutativeMonoid (In : ℤ → Type 0) (op : ℤ → ℤ → ℤ) (unit : ℤ) : Type 0 where
  pub closed : (a b : ℤ) → In a → In b → In (op a b)
  pub associative : (a b c : ℤ) → In a → In b → In c → op (op a b) c ≡ op a (op b c)
  pub commutative : (a b : ℤ) → In a → In b → op a b ≡ op b a
  pub unit_in : In unit
  pub neutral : (a : ℤ) → In a → op unit a ≡ a
