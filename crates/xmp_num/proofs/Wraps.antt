-- Reduction to 64 bits first changes nothing.
use Rattle.std.proofs.Common.{◌≡◌, ℕ, zero, suc, ◌-◌, ◌%◌, ◌/◌, ◌^◌, ◌<◌, ◌≤◌, refl, ap, ◌∙◌, arith, ℤ, ◌+ℤ◌, ◌-ℤ◌, ◌*ℤ◌, pos, negsuc, neg_ℤ, Ok, true≢false, true, false, ltb}
use Rattle.std.specs.Int.{int_wrap, int_rem_euclid, cast_signed, cast_unsigned, w32, w64, int_wrapping_add, int_wrapping_sub, int_wrapping_mul, int_wrapping_div, int_shl}
use Rattle.std.specs.Int.RustNames.{FitsSigned, unsigned_abs, int_div, int_lt, int_le}
use Rattle.std.proofs.lemmas.Int.{int_wrap_fits, SFits-int_wrap, wrapping_add_is, wrapping_sub_is, wrapping_mul_is, wrapping_mul-bits, of_z-to_z, to_z-of_z, int_wrap-mul_right}
use Rattle.std.proofs.Math.Facts.{sfits_to_z, Fits-of_z, Fits-lt-pow}
use Rattle.std.proofs.Math.Pow.{pow-lt}
use Rattle.xmp_num.specs.Arithmetic.{wrap, binary_of, bits_of}
use Rattle.xmp_num.specs.declared.types.BinOp.TheVariants as op
use Rattle.std.proofs.Math.Nat.{div-le_self}
use Rattle.std.proofs.lemmas.Bool.{lt-ltb}
use Rattle.std.proofs.lemmas.Bool.Decides.{nat_tests}
use Rattle.xmp_num.specs.declared.types.Ty.{Ty}
use Rattle.xmp_num.specs.declared.types.Ty.TheVariants.{Int, Long}

-- the 64 bits of a number
pub unsigned_below : (z : ℤ) → FitsSigned w64 z → cast_unsigned w64 z < 18446744073709551616
unsigned_below z f = Fits-lt-pow {w = w64} {n = cast_unsigned w64 z} (Fits-of_z {w = w64} {z = z} f)

-- the low 32 bits of 64, from a number and from the bits that it has
low_pos : (n : ℕ) → (n % 18446744073709551616) % 4294967296 ≡ n % 4294967296
low_pos n = omega arith

low_neg : (n : ℕ) → n < 9223372036854775808 → 4294967296 - 1 - n % 4294967296 ≡ (18446744073709551616 - suc n) % 4294967296
low_neg n h = omega arith

low_from_neg : (n : ℕ) → (18446744073709551616 - 1 - n % 18446744073709551616) % 4294967296 ≡ 4294967296 - 1 - n % 4294967296
low_from_neg n = omega arith

low_of : (z : ℤ) → FitsSigned w64 z → int_rem_euclid z (pos 4294967296) ≡ pos (cast_unsigned w64 z % 4294967296)
low_of (pos n) f = refl
low_of (negsuc n) f = ap pos (low_neg n f.sfits)

-- the low half of 64 bits read as a signed number
low_of_bits : (r : ℕ) → r < 18446744073709551616 → int_rem_euclid (cast_signed w64 r) (pos 4294967296) ≡ pos (r % 4294967296)
low_of_bits r h = low_of (cast_signed w64 r) (sfits_to_z {w = w64} {n = r} (record { fits = h })) ∙ ap (λ m. pos (m % 4294967296)) (of_z-to_z w64 r h)

-- a number cut to 64 bits and then to the type is the number cut to the type
int_twice : (z : ℤ) → int_wrap w32 (int_wrap w64 z) ≡ int_wrap w32 z
unfolding int_wrap
int_twice (pos n) = ap (λ m. cast_signed w32 (unsigned_abs m)) (low_of_bits (n % 18446744073709551616) (omega arith) ∙ ap pos (low_pos n))
int_twice (negsuc n) = ap (λ m. cast_signed w32 (unsigned_abs m)) (low_of_bits (18446744073709551616 - 1 - n % 18446744073709551616) (omega arith) ∙ ap pos (low_from_neg n))

pub wrap_twice : (ty : Ty) (z : ℤ) → wrap ty (int_wrap w64 z) ≡ wrap ty z
wrap_twice Int z = int_twice z
wrap_twice Long z = int_wrap_fits w64 (int_wrap w64 z) (SFits-int_wrap w64 z)

-- the wrapping operations of 64 bits, cut to the type
pub wrap-add : (ty : Ty) (a b : ℤ) → FitsSigned w64 a → FitsSigned w64 b → wrap ty (int_wrapping_add w64 a b) ≡ wrap ty (a +ℤ b)
wrap-add ty a b f g = ap (wrap ty) (wrapping_add_is w64 a b f g) ∙ wrap_twice ty (a +ℤ b)

pub wrap-sub : (ty : Ty) (a b : ℤ) → FitsSigned w64 a → FitsSigned w64 b → wrap ty (int_wrapping_sub w64 a b) ≡ wrap ty (a -ℤ b)
wrap-sub ty a b f g = ap (wrap ty) (wrapping_sub_is w64 a b f g) ∙ wrap_twice ty (a -ℤ b)

pub wrap-mul : (ty : Ty) (a b : ℤ) → FitsSigned w64 a → FitsSigned w64 b → wrap ty (int_wrapping_mul w64 a b) ≡ wrap ty (a *ℤ b)
wrap-mul ty a b f g = ap (wrap ty) (wrapping_mul_is w64 a b f g) ∙ wrap_twice ty (a *ℤ b)

-- a number of at most 2 ^ 63 in size, read back from its 64 bits
bits_wrap : (z : ℤ) → unsigned_abs z ≤ 9223372036854775808 → cast_signed w64 (cast_unsigned w64 z) ≡ int_wrap w64 z
unfolding int_wrap
bits_wrap (pos n) h = ap (cast_signed w64) (omega arith)
bits_wrap (negsuc n) h = ap (cast_signed w64) (omega arith)

neg_abs : (z : ℤ) → unsigned_abs (neg_ℤ z) ≡ unsigned_abs z
neg_abs (pos zero) = refl
neg_abs (pos (suc n)) = refl
neg_abs (negsuc n) = refl

quot_le : (a b : ℕ) → a / b ≤ a
quot_le a b = div-le_self a b

-- a quotient that truncates is no larger than the dividend
div_abs : (a b : ℤ) → unsigned_abs (int_div a b) ≤ unsigned_abs a
div_abs (pos a) (pos b) = quot_le a b
div_abs (pos a) (negsuc b) = rw neg_abs (quot_le a (suc b))
div_abs (negsuc a) (pos b) = rw neg_abs (quot_le (suc a) b)
div_abs (negsuc a) (negsuc b) = quot_le (suc a) (suc b)

abs_fits : (z : ℤ) → FitsSigned w64 z → unsigned_abs z ≤ 9223372036854775808
abs_fits (pos n) f = let h = f.sfits in omega arith
abs_fits (negsuc n) f = let h = f.sfits in omega arith

pub wrap-div : (ty : Ty) (a b : ℤ) → FitsSigned w64 a → wrap ty (int_wrapping_div w64 a b) ≡ wrap ty (int_div a b)
wrap-div ty a b f = ap (wrap ty) (bits_wrap (int_div a b) (let h = div_abs a b in let k = abs_fits a f in omega arith)) ∙ wrap_twice ty (int_div a b)

pub divided_is : (ty : Ty) (a b : ℤ) → FitsSigned w64 a → (b ≡ pos 0 → ⊥) → Ok (wrap ty (int_wrapping_div w64 a b)) ≡ binary_of op.Div ty a b
unfolding binary_of
divided_is ty a (pos zero) f h = absurd (h refl)
divided_is ty a (pos (suc n)) f h = ap Ok (wrap-div ty a (pos (suc n)) f)
divided_is ty a (negsuc n) f h = ap Ok (wrap-div ty a (negsuc n) f)

below_width : (ty : Ty) (k : ℕ) → int_le (pos (bits_of ty)) (pos k) ≡ false → k < bits_of ty
below_width ty k h = grind (arith, nat_tests)

small_width : (ty : Ty) → bits_of ty ≤ 64
small_width Int = omega arith
small_width Long = omega arith

-- 64 bits read as a signed number are the wrapped number
signed_bits : (n : ℕ) → n < 18446744073709551616 → cast_signed w64 n ≡ int_wrap w64 (pos n)
unfolding int_wrap
signed_bits n h = ap (cast_signed w64) (omega arith)

-- a shift to the left multiplies by a power of two
shl_multiplies : (a : ℤ) (k : ℕ) → FitsSigned w64 a → k < 64 → int_shl w64 a k ≡ int_wrap w64 (a *ℤ pos (2 ^ k))
shl_multiplies a k f h =
    let power : 2 ^ k < 18446744073709551616 = pow-lt {i = k} {j = 64} h in
    wrapping_mul-bits w64 (cast_unsigned w64 a) (2 ^ k) (unsigned_below a f) power
    ∙ ap (λ x. int_wrap w64 (x *ℤ cast_signed w64 (2 ^ k))) (to_z-of_z w64 a f)
    ∙ ap (λ y. int_wrap w64 (a *ℤ y)) (signed_bits (2 ^ k) power)
    ∙ int_wrap-mul_right w64 a (pos (2 ^ k))

pub shl_is : (ty : Ty) (a b : ℤ) → FitsSigned w64 a → int_le (pos (bits_of ty)) b ≡ false → int_lt b (pos 0) ≡ false → Ok (wrap ty (int_shl w64 a (unsigned_abs b % 64))) ≡ binary_of op.Shl ty a b
unfolding binary_of
shl_is ty a (pos k) f h g =
    let l : k < bits_of ty = below_width ty k h in
    let m : bits_of ty ≤ 64 = small_width ty in
    let e : k % 64 ≡ k = omega arith in
    let t : ltb k (bits_of ty) ≡ true = lt-ltb k (bits_of ty) l in
    let s : wrap ty (int_shl w64 a k) ≡ wrap ty (a *ℤ pos (2 ^ k)) = ap (wrap ty) (shl_multiplies a k f (omega arith)) ∙ wrap_twice ty (a *ℤ pos (2 ^ k)) in
    rw (e, t) (ap Ok s)
shl_is ty a (negsuc k) f h g = absurd (true≢false g)

pub ruleset wrapped = (wrap-add, wrap-sub, wrap-mul, divided_is, shl_is)
