-- The laws of an operation on the 64 bits of two values.
use Rattle.std.proofs.Common.{◌≡◌, ◌⊎◌, inl, inr, ℕ, suc, ◌-◌, ◌/◌, ◌%◌, ◌<◌, ◌≤◌, refl, sym, ap, subst, ◌∙◌, arith, ℤ, pos, negsuc, max, ltb, false}
use Rattle.std.specs.Int.{cast_signed, cast_unsigned, bit_at, w32, w64}
use Rattle.std.specs.Prelude.{bit_and, bit_or, bit_xor}
use Rattle.std.specs.Int.RustNames.{FitsSigned}
use Rattle.std.specs.Int.Bits.{xor_assoc, and_lt, xor_zero_l, or_zero_l}
use Rattle.std.proofs.lemmas.Int.{ints, of_z-to_z, to_z-of_z, to_z_pos}
use Rattle.std.proofs.lemmas.Bool.{le-ltb}
use Rattle.std.proofs.lemmas.Nat.{and_assoc, and_comm, or_comm, xor_comm, or_lt, xor_lt, and_shr, or_shr, xor_shr, and_mask}
use Rattle.std.proofs.lemmas.Nat.Bits.{bit_at_or, same_from_bits}
use Rattle.std.proofs.Math.Facts.{sfits_to_z}
use Rattle.xmp_num.proofs.Wraps.{unsigned_below}
use Rattle.xmp_num.specs.Arithmetic.{FitsType}
use Rattle.xmp_num.specs.declared.types.Ty.{Ty}
use Rattle.xmp_num.specs.declared.types.Ty.TheVariants.{Int, Long}

max_assoc : (a b c : ℕ) → max (max a b) c ≡ max a (max b c)
max_assoc a b c = omega arith

pub or_assoc : (a b c : ℕ) → bit_or (bit_or a b) c ≡ bit_or a (bit_or b c)
or_assoc a b c = same_from_bits _ _ (λ i.
    bit_at_or (bit_or a b) c i
    ∙ ap (λ m. max m (bit_at c i)) (bit_at_or a b i)
    ∙ max_assoc (bit_at a i) (bit_at b i) (bit_at c i)
    ∙ sym (bit_at_or a (bit_or b c) i ∙ ap (max (bit_at a i)) (bit_at_or b c i)))

-- The bits from the 32nd on repeat one bit.
abbrev pub Repeats : ℕ → Type 0
Repeats n = (n ≡ 0) ⊎ (n ≡ 8589934591)

-- What the laws need of the operation on natural numbers.
pub record IsBitwise (f : ℕ → ℕ → ℕ) : Type 0 where
  pub below : (a b : ℕ) → a < 18446744073709551616 → b < 18446744073709551616 → f a b < 18446744073709551616
  pub high : (a b : ℕ) → f a b / 2147483648 ≡ f (a / 2147483648) (b / 2147483648)
  pub repeats : (a b : ℕ) → Repeats a → Repeats b → Repeats (f a b)
  pub assoc : (a b c : ℕ) → f (f a b) c ≡ f a (f b c)
  pub comm : (a b : ℕ) → f a b ≡ f b a

-- The operation on two values of 64 bits.
abbrev pub on_bits : (ℕ → ℕ → ℕ) → ℤ → ℤ → ℤ
on_bits f a b = cast_signed w64 (f (cast_unsigned w64 a) (cast_unsigned w64 b))

pub wide_fits : (ty : Ty) (z : ℤ) → FitsType ty z → FitsSigned w64 z
wide_fits Int z fits = omega (arith, ints)
wide_fits Long z fits = fits

high_repeats : (z : ℤ) → FitsSigned w32 z → Repeats (cast_unsigned w64 z / 2147483648)
high_repeats (pos n) fits = let h = fits.sfits in inl (omega arith)
high_repeats (negsuc n) fits = let h = fits.sfits in inr (omega arith)

high_negative : (n : ℕ) → 9223372036854775808 ≤ n → cast_signed w64 n ≡ negsuc (18446744073709551616 - suc n)
high_negative n h = let t : ltb n 9223372036854775808 ≡ false = le-ltb n 9223372036854775808 h in rw t refl

fits_from_high : (n : ℕ) → n < 18446744073709551616 → Repeats (n / 2147483648) → FitsSigned w32 (cast_signed w64 n)
fits_from_high n below (inl e) = let small : n < 9223372036854775808 = omega arith in rw (to_z_pos w64 n small) (record { sfits = omega arith })
fits_from_high n below (inr e) = rw (high_negative n (omega arith)) (record { sfits = omega arith })

module _ {f : ℕ → ℕ → ℕ} (laws : IsBitwise f) where
  pub closed : (ty : Ty) (a b : ℤ) → FitsType ty a → FitsType ty b → FitsType ty (on_bits f a b)
  closed Int a b p q =
      let x = cast_unsigned w64 a in
      let y = cast_unsigned w64 b in
      fits_from_high (f x y) (laws.below x y (unsigned_below a (wide_fits Int a p)) (unsigned_below b (wide_fits Int b q)))
      (subst Repeats (sym (laws.high x y)) (laws.repeats _ _ (high_repeats a p) (high_repeats b q)))
  closed Long a b p q =
      let x = cast_unsigned w64 a in
      let y = cast_unsigned w64 b in
      sfits_to_z {w = w64} {n = f x y} (record { fits = laws.below x y (unsigned_below a p) (unsigned_below b q) })

  pub commutative : (a b : ℤ) → on_bits f a b ≡ on_bits f b a
  commutative a b = ap (cast_signed w64) (laws.comm (cast_unsigned w64 a) (cast_unsigned w64 b))

  pub associative : (a b c : ℤ) → FitsSigned w64 a → FitsSigned w64 b → FitsSigned w64 c → on_bits f (on_bits f a b) c ≡ on_bits f a (on_bits f b c)
  associative a b c p q r =
      let x = cast_unsigned w64 a in
      let y = cast_unsigned w64 b in
      let z = cast_unsigned w64 c in
      ap (λ n. cast_signed w64 (f n z)) (of_z-to_z w64 (f x y) (laws.below x y (unsigned_below a p) (unsigned_below b q)))
      ∙ ap (cast_signed w64) (laws.assoc x y z)
      ∙ sym (ap (λ n. cast_signed w64 (f x n)) (of_z-to_z w64 (f y z) (laws.below y z (unsigned_below b q) (unsigned_below c r))))

repeats_and : (a b : ℕ) → Repeats a → Repeats b → Repeats (bit_and a b)
repeats_and a b (inl e) (inl g) = inl (ap (λ x. bit_and x b) e ∙ ap (bit_and 0) g)
repeats_and a b (inl e) (inr g) = inl (ap (λ x. bit_and x b) e ∙ ap (bit_and 0) g)
repeats_and a b (inr e) (inl g) = inl (ap (λ x. bit_and x b) e ∙ ap (bit_and 8589934591) g)
repeats_and a b (inr e) (inr g) = inr (ap (λ x. bit_and x b) e ∙ ap (bit_and 8589934591) g)

repeats_or : (a b : ℕ) → Repeats a → Repeats b → Repeats (bit_or a b)
repeats_or a b (inl e) (inl g) = inl (ap (λ x. bit_or x b) e ∙ ap (bit_or 0) g)
repeats_or a b (inl e) (inr g) = inr (ap (λ x. bit_or x b) e ∙ ap (bit_or 0) g)
repeats_or a b (inr e) (inl g) = inr (ap (λ x. bit_or x b) e ∙ ap (bit_or 8589934591) g)
repeats_or a b (inr e) (inr g) = inr (ap (λ x. bit_or x b) e ∙ ap (bit_or 8589934591) g)

repeats_xor : (a b : ℕ) → Repeats a → Repeats b → Repeats (bit_xor a b)
repeats_xor a b (inl e) (inl g) = inl (ap (λ x. bit_xor x b) e ∙ ap (bit_xor 0) g)
repeats_xor a b (inl e) (inr g) = inr (ap (λ x. bit_xor x b) e ∙ ap (bit_xor 0) g)
repeats_xor a b (inr e) (inl g) = inr (ap (λ x. bit_xor x b) e ∙ ap (bit_xor 8589934591) g)
repeats_xor a b (inr e) (inr g) = inl (ap (λ x. bit_xor x b) e ∙ ap (bit_xor 8589934591) g)

pub and_laws : IsBitwise bit_and
and_laws = record {
  below = λ a b p q. and_lt 64 a b p q;
  high = λ a b. and_shr a b 31;
  repeats = repeats_and;
  assoc = λ a b c. and_assoc c a b;
  comm = and_comm;
}

pub or_laws : IsBitwise bit_or
or_laws = record {
  below = λ a b p q. or_lt 64 a b p q;
  high = λ a b. or_shr a b 31;
  repeats = repeats_or;
  assoc = or_assoc;
  comm = or_comm;
}

pub xor_laws : IsBitwise bit_xor
xor_laws = record {
  below = λ a b p q. xor_lt 64 a b p q;
  high = λ a b. xor_shr a b 31;
  repeats = repeats_xor;
  assoc = xor_assoc;
  comm = xor_comm;
}

-- all ones change nothing under `&`
pub ones_neutral : (a : ℤ) → FitsSigned w64 a → on_bits bit_and (negsuc 0) a ≡ a
ones_neutral a fits =
    let x = cast_unsigned w64 a in
    let below : x < 18446744073709551616 = unsigned_below a fits in
    let low : bit_and x 18446744073709551615 ≡ x % 18446744073709551616 = and_mask x 64 in
    ap (cast_signed w64) (and_comm 18446744073709551615 x ∙ low ∙ omega arith) ∙ to_z-of_z w64 a fits

pub zero_neutral_or : (a : ℤ) → FitsSigned w64 a → on_bits bit_or (pos 0) a ≡ a
zero_neutral_or a fits = ap (cast_signed w64) (or_zero_l (cast_unsigned w64 a)) ∙ to_z-of_z w64 a fits

pub zero_neutral_xor : (a : ℤ) → FitsSigned w64 a → on_bits bit_xor (pos 0) a ≡ a
zero_neutral_xor a fits = ap (cast_signed w64) (xor_zero_l (cast_unsigned w64 a)) ∙ to_z-of_z w64 a fits
