-- An operator in a wider type, cut to the type of a reduction variable, is the reduction's own step.
use Rattle.std.proofs.Common.{◌≡◌, ℕ, suc, ◌+◌, ◌-◌, ◌%◌, ◌<◌, refl, sym, ap, subst, ◌∙◌, arith, ℤ, pos, negsuc, ◌+ℤ◌, ◌*ℤ◌, max, min, Ok, true, true≢false, if◌then◌else◌, ◌==◌, eqb-true}
use Rattle.std.specs.Prelude.{bit_and, bit_or, bit_xor}
use Rattle.std.specs.Int.{int_wrap, int_rem_euclid, cast_signed, cast_unsigned, bit_at, w32, w64}
use Rattle.std.specs.Int.RustNames.{FitsSigned, unsigned_abs}
use Rattle.std.proofs.lemmas.Int.{int_wrap_fits, SFits-int_wrap, of_z-to_z, int_wrap-add_right, int_wrap-mul_right}
use Rattle.std.proofs.lemmas.Nat.{and_mask}
use Rattle.std.proofs.lemmas.Nat.Bits.{bit_at-lt, bit_at_and, bit_at_or, bit_at_xor, same_from_bits}
use Rattle.xmp_num.specs.Arithmetic.{FitsType, width_of, wrap, binary_of}
use Rattle.xmp_loops.specs.Same.{operator_number, same_operator}
use Rattle.xmp_loops.specs.Forms.{is_operator}
use Rattle.xmp_num.specs.Reduction.{combine_of}
use Rattle.xmp_num.specs.declared.types.Ty.{Ty}
use Rattle.xmp_num.specs.declared.types.Ty.TheVariants.{Int, Long}
use Rattle.xmp_num.specs.declared.types.BinOp.{BinOp}
use Rattle.xmp_num.specs.declared.types.BinOp.TheVariants as op
use Rattle.xmp_num.specs.declared.types.RedOp.{RedOp}
use Rattle.xmp_num.specs.declared.types.RedOp.TheVariants as red
use Rattle.xmp_num.proofs.Wraps.{wrap_twice, unsigned_below}
use Rattle.xmp_num.proofs.BitLaws.{IsBitwise, on_bits, wide_fits, closed, and_laws, or_laws, xor_laws}

-- ---- the low half

low_pos : (n : ℕ) → n < 18446744073709551616 → n % 4294967296 ≡ (n % 18446744073709551616) % 4294967296
low_pos n h = omega arith

low_neg : (n : ℕ) → n < 9223372036854775808 → 4294967296 - 1 - n % 4294967296 ≡ (18446744073709551616 - suc n) % 4294967296
low_neg n h = omega arith

low_of : (z : ℤ) → FitsSigned w64 z → int_rem_euclid z (pos 4294967296) ≡ pos (cast_unsigned w64 z % 4294967296)
low_of (pos n) f = refl
low_of (negsuc n) f = ap pos (low_neg n f.sfits)

-- a number of 64 bits cut to an int, by its low half
cut_is : (z : ℤ) → FitsSigned w64 z → wrap Int z ≡ cast_signed w32 (cast_unsigned w64 z % 4294967296)
unfolding int_wrap
cut_is z f = ap (λ m. cast_signed w32 (unsigned_abs m)) (low_of z f)

below_half : (n : ℕ) → n % 4294967296 < 4294967296
below_half n = omega arith

-- a number and what it is cut to have one low half
same_low : (z : ℤ) → FitsSigned w64 z → cast_unsigned w64 (wrap Int z) % 4294967296 ≡ cast_unsigned w64 z % 4294967296
same_low z f =
    let g : FitsSigned w64 (wrap Int z) = wide_fits Int (wrap Int z) (SFits-int_wrap w32 z) in
    sym (of_z-to_z w32 (cast_unsigned w64 (wrap Int z) % 4294967296) (below_half (cast_unsigned w64 (wrap Int z))))
    ∙ ap (cast_unsigned w32) (sym (cut_is (wrap Int z) g) ∙ (int_wrap_fits w32 (wrap Int z) (SFits-int_wrap w32 z) ∙ cut_is z f))
    ∙ of_z-to_z w32 (cast_unsigned w64 z % 4294967296) (below_half (cast_unsigned w64 z))

-- ---- operations bit by bit

-- the low half of the result is that of the low halves
pub record OnLow (f : ℕ → ℕ → ℕ) : Type 0 where
  pub laws : IsBitwise f
  pub low : (a b c : ℕ) → b % 4294967296 ≡ c % 4294967296 → f a b % 4294967296 ≡ f a c % 4294967296

by_mask : (f : ℕ → ℕ → ℕ) → ((a b i : ℕ) → bit_at (bit_and (f a b) 4294967295) i ≡ bit_at (bit_and (f a (bit_and b 4294967295)) 4294967295) i)
    → (a b c : ℕ) → b % 4294967296 ≡ c % 4294967296 → f a b % 4294967296 ≡ f a c % 4294967296
by_mask f h a b c e =
    sym (and_mask (f a b) 32)
    ∙ same_from_bits _ _ (h a b)
    ∙ ap (λ z. bit_and (f a z) 4294967295) (and_mask b 32 ∙ (e ∙ sym (and_mask c 32)))
    ∙ sym (same_from_bits _ _ (h a c))
    ∙ and_mask (f a c) 32

min_low : (x y m : ℕ) → min (min x y) m ≡ min (min x (min y m)) m
min_low x y m = omega arith

max_low : (x y m : ℕ) → min (max x y) m ≡ min (max x (min y m)) m
max_low x y m = omega arith

xor_low : (x y m : ℕ) → x < 2 → y < 2 → m < 2 → min ((x + y) % 2) m ≡ min ((x + min y m) % 2) m
xor_low x y m p q r = omega (arith, p, q, r)

pub and_low : OnLow bit_and
and_low = record {
  laws = and_laws;
  low = by_mask bit_and (λ a b i.
      bit_at_and (bit_and a b) 4294967295 i ∙ ap (λ z. min z (bit_at 4294967295 i)) (bit_at_and a b i)
      ∙ min_low (bit_at a i) (bit_at b i) (bit_at 4294967295 i)
      ∙ sym (bit_at_and (bit_and a (bit_and b 4294967295)) 4294967295 i ∙ ap (λ z. min z (bit_at 4294967295 i)) (bit_at_and a (bit_and b 4294967295) i ∙ ap (min (bit_at a i)) (bit_at_and b 4294967295 i))));
}

pub or_low : OnLow bit_or
or_low = record {
  laws = or_laws;
  low = by_mask bit_or (λ a b i.
      bit_at_and (bit_or a b) 4294967295 i ∙ ap (λ z. min z (bit_at 4294967295 i)) (bit_at_or a b i)
      ∙ max_low (bit_at a i) (bit_at b i) (bit_at 4294967295 i)
      ∙ sym (bit_at_and (bit_or a (bit_and b 4294967295)) 4294967295 i ∙ ap (λ z. min z (bit_at 4294967295 i)) (bit_at_or a (bit_and b 4294967295) i ∙ ap (max (bit_at a i)) (bit_at_and b 4294967295 i))));
}

pub xor_low_half : OnLow bit_xor
xor_low_half = record {
  laws = xor_laws;
  low = by_mask bit_xor (λ a b i.
      bit_at_and (bit_xor a b) 4294967295 i ∙ ap (λ z. min z (bit_at 4294967295 i)) (bit_at_xor a b i)
      ∙ xor_low (bit_at a i) (bit_at b i) (bit_at 4294967295 i) (bit_at-lt a i) (bit_at-lt b i) (bit_at-lt 4294967295 i)
      ∙ sym (bit_at_and (bit_xor a (bit_and b 4294967295)) 4294967295 i
      ∙ ap (λ z. min z (bit_at 4294967295 i)) (bit_at_xor a (bit_and b 4294967295) i ∙ ap (λ z. (bit_at a i + z) % 2) (bit_at_and b 4294967295 i))));
}

-- cut to the type before or after
bits_cut : (f : ℕ → ℕ → ℕ) → OnLow f → (ty other : Ty) (a b : ℤ) → FitsType ty a → FitsType other b → wrap ty (on_bits f a b) ≡ on_bits f a (wrap ty b)
bits_cut f l Long other a b p q =
    let wide : FitsSigned w64 b = wide_fits other b q in
    int_wrap_fits w64 (on_bits f a b) (closed l.laws Long a b p wide) ∙ ap (on_bits f a) (sym (int_wrap_fits w64 b wide))
bits_cut f l Int other a b p q =
    let wide : FitsSigned w64 b = wide_fits other b q in
    let long : FitsSigned w64 a = wide_fits Int a p in
    let c : ℤ = wrap Int b in
    let fits : FitsType Int c = SFits-int_wrap w32 b in
    let x : ℕ = cast_unsigned w64 a in
    let left : FitsSigned w64 (on_bits f a b) = closed l.laws Long a b long wide in
    let right : FitsType Int (on_bits f a c) = closed l.laws Int a c p fits in
    cut_is (on_bits f a b) left
    ∙ ap (cast_signed w32)
    (ap (λ z. z % 4294967296) (of_z-to_z w64 (f x (cast_unsigned w64 b)) (l.laws.below x (cast_unsigned w64 b) (unsigned_below a long) (unsigned_below b wide)))
    ∙ l.low x (cast_unsigned w64 b) (cast_unsigned w64 c) (sym (same_low b wide))
    ∙ sym (ap (λ z. z % 4294967296) (of_z-to_z w64 (f x (cast_unsigned w64 c)) (l.laws.below x (cast_unsigned w64 c) (unsigned_below a long) (unsigned_below c (wide_fits Int c fits))))))
    ∙ sym (cut_is (on_bits f a c) (wide_fits Int (on_bits f a c) right))
    ∙ int_wrap_fits w32 (on_bits f a c) right

-- ---- the step of a reduction

-- an operation's type is wide enough for the variable's
pub data Wide (ty operation : Ty) : Type 0 where
  Same : ty ≡ operation → Wide ty operation
  Wider : operation ≡ Long → Wide ty operation

cut_wide : (ty operation : Ty) (z : ℤ) → Wide ty operation → wrap ty (wrap operation z) ≡ wrap ty z
cut_wide ty operation z (Same e) = subst (λ o. wrap ty (wrap o z) ≡ wrap ty z) e (int_wrap_fits _ (wrap ty z) (SFits-int_wrap _ z))
cut_wide ty operation z (Wider e) = subst (λ o. wrap ty (wrap o z) ≡ wrap ty z) (sym e) (wrap_twice ty z)

-- operators by their numbers
operator_at : ℕ → BinOp
operator_at n =
    if n == 0 then op.Add else (if n == 1 then op.Sub else (if n == 2 then op.Mul else (if n == 3 then op.Div else (if n == 4 then op.Rem else (if n == 5 then op.Shl else (if n == 6 then op.Shr else (
    if n == 7 then op.And else (if n == 8 then op.Or else (if n == 9 then op.Xor else (if n == 10 then op.Less else (if n == 11 then op.LessEq else (if n == 12 then op.Greater else (
    if n == 13 then op.GreaterEq else (if n == 14 then op.Equal else op.Differ))))))))))))))

operator_back : (o : BinOp) → operator_at (operator_number o) ≡ o
unfolding operator_at
operator_back op.Add = refl
operator_back op.Sub = refl
operator_back op.Mul = refl
operator_back op.Div = refl
operator_back op.Rem = refl
operator_back op.Shl = refl
operator_back op.Shr = refl
operator_back op.And = refl
operator_back op.Or = refl
operator_back op.Xor = refl
operator_back op.Less = refl
operator_back op.LessEq = refl
operator_back op.Greater = refl
operator_back op.GreaterEq = refl
operator_back op.Equal = refl
operator_back op.Differ = refl

pub same_operators : (a b : BinOp) → same_operator a b ≡ true → a ≡ b
same_operators a b e = sym (operator_back a) ∙ (ap operator_at (eqb-true (operator_number a) (operator_number b) e) ∙ operator_back b)

-- what an operator of a reduction gives, cut to the variable's type
pub record StepIs (r : RedOp) (o : BinOp) (ty operation : Ty) (a b : ℤ) : Type 0 where
  pub value : ℤ
  pub given : binary_of o operation a b ≡ Ok value
  pub cut : wrap ty value ≡ combine_of r ty a (wrap ty b)

pub step_is : (r : RedOp) (o : BinOp) (ty operation other : Ty) (a b : ℤ) → Wide ty operation → FitsType ty a → FitsType other b → is_operator r o ≡ true → StepIs r o ty operation a b
unfolding binary_of combine_of
step_is red.Add o ty operation other a b w p q e = subst (λ z. StepIs red.Add z ty operation a b) (same_operators op.Add o e) (record {
  value = wrap operation (a +ℤ b);
  given = refl;
  cut = cut_wide ty operation (a +ℤ b) w ∙ sym (int_wrap-add_right (width_of ty) a b);
})
step_is red.Mul o ty operation other a b w p q e = subst (λ z. StepIs red.Mul z ty operation a b) (same_operators op.Mul o e) (record {
  value = wrap operation (a *ℤ b);
  given = refl;
  cut = cut_wide ty operation (a *ℤ b) w ∙ sym (int_wrap-mul_right (width_of ty) a b);
})
step_is red.And o ty operation other a b w p q e = subst (λ z. StepIs red.And z ty operation a b) (same_operators op.And o e) (record { value = on_bits bit_and a b; given = refl; cut = bits_cut bit_and and_low ty other a b p q })
step_is red.Or o ty operation other a b w p q e = subst (λ z. StepIs red.Or z ty operation a b) (same_operators op.Or o e) (record { value = on_bits bit_or a b; given = refl; cut = bits_cut bit_or or_low ty other a b p q })
step_is red.Xor o ty operation other a b w p q e = subst (λ z. StepIs red.Xor z ty operation a b) (same_operators op.Xor o e) (record { value = on_bits bit_xor a b; given = refl; cut = bits_cut bit_xor xor_low_half ty other a b p q })
step_is red.Max o ty operation other a b w p q e = absurd (true≢false (sym e))
step_is red.Min o ty operation other a b w p q e = absurd (true≢false (sym e))
