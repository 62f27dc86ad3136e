-- Each reduction is a commutative monoid on the values of its type.
use Rattle.std.proofs.Common.{◌≡◌, ℕ, ◌+◌, ◌*◌, sym, ap, ◌∙◌, arith, ℤ, pos, negsuc, ◌+ℤ◌, ◌*ℤ◌, true, false, Bool, cond}
use Rattle.std.specs.Int.{int_wrap, int_max, int_min}
use Rattle.std.specs.Prelude.{int_lt}
use Rattle.std.proofs.lemmas.Int.{ints, clamps, int_wrap_fits, SFits-int_wrap, int_wrap-add_left, int_wrap-add_right, int_wrap-mul_left, int_wrap-mul_right}
use borrow.Author.Differences.{up, down, same_in, product_is}
use Rattle.xmp_num.specs.Arithmetic.{width_of, FitsType}
use Rattle.xmp_num.specs.Reduction.{combine_of, unit_of, IsCommutativeMonoid}
use Rattle.xmp_num.specs.declared.types.Ty.{Ty}
use Rattle.xmp_num.specs.declared.types.Ty.TheVariants.{Int, Long}
use Rattle.xmp_num.specs.declared.types.RedOp.{RedOp}
use Rattle.xmp_num.specs.declared.types.RedOp.TheVariants as red
use Rattle.xmp_num.proofs.BitLaws.{wide_fits, closed, commutative, associative, and_laws, or_laws, xor_laws, ones_neutral, zero_neutral_or, zero_neutral_xor}

-- The laws of one reduction at one type.
abbrev Holds : RedOp → Ty → Type 0
Holds op ty = IsCommutativeMonoid (FitsType ty) (combine_of op ty) (unit_of op ty)

add_assoc : (a b c : ℤ) → (a +ℤ b) +ℤ c ≡ a +ℤ (b +ℤ c)
add_assoc a b c = omega (arith, ints)

add_comm : (a b : ℤ) → a +ℤ b ≡ b +ℤ a
add_comm a b = omega (arith, ints)

zero_add : (a : ℤ) → pos 0 +ℤ a ≡ a
zero_add a = omega (arith, ints)

-- A product as a difference of naturals multiplies out.
mul_assoc : (a b c : ℤ) → (a *ℤ b) *ℤ c ≡ a *ℤ (b *ℤ c)
mul_assoc a b c =
    let ab = product_is a b in
    let bc = product_is b c in
    let by = λ (k : ℕ) (m n : ℕ) (e : m ≡ n). ap (λ x. x * k) e in
    let left = product_is (a *ℤ b) c in
    let right = product_is a (b *ℤ c) in
    let ups : up ((a *ℤ b) *ℤ c) ≡ up (a *ℤ (b *ℤ c)) =
    omega (arith, by (up c) _ _ ab.0, by (down c) _ _ ab.1, by (up a) _ _ bc.0, by (down a) _ _ bc.1) in
    let downs : down ((a *ℤ b) *ℤ c) ≡ down (a *ℤ (b *ℤ c)) =
    omega (arith, by (down c) _ _ ab.0, by (up c) _ _ ab.1, by (down a) _ _ bc.0, by (up a) _ _ bc.1) in
    same_in _ _ (λ i. ups i + sym downs i)

mul_comm : (a b : ℤ) → a *ℤ b ≡ b *ℤ a
mul_comm a b =
    let ab = product_is a b in
    let ba = product_is b a in
    let ups : up (a *ℤ b) ≡ up (b *ℤ a) = omega arith in
    let downs : down (a *ℤ b) ≡ down (b *ℤ a) = omega arith in
    same_in _ _ (λ i. ups i + sym downs i)

one_mul : (a : ℤ) → pos 1 *ℤ a ≡ a
one_mul a = omega (arith, ints)

zero_fits : (ty : Ty) → FitsType ty (pos 0)
zero_fits Int = omega (arith, ints)
zero_fits Long = omega (arith, ints)

one_fits : (ty : Ty) → FitsType ty (pos 1)
one_fits Int = omega (arith, ints)
one_fits Long = omega (arith, ints)

ones_fit : (ty : Ty) → FitsType ty (negsuc 0)
ones_fit Int = omega (arith, ints)
ones_fit Long = omega (arith, ints)

least_fits : (ty : Ty) → FitsType ty (unit_of red.Max ty)
least_fits Int = omega (arith, ints)
least_fits Long = omega (arith, ints)

greatest_fits : (ty : Ty) → FitsType ty (unit_of red.Min ty)
greatest_fits Int = omega (arith, ints)
greatest_fits Long = omega (arith, ints)

max_assoc : (a b c : ℤ) → int_max (int_max a b) c ≡ int_max a (int_max b c)
max_assoc a b c = omega (arith, ints, clamps)

max_comm : (a b : ℤ) → int_max a b ≡ int_max b a
max_comm a b = omega (arith, ints, clamps)

min_assoc : (a b c : ℤ) → int_min (int_min a b) c ≡ int_min a (int_min b c)
min_assoc a b c = omega (arith, ints, clamps)

min_comm : (a b : ℤ) → int_min a b ≡ int_min b a
min_comm a b = omega (arith, ints, clamps)

above_least : (ty : Ty) (a : ℤ) → FitsType ty a → int_max (unit_of red.Max ty) a ≡ a
above_least Int a p = omega (arith, ints, clamps)
above_least Long a p = omega (arith, ints, clamps)

below_greatest : (ty : Ty) (a : ℤ) → FitsType ty a → int_min (unit_of red.Min ty) a ≡ a
below_greatest Int a p = omega (arith, ints, clamps)
below_greatest Long a p = omega (arith, ints, clamps)

-- One of two values of a set is chosen.
either : (In : ℤ → Type 0) (test : Bool) (a b : ℤ) → In a → In b → In (cond test a b)
either In true a b p q = p
either In false a b p q = q

add_holds : (ty : Ty) → Holds red.Add ty
unfolding combine_of
add_holds ty = let w = width_of ty in record {
  closed = λ a b p q. SFits-int_wrap w (a +ℤ b);
  associative = λ a b c p q r. int_wrap-add_left w (a +ℤ b) c ∙ ap (int_wrap w) (add_assoc a b c) ∙ sym (int_wrap-add_right w a (b +ℤ c));
  commutative = λ a b p q. ap (int_wrap w) (add_comm a b);
  unit_in = zero_fits ty;
  neutral = λ a p. ap (int_wrap w) (zero_add a) ∙ int_wrap_fits w a p;
}

mul_holds : (ty : Ty) → Holds red.Mul ty
unfolding combine_of
mul_holds ty = let w = width_of ty in record {
  closed = λ a b p q. SFits-int_wrap w (a *ℤ b);
  associative = λ a b c p q r. int_wrap-mul_left w (a *ℤ b) c ∙ ap (int_wrap w) (mul_assoc a b c) ∙ sym (int_wrap-mul_right w a (b *ℤ c));
  commutative = λ a b p q. ap (int_wrap w) (mul_comm a b);
  unit_in = one_fits ty;
  neutral = λ a p. ap (int_wrap w) (one_mul a) ∙ int_wrap_fits w a p;
}

and_holds : (ty : Ty) → Holds red.And ty
unfolding combine_of
and_holds ty = record {
  closed = closed and_laws ty;
  associative = λ a b c p q r. associative and_laws a b c (wide_fits ty a p) (wide_fits ty b q) (wide_fits ty c r);
  commutative = λ a b p q. commutative and_laws a b;
  unit_in = ones_fit ty;
  neutral = λ a p. ones_neutral a (wide_fits ty a p);
}

or_holds : (ty : Ty) → Holds red.Or ty
unfolding combine_of
or_holds ty = record {
  closed = closed or_laws ty;
  associative = λ a b c p q r. associative or_laws a b c (wide_fits ty a p) (wide_fits ty b q) (wide_fits ty c r);
  commutative = λ a b p q. commutative or_laws a b;
  unit_in = zero_fits ty;
  neutral = λ a p. zero_neutral_or a (wide_fits ty a p);
}

xor_holds : (ty : Ty) → Holds red.Xor ty
unfolding combine_of
xor_holds ty = record {
  closed = closed xor_laws ty;
  associative = λ a b c p q r. associative xor_laws a b c (wide_fits ty a p) (wide_fits ty b q) (wide_fits ty c r);
  commutative = λ a b p q. commutative xor_laws a b;
  unit_in = zero_fits ty;
  neutral = λ a p. zero_neutral_xor a (wide_fits ty a p);
}

max_holds : (ty : Ty) → Holds red.Max ty
unfolding combine_of
max_holds ty = record {
  closed = λ a b p q. either (FitsType ty) (int_lt b a) a b p q;
  associative = λ a b c p q r. max_assoc a b c;
  commutative = λ a b p q. max_comm a b;
  unit_in = least_fits ty;
  neutral = λ a p. above_least ty a p;
}

min_holds : (ty : Ty) → Holds red.Min ty
unfolding combine_of
min_holds ty = record {
  closed = λ a b p q. either (FitsType ty) (int_lt b a) b a q p;
  associative = λ a b c p q r. min_assoc a b c;
  commutative = λ a b p q. min_comm a b;
  unit_in = greatest_fits ty;
  neutral = λ a p. below_greatest ty a p;
}

pub holds : (op : RedOp) (ty : Ty) → Holds op ty
holds red.Add ty = add_holds ty
holds red.Mul ty = mul_holds ty
holds red.And ty = and_holds ty
holds red.Or ty = or_holds ty
holds red.Xor ty = xor_holds ty
holds red.Max ty = max_holds ty
holds red.Min ty = min_holds ty
