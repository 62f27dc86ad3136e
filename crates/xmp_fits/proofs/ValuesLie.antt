-- A value that is known before the run lies in its type.
use Rattle.std.proofs.Common.{◌≡◌, refl, subst, ◌/◌, ◌^◌, ◌≤◌, ℕ, zero, suc, ℤ, pos, negsuc, Bool, true, false, not, Result, Ok, Err, arith}
use Rattle.std.specs.Prelude.{⊤, ◌||◌, ◌*ℤ◌, if◌then◌else◌, int_le, nat_lt, int_lt}
use Rattle.std.specs.Ordering.{int_eq}
use Rattle.std.specs.Int.{int_div_euclid}
use Rattle.std.proofs.lemmas.Bool.{le-leb, leb-true}
use Rattle.std.proofs.Math.Nat.{div-le_self}
use Rattle.std.proofs.lemmas.Int.{SFits-int_wrap}
use Rattle.xmp_num.specs.declared.types.TrapKind.{TrapKind}
use Rattle.xmp_num.specs.declared.types.TrapKind.TheVariants.{Shift}
use Rattle.xmp_num.specs.declared.types.Ty.{Ty}
use Rattle.xmp_num.specs.declared.types.Ty.TheVariants.{Int, Long}
use Rattle.xmp_num.specs.declared.types.BinOp.{BinOp}
use Rattle.xmp_num.specs.declared.types.BinOp.TheVariants as op
use Rattle.xmp_num.specs.Arithmetic.{wrap, width_of, bits_of, truth, binary_of, with_divisor, with_count, FitsType}
use Rattle.xmp_num.proofs.BitLaws.{wide_fits, closed, and_laws, or_laws, xor_laws}
use Rattle.xmp_prog.specs.Numbers.{lies_in}
use Rattle.xmp_prog.specs.Terms.{result_of}
use Rattle.xmp_prog.specs.Tests.{is_shift}
use Rattle.xmp_names.specs.declared.typed.Value.{Value}
use Rattle.xmp_names.specs.declared.typed.Value.TheVariants.{Named, Trapping, Known}
use Rattle.xmp_names.specs.Typing.{known, binary_value, is_zero, truth_value, both_value, either_value, converted, is_named, picked, chosen_value}
use Rattle.xmp_parts.proofs.Unbroken.{both_true, left_true}

-- ---- the two ways to say it

pub lies : (ty : Ty) (v : ℤ) → FitsType ty v → lies_in ty v ≡ true
lies Int (pos n) f = let h = f.sfits in le-leb n 2147483647 (omega arith)
lies Int (negsuc n) f = let h = f.sfits in both_true _ true (le-leb n 2147483647 (omega arith)) refl
lies Long (pos n) f = let h = f.sfits in le-leb n 9223372036854775807 (omega arith)
lies Long (negsuc n) f = let h = f.sfits in both_true _ true (le-leb n 9223372036854775807 (omega arith)) refl

pub fits : (ty : Ty) (v : ℤ) → lies_in ty v ≡ true → FitsType ty v
fits Int (pos n) h = let e = leb-true n 2147483647 h in record { sfits = omega arith }
fits Int (negsuc n) h = let e = leb-true n 2147483647 (left_true _ true h) in record { sfits = omega arith }
fits Long (pos n) h = let e = leb-true n 9223372036854775807 h in record { sfits = omega arith }
fits Long (negsuc n) h = let e = leb-true n 9223372036854775807 (left_true _ true h) in record { sfits = omega arith }

-- ---- operators

wraps : (ty : Ty) (z : ℤ) → FitsType ty (wrap ty z)
wraps ty z = SFits-int_wrap (width_of ty) z

pub wrap_lies : (ty : Ty) (z : ℤ) → lies_in ty (wrap ty z) ≡ true
wrap_lies ty z = lies ty (wrap ty z) (wraps ty z)

truth_fits : (b : Bool) → FitsType Int (truth b)
truth_fits true = record { sfits = omega arith }
truth_fits false = record { sfits = omega arith }

halved : (ty : Ty) (a : ℤ) (k : ℕ) → FitsType ty a → FitsType ty (int_div_euclid a (pos (2 ^ k)))
halved Int (pos n) k f = let h = f.sfits in let d : n / 2 ^ k ≤ n = div-le_self n (2 ^ k) in record { sfits = omega arith }
halved Int (negsuc n) k f = let h = f.sfits in let d : n / 2 ^ k ≤ n = div-le_self n (2 ^ k) in record { sfits = omega arith }
halved Long (pos n) k f = let h = f.sfits in let d : n / 2 ^ k ≤ n = div-le_self n (2 ^ k) in record { sfits = omega arith }
halved Long (negsuc n) k f = let h = f.sfits in let d : n / 2 ^ k ≤ n = div-le_self n (2 ^ k) in record { sfits = omega arith }

-- what a result is where it is a value
abbrev IfValue : (ℤ → Type 0) → Result ℤ TrapKind → Type 0
IfValue P (Ok v) = P v
IfValue P (Err kind) = ⊤

divisor_value : (P : ℤ → Type 0) (b v : ℤ) → P v → IfValue P (with_divisor b v)
divisor_value P (pos zero) v h = tt
divisor_value P (pos (suc n)) v h = h
divisor_value P (negsuc n) v h = h

count_value : (P : ℤ → Type 0) (ty : Ty) (b : ℤ) (f : ℕ → ℤ) → ((k : ℕ) → P (f k)) → IfValue P (with_count ty b f)
count_value P ty (pos k) f h = at (nat_lt k (bits_of ty))
  where
    at : (t : Bool) → IfValue P (if t then Ok (f k) else Err Shift)
    at true = h k
    at false = tt
count_value P ty (negsuc k) f h = tt

-- the type of an operator's result
value_of : (o : BinOp) (ty : Ty) (a b : ℤ) → FitsType ty a → (is_shift o ≡ false → FitsType ty b) → IfValue (FitsType (result_of o ty)) (binary_of o ty a b)
unfolding binary_of
value_of op.Add ty a b f g = wraps ty _
value_of op.Sub ty a b f g = wraps ty _
value_of op.Mul ty a b f g = wraps ty _
value_of op.Div ty a b f g = divisor_value (FitsType ty) b _ (wraps ty _)
value_of op.Rem ty a b f g = divisor_value (FitsType ty) b _ (wraps ty _)
value_of op.Shl ty a b f g = count_value (FitsType ty) ty b (λ k. wrap ty (a *ℤ pos (2 ^ k))) (λ k. wraps ty _)
value_of op.Shr ty a b f g = count_value (FitsType ty) ty b (λ k. int_div_euclid a (pos (2 ^ k))) (λ k. halved ty a k f)
value_of op.And ty a b f g = closed and_laws ty a b f (g refl)
value_of op.Or ty a b f g = closed or_laws ty a b f (g refl)
value_of op.Xor ty a b f g = closed xor_laws ty a b f (g refl)
value_of op.Less ty a b f g = truth_fits (int_lt a b)
value_of op.LessEq ty a b f g = truth_fits (int_le a b)
value_of op.Greater ty a b f g = truth_fits (int_lt b a)
value_of op.GreaterEq ty a b f g = truth_fits (int_le b a)
value_of op.Equal ty a b f g = truth_fits (int_eq a b)
value_of op.Differ ty a b f g = truth_fits (not (int_eq a b))

-- ---- what is known of an operation

-- A value that is known lies in a type.
abbrev pub Lies : Ty → Value → Type 0
Lies ty (Known v) = lies_in ty v ≡ true
Lies ty Named = ⊤
Lies ty Trapping = ⊤

known_lies : (ty : Ty) (r : Result ℤ TrapKind) → IfValue (FitsType ty) r → Lies ty (known r)
known_lies ty (Ok v) h = lies ty v h
known_lies ty (Err kind) h = tt

pub binary_lies : (o : BinOp) (ty other : Ty) (a b : Value) → (is_shift o ≡ false → other ≡ ty) → Lies ty a → Lies other b → Lies (result_of o ty) (binary_value o ty a b)
binary_lies o ty other Named b s f g = tt
binary_lies o ty other Trapping Named s f g = tt
binary_lies o ty other Trapping Trapping s f g = tt
binary_lies o ty other Trapping (Known y) s f g = tt
binary_lies o ty other (Known x) Named s f g = tt
binary_lies o ty other (Known x) Trapping s f g = tt
binary_lies o ty other (Known x) (Known y) s f g =
    known_lies (result_of o ty) (binary_of o ty x y) (value_of o ty x y (fits ty x f) (λ e. fits ty y (subst (λ t. lies_in t y ≡ true) (s e) g)))

-- A value of int lies in long too.
pub widened : (v : Value) → Lies Int v → Lies Long v
widened (Known v) h = lies Long v (wide_fits Int v (fits Int v h))
widened Named h = tt
widened Trapping h = tt

pub converted_lies : (ty : Ty) (v : Value) → Lies ty (converted ty v)
converted_lies ty (Known v) = wrap_lies ty v
converted_lies ty Named = tt
converted_lies ty Trapping = tt

truth_lies : (v : Value) → Lies Int (truth_value v)
truth_lies (Known v) = at (is_zero v)
  where
    at : (t : Bool) → Lies Int (Known (if t then pos 0 else pos 1))
    at true = refl
    at false = refl
truth_lies Named = tt
truth_lies Trapping = tt

pub both_lies : (a b : Value) → Lies Int (both_value a b)
both_lies Named b = tt
both_lies Trapping Named = tt
both_lies Trapping Trapping = tt
both_lies Trapping (Known y) = tt
both_lies (Known x) Named = tt
both_lies (Known x) Trapping = at (is_zero x)
  where
    at : (t : Bool) → Lies Int (if t then Known (pos 0) else Trapping)
    at true = refl
    at false = tt
both_lies (Known x) (Known y) = at (is_zero x)
  where
    at : (t : Bool) → Lies Int (if t then Known (pos 0) else truth_value (Known y))
    at true = refl
    at false = truth_lies (Known y)

pub either_lies : (a b : Value) → Lies Int (either_value a b)
either_lies Named b = tt
either_lies Trapping Named = tt
either_lies Trapping Trapping = tt
either_lies Trapping (Known y) = tt
either_lies (Known x) Named = tt
either_lies (Known x) Trapping = at (is_zero x)
  where
    at : (t : Bool) → Lies Int (if t then Trapping else Known (pos 1))
    at true = tt
    at false = refl
either_lies (Known x) (Known y) = at (is_zero x)
  where
    at : (t : Bool) → Lies Int (if t then truth_value (Known y) else Known (pos 1))
    at true = truth_lies (Known y)
    at false = refl

picked_lies : (ty : Ty) (c a b : Value) → Lies ty (picked ty c a b)
picked_lies ty (Known x) a b = at (is_zero x)
  where
    at : (t : Bool) → Lies ty (if t then converted ty b else converted ty a)
    at true = converted_lies ty b
    at false = converted_lies ty a
picked_lies ty Named a b = tt
picked_lies ty Trapping a b = tt

pub chosen_lies : (ty : Ty) (c a b : Value) → Lies ty (chosen_value ty c a b)
chosen_lies ty c a b = at (is_named c || is_named a || is_named b)
  where
    at : (t : Bool) → Lies ty (if t then Named else picked ty c a b)
    at true = tt
    at false = picked_lies ty c a b
