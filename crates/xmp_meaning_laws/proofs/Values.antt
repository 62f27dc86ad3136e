-- What an operator gives lies in its type, and so does what is read after a write.
use Rattle.std.proofs.Common.{◌≡◌, ◌≤◌, ◌/◌, ◌^◌, ◌*ℤ◌, ◌+ℤ◌, ◌-ℤ◌, ◌||◌, ℕ, zero, suc, ℤ, pos, negsuc, Bool, true, false, true≢false, not, List, [], ◌∷◌, map, replicate, Result, Ok, Err, refl, sym, subst, ap, if◌then◌else◌, arith}
use Rattle.std.specs.Prelude.{slice_get, slice_set, unwrap_or, int_lt, int_le, int_div, int_rem, nat_lt}
use Rattle.std.specs.Int.{int_div_euclid}
use Rattle.std.specs.Ordering.{int_eq}
use Rattle.std.proofs.lemmas.Int.{ints, SFits-int_wrap}
use Rattle.std.proofs.Math.Nat.{div-le_self}
use Rattle.xmp_num.specs.declared.types.Ty.{Ty}
use Rattle.xmp_num.specs.declared.types.Ty.TheVariants.{Int, Long}
use Rattle.xmp_num.specs.declared.types.TrapKind.{TrapKind}
use Rattle.xmp_num.specs.declared.types.TrapKind.TheVariants.{Shift}
use Rattle.xmp_num.specs.Reduction.{least, greatest}
use Rattle.xmp_map.proofs.Counted.{and_left, and_right}
use Rattle.std.proofs.lemmas.Bool.{leb-true}
use Rattle.xmp_num.specs.declared.types.BinOp.{BinOp}
use Rattle.xmp_num.specs.declared.types.BinOp.TheVariants as op
use Rattle.xmp_num.specs.Arithmetic.{FitsType, wrap, width_of, bits_of, truth, binary_of, with_divisor, with_count}
use Rattle.xmp_num.proofs.BitLaws.{closed, and_laws, or_laws, xor_laws}
use Rattle.xmp_prog.specs.Terms.{result_of}
use Rattle.xmp_prog.specs.Tests.{is_shift}
use Rattle.xmp_prog.specs.Numbers.{same_type, lies_in}
use Rattle.xmp_meaning.specs.Cells.{row_in, read_in, write_in}

pub zero_fits : (ty : Ty) → FitsType ty (pos 0)
zero_fits Int = omega (arith, ints)
zero_fits Long = omega (arith, ints)

pub one_fits : FitsType Int (pos 1)
one_fits = omega (arith, ints)

pub small_fits : (n : ℕ) → n ≤ 4194304 → FitsType Int (pos n)
small_fits n le = omega (arith, ints, le)

pub wrap_fits : (ty : Ty) (v : ℤ) → FitsType ty (wrap ty v)
wrap_fits ty v = SFits-int_wrap (width_of ty) v

less_fits : (ty : Ty) (m n : ℕ) → m ≤ n → FitsType ty (pos n) → FitsType ty (pos m)
less_fits Int m n le h = omega (arith, ints, le, h)
less_fits Long m n le h = omega (arith, ints, le, h)

less_fits_below : (ty : Ty) (m n : ℕ) → m ≤ n → FitsType ty (negsuc n) → FitsType ty (negsuc m)
less_fits_below Int m n le h = omega (arith, ints, le, h)
less_fits_below Long m n le h = omega (arith, ints, le, h)

-- a value that a result has, where it has one
abbrev OkFits : Ty → Result ℤ TrapKind → Type 0
OkFits ty (Ok v) = FitsType ty v
OkFits ty (Err kind) = Unit {0}

truth_fits : (b : Bool) → FitsType Int (truth b)
truth_fits true = one_fits
truth_fits false = zero_fits Int

divided_fits : (ty : Ty) (y v : ℤ) → FitsType ty v → OkFits ty (with_divisor y v)
divided_fits ty (pos zero) v h = tt
divided_fits ty (pos (suc n)) v h = h
divided_fits ty (negsuc n) v h = h

shifted_fits : (ty : Ty) (y : ℤ) (f : ℕ → ℤ) → ((k : ℕ) → FitsType ty (f k)) → OkFits ty (with_count ty y f)
shifted_fits ty (negsuc k) f h = tt
shifted_fits ty (pos k) f h = of_test (nat_lt k (bits_of ty))
  where
    of_test : (b : Bool) → OkFits ty (if b then Ok (f k) else Err Shift)
    of_test true = h k
    of_test false = tt

halved_fits : (ty : Ty) (x : ℤ) (m : ℕ) → FitsType ty x → FitsType ty (int_div_euclid x (pos m))
halved_fits ty (pos n) m h = less_fits ty (n / m) n (div-le_self n m) h
halved_fits ty (negsuc n) m h = less_fits_below ty (n / m) n (div-le_self n m) h

binary_fits : (o : BinOp) (ty : Ty) (x y : ℤ) → FitsType ty x → (is_shift o ≡ false → FitsType ty y) → OkFits (result_of o ty) (binary_of o ty x y)
unfolding binary_of
binary_fits op.Add ty x y h i = wrap_fits ty (x +ℤ y)
binary_fits op.Sub ty x y h i = wrap_fits ty (x -ℤ y)
binary_fits op.Mul ty x y h i = wrap_fits ty (x *ℤ y)
binary_fits op.Div ty x y h i = divided_fits ty y (wrap ty (int_div x y)) (wrap_fits ty (int_div x y))
binary_fits op.Rem ty x y h i = divided_fits ty y (wrap ty (int_rem x y)) (wrap_fits ty (int_rem x y))
binary_fits op.Shl ty x y h i = shifted_fits ty y (λ k. wrap ty (x *ℤ pos (2 ^ k))) (λ k. wrap_fits ty (x *ℤ pos (2 ^ k)))
binary_fits op.Shr ty x y h i = shifted_fits ty y (λ k. int_div_euclid x (pos (2 ^ k))) (λ k. halved_fits ty x (2 ^ k) h)
binary_fits op.And ty x y h i = closed and_laws ty x y h (i refl)
binary_fits op.Or ty x y h i = closed or_laws ty x y h (i refl)
binary_fits op.Xor ty x y h i = closed xor_laws ty x y h (i refl)
binary_fits op.Less ty x y h i = truth_fits (int_lt x y)
binary_fits op.LessEq ty x y h i = truth_fits (int_le x y)
binary_fits op.Greater ty x y h i = truth_fits (int_lt y x)
binary_fits op.GreaterEq ty x y h i = truth_fits (int_le y x)
binary_fits op.Equal ty x y h i = truth_fits (int_eq x y)
binary_fits op.Differ ty x y h i = truth_fits (not (int_eq x y))

pub same_types : (ty other : Ty) → same_type ty other ≡ true → ty ≡ other
same_types Int Int e = refl
same_types Long Long e = refl
same_types Int Long e = absurd (true≢false (sym e))
same_types Long Int e = absurd (true≢false (sym e))

-- the operator of a term whose operands fit
pub operator_fits : (o : BinOp) (ty a b : Ty) → same_type ty a ≡ true → (is_shift o || same_type ty b) ≡ true
    → (x y z : ℤ) → FitsType a x → FitsType b y → binary_of o ty x y ≡ Ok z → FitsType (result_of o ty) z
operator_fits o ty a b e f x y z h i is =
    subst (OkFits (result_of o ty)) is
    (binary_fits o ty x y (subst (λ u. FitsType u x) (sym (same_types ty a e)) h) (λ no_shift. subst (λ u. FitsType u y) (sym (same_types ty b (right (is_shift o) no_shift f))) i))
  where
    right : (s : Bool) → s ≡ false → (s || same_type ty b) ≡ true → same_type ty b ≡ true
    right true g h = absurd (true≢false g)
    right false g h = h

-- a constant that lies in its type
pub constant_lies : (ty : Ty) (v : ℤ) → lies_in ty v ≡ true → FitsType ty v
constant_lies Int (pos n) h =
    let le : n ≤ 2147483647 = leb-true n 2147483647 (and_right (int_le (least Int) (pos n)) (int_le (pos n) (greatest Int)) h) in omega (arith, ints, le)
constant_lies Int (negsuc n) h =
    let le : n ≤ 2147483647 = leb-true n 2147483647 (and_left (int_le (least Int) (negsuc n)) (int_le (negsuc n) (greatest Int)) h) in omega (arith, ints, le)
constant_lies Long (pos n) h =
    let le : n ≤ 9223372036854775807 = leb-true n 9223372036854775807 (and_right (int_le (least Long) (pos n)) (int_le (pos n) (greatest Long)) h) in omega (arith, ints, le)
constant_lies Long (negsuc n) h =
    let le : n ≤ 9223372036854775807 = leb-true n 9223372036854775807 (and_left (int_le (least Long) (negsuc n)) (int_le (negsuc n) (greatest Long)) h) in omega (arith, ints, le)

-- ---- reading after a write

-- what holds of the old value at a place, and of the new one, holds of the value then
pub set_has : {A : Type 0} (Q : A → Type 0) (d : A) (xs : List A) (i j : ℕ) (v : A) → (i ≡ j → Q v) → Q (unwrap_or (slice_get xs j) d)
    → Q (unwrap_or (slice_get (slice_set xs i v) j) d)
set_has Q d [] i j v new old = old
set_has Q d (x ∷ xs) zero zero v new old = new refl
set_has Q d (x ∷ xs) zero (suc j) v new old = old
set_has Q d (x ∷ xs) (suc i) zero v new old = old
set_has Q d (x ∷ xs) (suc i) (suc j) v new old = set_has Q d xs i j v (λ e. new (ap suc e)) old

pub write_has : (Q : ℤ → Type 0) (rows : List (List ℤ)) (i j : ℕ) (at to v : ℤ) → (i ≡ j → Q v) → Q (read_in rows j to)
    → Q (read_in (write_in rows i at v) j to)
write_has Q rows i j (negsuc n) to v new old = old
write_has Q rows i j (pos n) (negsuc m) v new old = old
write_has Q rows i j (pos n) (pos m) v new old =
    set_has (λ row. Q (unwrap_or (slice_get row m) (pos 0))) [] rows i j (slice_set (row_in rows i) n v)
    (λ e. set_has Q (pos 0) (row_in rows i) n m v (λ f. new e) (subst (λ k. Q (unwrap_or (slice_get (row_in rows k) m) (pos 0))) (sym e) old))
    old

-- ---- zeros

pub zero_read : (n i : ℕ) → unwrap_or (slice_get (replicate n (pos 0)) i) (pos 0) ≡ pos 0
zero_read zero i = refl
zero_read (suc n) zero = refl
zero_read (suc n) (suc i) = zero_read n i

pub zero_rows : {A : Type 0} (f : A → ℕ) (xs : List A) (i : ℕ) (at : ℤ) → read_in (map (λ x. replicate (f x) (pos 0)) xs) i at ≡ pos 0
zero_rows f xs i (negsuc n) = refl
zero_rows f [] i (pos n) = refl
zero_rows f (x ∷ xs) zero (pos n) = zero_read (f x) n
zero_rows f (x ∷ xs) (suc i) (pos n) = zero_rows f xs i (pos n)
