-- The value of digits.
use Rattle.std.proofs.Common.{◌≡◌, ◌≤◌, ◌<◌, ◌+◌, ◌*◌, ℕ, zero, suc, List, length, arith, get_or, refl, subst, add-one, inl, inr}
use Rattle.std.proofs.lemmas.Bool.{cases_lt}
use Rattle.xmp_lex.specs.Bytes.{value, digit, IsValue}

mul_le : (a b : ℕ) → 1 ≤ b → a ≤ a * b
mul_le a b h = grind arith

pub grows : (base : ℕ) (ds : List ℕ) (i n : ℕ) → 1 ≤ base → i ≤ n → value base ds i ≤ value base ds n
unfolding value
grows base ds i zero one le = let e : i ≡ 0 = omega arith in subst (λ k. value base ds i ≤ value base ds k) e (omega arith)
grows base ds i (suc n) one le = elim (cases_lt i (suc n)) [
  | inl h ↦ (let g = grows base ds i n one (omega arith) in let m : value base ds n ≤ value base ds n * base = mul_le (value base ds n) base one in omega arith)
  | inr h ↦ (let e : i ≡ suc n = omega arith in subst (λ k. value base ds i ≤ value base ds k) e (omega arith))
]

pub next : (base : ℕ) (ds : List ℕ) (i : ℕ) → value base ds (i + 1) ≡ value base ds i * base + digit (get_or ds i 0)
unfolding value
next base ds i = rw add-one refl

pub too_large : (base : ℕ) (ds : List ℕ) (i v : ℕ) → 1 ≤ base → i < length ds → 9223372036854775807 < value base ds i * base + digit (get_or ds i 0) → IsValue base ds v → ⊥
too_large base ds i v one h large is =
    let g = grows base ds (i + 1) (length ds) one (omega arith) in
    let e = next base ds i in
    let f = is.fits in let w = is.is in omega arith
