-- Searches that end: the first number below a bound of which something holds, and the first such place of a text.
use Rattle.std.proofs.Common.{◌≡◌, ◌<◌, ◌≤◌, ◌⊎◌, inl, inr, ℕ, zero, suc, Bool, true, false, List, length, subst, refl, arith, bytes_eq}
use Rattle.std.proofs.lemmas.Bool.{cases_lt}
use Rattle.std.proofs.lemmas.Slice.Eq.{bytes_eq-Decides}
use Rattle.xmp_lex.specs.Bytes.{IsFirstPlace}

-- P holds, or it doesn't
abbrev pub Decided : Type 0 → Type 0
Decided P = P ⊎ (P → ⊥)

-- some number has P, or none has
abbrev pub SomeOrNone : (ℕ → Type 0) → Type 0
SomeOrNone P = Decided ((n : ℕ) × P n)

pub is_true : (b : Bool) → Decided (b ≡ true)
is_true true = inl refl
is_true false = inr (λ e. cc)

pub same_bytes : (xs ys : List ℕ) → Decided (xs ≡ ys)
same_bytes xs ys = by (bytes_eq xs ys) refl where
  by : (b : Bool) → bytes_eq xs ys ≡ b → Decided (xs ≡ ys)
  by true e = inl ((bytes_eq-Decides xs ys).0 e)
  by false e = inr (λ h. let z = (bytes_eq-Decides xs ys).1 h in cc)

-- the first number below n that has P, or no number below n has it
pub data First (P : ℕ → Type 0) (n : ℕ) : Type 0 where
  found : (k : ℕ) → k < n → P k → ((j : ℕ) → j < k → P j → ⊥) → First P n
  nowhere : ((k : ℕ) → k < n → P k → ⊥) → First P n

module _ (P : ℕ → Type 0) (decide : (k : ℕ) → Decided (P k)) where
  at_last : (n : ℕ) → ((k : ℕ) → k < n → P k → ⊥) → Decided (P n) → First P (suc n)
  at_last n f (inl p) = found n (omega arith) p f
  at_last n f (inr q) = nowhere (λ k h p. one_of k p (cases_lt k n) h)
    where
      one_of : (k : ℕ) → P k → (k < n) ⊎ (n ≤ k) → k < suc n → ⊥
      one_of k p (inl l) h = f k l p
      one_of k p (inr g) h = let e : k ≡ n = omega arith in q (subst P e p)

  one_more : (n : ℕ) → First P n → First P (suc n)
  one_more n (found k h p b) = found k (omega arith) p b
  one_more n (nowhere f) = at_last n f (decide n)

  pub first : (n : ℕ) → First P n
  first zero = nowhere (λ k h p. omega arith)
  first (suc n) = one_more n (first n)

  place_of : (text : List ℕ) → First P (length text) → (n : ℕ) × IsFirstPlace P text n
  place_of text (found k h p b) = (k, record { within = omega arith; here = λ l. p; before = b })
  place_of text (nowhere f) = (length text, record { within = omega arith; here = λ l. absurd (omega arith); before = f })

  -- the first place of a text that has P, or its end
  pub first_place : (text : List ℕ) → (n : ℕ) × IsFirstPlace P text n
  first_place text = place_of text (first (length text))
