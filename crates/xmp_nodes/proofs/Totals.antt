-- Values of the nodes combined, under an operation that is a commutative monoid on the values of a set.
use Rattle.std.proofs.Common.{◌≡◌, ◌≢◌, ℕ, zero, suc, ◌<◌, ◌⊎◌, inl, inr, refl, sym, ap, ◌∙◌, ⊎_elim, arith, ℤ}
use Rattle.xmp_num.specs.Reduction.{IsCommutativeMonoid}

-- below the successor: below it, or it
pub below_or_last : (k n : ℕ) → k < suc n → (k < n) ⊎ (k ≡ n)
below_or_last zero zero l = inr refl
below_or_last zero (suc n) l = inl (omega arith)
below_or_last (suc k) zero l = absurd (omega (arith, l))
below_or_last (suc k) (suc n) l = ⊎_elim (λ m. inl (omega (arith, m))) (λ e. inr (ap suc e)) (below_or_last k n (omega (arith, l)))

-- the first values of a sequence combined, from left to right
abbrev pub total_of : (ℤ → ℤ → ℤ) → ℤ → (ℕ → ℤ) → ℕ → ℤ
total_of op unit f zero = unit
total_of op unit f (suc n) = op (total_of op unit f n) (f n)

module _ (In : ℤ → Type 0) (op : ℤ → ℤ → ℤ) (unit : ℤ) (laws : IsCommutativeMonoid In op unit) where
  abbrev total : (ℕ → ℤ) → ℕ → ℤ
  total f n = total_of op unit f n

  abbrev pub AllIn : (ℕ → ℤ) → ℕ → Type 0
  AllIn f n = (k : ℕ) → k < n → In (f k)

  fewer_in : (f : ℕ → ℤ) (n : ℕ) → AllIn f (suc n) → AllIn f n
  fewer_in f n a k l = a k (omega (arith, l))

  last_in : (f : ℕ → ℤ) (n : ℕ) → AllIn f (suc n) → In (f n)
  last_in f n a = a n (omega arith)

  pub total_in : (f : ℕ → ℤ) (n : ℕ) → AllIn f n → In (total f n)
  total_in f zero a = laws.unit_in
  total_in f (suc n) a = laws.closed (total f n) (f n) (total_in f n (fewer_in f n a)) (last_in f n a)

  pub total_same : (f g : ℕ → ℤ) (n : ℕ) → ((k : ℕ) → k < n → f k ≡ g k) → total f n ≡ total g n
  total_same f g zero h = refl
  total_same f g (suc n) h =
      ap (λ z. op z (f n)) (total_same f g n (λ k l. h k (omega (arith, l)))) ∙ ap (op (total g n)) (h n (omega arith))

  -- one value is combined with one more
  pub total_more : (f g : ℕ → ℤ) (n o : ℕ) (d : ℤ) → AllIn f n → In d → o < n → g o ≡ op (f o) d → ((k : ℕ) → k < n → k ≢ o → g k ≡ f k)
      → total g n ≡ op (total f n) d
  total_more f g zero o d a i l e h = absurd (omega (arith, l))
  total_more f g (suc n) o d a i l e h =
      ⊎_elim (λ m. before m (total_more f g n o d (fewer_in f n a) i m e (λ k b. h k (omega (arith, b))))) last (below_or_last o n l)
    where
      before : o < n → total g n ≡ op (total f n) d → total g (suc n) ≡ op (total f (suc n)) d
      before m so_far =
          let T_in : In (total f n) = total_in f n (fewer_in f n a) in
          let last_is : g n ≡ f n = h n (omega arith) (λ s. absurd (omega (arith, m, s))) in
          ap (λ z. op z (g n)) so_far ∙ ap (op (op (total f n) d)) last_is
          ∙ laws.associative (total f n) d (f n) T_in i (last_in f n a)
          ∙ ap (op (total f n)) (laws.commutative d (f n) i (last_in f n a))
          ∙ sym (laws.associative (total f n) (f n) d T_in (last_in f n a) i)

      last : o ≡ n → total g (suc n) ≡ op (total f (suc n)) d
      last s =
          let T_in : In (total f n) = total_in f n (fewer_in f n a) in
          let last_is : g n ≡ op (f n) d = ap g (sym s) ∙ e ∙ ap (λ k. op (f k) d) s in
          ap (λ z. op z (g n)) (total_same g f n (λ k b. h k (omega (arith, b)) (λ q. absurd (omega (arith, b, q, s)))))
          ∙ ap (op (total f n)) last_is
          ∙ sym (laws.associative (total f n) (f n) d T_in (last_in f n a) i)

  neutral_behind : (v : ℤ) → In v → op v unit ≡ v
  neutral_behind v i = laws.commutative v unit i laws.unit_in ∙ laws.neutral v i

  -- the first alone isn't the unit
  pub total_first : (f : ℕ → ℤ) (n : ℕ) → In (f 0) → ((k : ℕ) → k < suc n → k ≢ 0 → f k ≡ unit) → total f (suc n) ≡ f 0
  total_first f zero i h = laws.neutral (f 0) i
  total_first f (suc n) i h =
      ap (λ z. op z (f (suc n))) (total_first f n i (λ k l. h k (omega (arith, l))))
      ∙ ap (op (f 0)) (h (suc n) (omega arith) (λ e. absurd (omega (arith, e)))) ∙ neutral_behind (f 0) i
