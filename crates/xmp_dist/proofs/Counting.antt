-- Laws of `count_below`, for any test.
use Rattle.std.proofs.Common.{◌≡◌, ℕ, zero, suc, ◌+◌, ◌-◌, ◌<◌, ◌≤◌, inl, inr, Bool, true, false, refl, sym, zero-add, add-one, ◌∙◌, ap, arith, cond, min}
use Rattle.std.specs.Prelude.{nat_lt, nat_le, ◌&&◌}
use Rattle.std.proofs.lemmas.Bool.{cases_lt}
use Rattle.std.proofs.lemmas.Bool.Decides.{nat_tests}
use Rattle.xmp_dist.specs.Count.{count_below}

abbrev pub one_if : Bool → ℕ
one_if b = cond b 1 0

pub count_below-zero : (p : ℕ → Bool) → count_below p 0 ≡ 0
unfolding count_below
count_below-zero p = refl

pub count_below-yes : (p : ℕ → Bool) (n : ℕ) → p n ≡ true → count_below p (suc n) ≡ count_below p n + 1
unfolding count_below
count_below-yes p n h = ap (λ b. count_below p n + cond b 1 0) h

pub count_below-no : (p : ℕ → Bool) (n : ℕ) → p n ≡ false → count_below p (suc n) ≡ count_below p n
unfolding count_below
count_below-no p n h = ap (λ b. count_below p n + cond b 1 0) h ∙ omega arith

-- one more number adds at most one
pub count_below-step : (p : ℕ → Bool) (n : ℕ) → (count_below p n ≤ count_below p (suc n)) × (count_below p (suc n) ≤ count_below p n + 1)
count_below-step p n =
    let at : (b : Bool) → p n ≡ b → (count_below p n ≤ count_below p (suc n)) × (count_below p (suc n) ≤ count_below p n + 1) =
    λ b. elim b as (λ b. p n ≡ b → (count_below p n ≤ count_below p (suc n)) × (count_below p (suc n) ≤ count_below p n + 1)) [
      | true ↦ λ h. let e = count_below-yes p n h in (omega arith, omega arith)
      | false ↦ λ h. let e = count_below-no p n h in (omega arith, omega arith)
    ] in
    at (p n) refl

pub count_below-le : (p : ℕ → Bool) (n : ℕ) → count_below p n ≤ n
count_below-le p zero = let e = count_below-zero p in omega arith
count_below-le p (suc n) = let h = count_below-step p n in let i = count_below-le p n in omega arith

pub count_below-add : (p : ℕ → Bool) (n k : ℕ) → count_below p n ≤ count_below p (k + n)
count_below-add p n zero = let f = ap (λ x. count_below p x) (zero-add n) in omega arith
count_below-add p n (suc k) =
    let h = count_below-step p (k + n) in
    let i = count_below-add p n k in
    let e : suc k + n ≡ suc (k + n) = omega arith in
    let f = ap (λ x. count_below p x) e in
    omega arith

pub count_below-mono : (p : ℕ → Bool) (m n : ℕ) → m ≤ n → count_below p m ≤ count_below p n
count_below-mono p m n h =
    let e : (n - m) + m ≡ n = omega arith in
    let f = ap (λ x. count_below p x) e in
    let i = count_below-add p m (n - m) in
    omega arith

-- a number that passes has its own number, below the count of all
pub count_below-lt : (p : ℕ → Bool) (m n : ℕ) → p m ≡ true → m < n → count_below p m < count_below p n
count_below-lt p m n h lt =
    let e = count_below-yes p m h in
    let i = count_below-mono p (suc m) n (omega arith) in
    omega arith

-- two that pass with one number are one
pub count_below-unique : (p : ℕ → Bool) (m n : ℕ) → p m ≡ true → p n ≡ true → count_below p m ≡ count_below p n → m ≡ n
count_below-unique p m n hm hn e =
    elim (cases_lt m n) [
      | inl lt ↦ let i = count_below-lt p m n hm lt in omega arith
      | inr ge ↦ elim (cases_lt n m) [
        | inl gt ↦ let i = count_below-lt p n m hn gt in omega arith
        | inr le ↦ omega arith
      ]
    ]

-- a formula that begins at 0 and rises by one exactly where the test passes is the count
pub count_below-is : (p : ℕ → Bool) (f : ℕ → ℕ) (n : ℕ) → f 0 ≡ 0 → ((x : ℕ) → x < n → f (suc x) ≡ f x + one_if (p x)) → count_below p n ≡ f n
unfolding count_below
count_below-is p f zero z s = sym z
count_below-is p f (suc n) z s =
    let i = count_below-is p f n z (λ x h. s x (omega arith)) in
    ap (λ k. k + cond (p n) 1 0) i ∙ sym (s n (omega arith))

pub count_below-same : (p q : ℕ → Bool) (n : ℕ) → ((x : ℕ) → x < n → p x ≡ q x) → count_below p n ≡ count_below q n
unfolding count_below
count_below-same p q n h =
    count_below-is p (count_below q) n refl (λ x l. ap (λ b. count_below q x + cond b 1 0) (sym (h x l)))

-- counting on from `k`
pub count_below-shift : (p : ℕ → Bool) (k n : ℕ) → count_below (λ x. p (x + k)) n + count_below p k ≡ count_below p (n + k)
unfolding count_below
count_below-shift p k zero = let f = ap (λ x. count_below p x) (zero-add k) in omega arith
count_below-shift p k (suc n) =
    let i = count_below-shift p k n in
    let e : suc n + k ≡ suc (n + k) = omega arith in
    let f = ap (λ x. count_below p x) e in
    let g : count_below p (suc (n + k)) ≡ count_below p (n + k) + cond (p (n + k)) 1 0 = refl in
    omega arith

-- the numbers from `lo` on and below `hi`
pub span_count : ℕ → ℕ → ℕ → ℕ
span_count lo hi n = min n hi - min n lo

span_step : (lo hi x : ℕ) → lo ≤ hi → min (suc x) hi - min (suc x) lo ≡ (min x hi - min x lo) + one_if (nat_le lo x && nat_lt x hi)
span_step lo hi x h = grind (arith, nat_tests)

pub count_below-span : (p : ℕ → Bool) (lo hi n : ℕ) → lo ≤ hi → ((x : ℕ) → x < n → p x ≡ (nat_le lo x && nat_lt x hi)) → count_below p n ≡ min n hi - min n lo
count_below-span p lo hi n h s =
    count_below-is p (λ n. min n hi - min n lo) n (omega arith) (λ x l. span_step lo hi x h ∙ ap (λ b. (min x hi - min x lo) + one_if b) (sym (s x l)))

-- where `r` passes and has the count of `g`, it is the least from `g` on that passes
pub least_from : (p : ℕ → Bool) (g r : ℕ) → p r ≡ true → count_below p r ≡ count_below p g → g ≤ r
least_from p g r h e =
    elim (cases_lt r g) [ inl lt ↦ let i = count_below-lt p r g h lt in absurd (omega arith) | inr ge ↦ ge ]

pub none_between : (p : ℕ → Bool) (g r x : ℕ) → count_below p r ≤ count_below p g → g ≤ x → x < r → p x ≡ true → ⊥
none_between p g r x e gx xr h =
    let i = count_below-lt p x r h xr in
    let k = count_below-mono p g x gx in
    omega arith

-- a number passes exactly where the next count is greater
pub count_below-tells : (p : ℕ → Bool) (n : ℕ) → p n ≡ nat_lt (count_below p n) (count_below p (n + 1))
count_below-tells p n = rw add-one (tells (p n) refl)
  where
    tells : (b : Bool) → p n ≡ b → p n ≡ nat_lt (count_below p n) (count_below p (suc n))
    tells true h = let e = count_below-yes p n h in grind (arith, nat_tests)
    tells false h = let e = count_below-no p n h in grind (arith, nat_tests)
