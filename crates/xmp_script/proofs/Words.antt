-- What accesses leave at a word.
use Rattle.std.proofs.Common.{◌≡◌, ◌≢◌, ℕ, zero, suc, ◌<◌, List, [], ◌∷◌, take, slice_get, Some, None, refl, sym, ap, ◌∙◌, subst, arith, ◌⊎◌, inl, inr}
use Rattle.std.proofs.lemmas.Bool.{cases_eq}
use Rattle.xmp_script.specs.Script.{Access, Get, Put, Script, at, after, after_all, after_images, IsPutTo, IsTo, Puts}

pub at_same : {A : Type 0} → (f : ℕ → A) (k : ℕ) (v : A) (j : ℕ) → j ≡ k → at f k v j ≡ v
at_same f k v j e = grind arith

pub at_other : {A : Type 0} → (f : ℕ → A) (k : ℕ) (v : A) (j : ℕ) → j ≢ k → at f k v j ≡ f j
at_other f k v j ne = grind arith

pub some_inj : {A : Type 0} {x y : A} → Some x ≡ Some y → x ≡ y
some_inj e = cc

-- one access more
pub next_seen : {V : Type 0} (l : List (Access V)) (i : ℕ) (a : Access V) (m : ℕ → V) → slice_get l i ≡ Some a →
    after_all m (take (suc i) l) ≡ after (after_all m (take i l)) a
next_seen [] i a m e = absurd (let h : None ≡ Some a = e in (cc))
next_seen (x ∷ l) zero a m e = ap (after m) (some_inj e)
next_seen (x ∷ l) (suc i) a m e = next_seen l i a (after m x) e

-- what an access leaves at a word depends on that word alone
pub after_local : {V : Type 0} (a : Access V) (m n : ℕ → V) (e : ℕ) → m e ≡ n e → after m a e ≡ after n a e
after_local (Get x) m n e h = h
after_local (Put x v) m n e h = elim (cases_eq e x) [ inl eq ↦ at_same m x v e eq ∙ sym (at_same n x v e eq) | inr ne ↦ at_other m x v e ne ∙ h ∙ sym (at_other n x v e ne) ]

pub all_local : {V : Type 0} (l : List (Access V)) (m n : ℕ → V) (e : ℕ) → m e ≡ n e → after_all m l e ≡ after_all n l e
all_local [] m n e h = h
all_local (a ∷ l) m n e h = all_local l (after m a) (after n a) e (after_local a m n e h)

pub no_put : {V : Type 0} (a : Access V) (m : ℕ → V) (e : ℕ) → (IsPutTo e a → ⊥) → after m a e ≡ m e
no_put (Get x) m e none = refl
no_put (Put x v) m e none = at_other m x v e (λ eq. none (sym eq))

pub no_puts : {V : Type 0} (l : List (Access V)) (m : ℕ → V) (e : ℕ) →
    ((i : ℕ) (a : Access V) → slice_get l i ≡ Some a → IsPutTo e a → ⊥) → after_all m l e ≡ m e
no_puts [] m e none = refl
no_puts (a ∷ l) m e none = no_puts l (after m a) e (λ i b at-i p. none (suc i) b at-i p) ∙ no_put a m e (none 0 a refl)

is_put : {V : Type 0} (e : ℕ) (a : Access V) → IsPutTo e a ⊎ (IsPutTo e a → ⊥)
is_put e (Get x) = inr (λ p. p)
is_put e (Put x v) = cases_eq x e

pub some_put : {V : Type 0} (l : List (Access V)) (e : ℕ) →
    ((i : ℕ) × (a : Access V) × (slice_get l i ≡ Some a) × IsPutTo e a) ⊎
    ((i : ℕ) (a : Access V) → slice_get l i ≡ Some a → IsPutTo e a → ⊥)
some_put [] e = inr (λ i a at-i p. let h : None ≡ Some a = at-i in (cc))
some_put (a ∷ l) e = elim (is_put e a) [
  | inl p ↦ inl (0, a, refl, p)
  | inr none ↦ elim (some_put l e) [
    | inl found ↦ inl (suc found.0, found.1, found.2, found.3)
    | inr nowhere ↦ inr (neither l e a none nowhere)
  ]
]
  where
    neither : {V : Type 0} (l : List (Access V)) (e : ℕ) (a : Access V) → (IsPutTo e a → ⊥) →
        ((i : ℕ) (b : Access V) → slice_get l i ≡ Some b → IsPutTo e b → ⊥) →
        (i : ℕ) (b : Access V) → slice_get (a ∷ l) i ≡ Some b → IsPutTo e b → ⊥
    neither {V} l e a none nowhere zero b at-i p = (let P : Access V → Type 0 = λ x. IsPutTo e x in none (subst P (sym (some_inj at-i)) p))
    neither l e a none nowhere (suc i) b at-i p = nowhere i b at-i p

pub put_touches : {V : Type 0} (e : ℕ) (a : Access V) → IsPutTo e a → IsTo e a
put_touches e (Get x) p = absurd p
put_touches e (Put x v) p = p

-- some image below n puts the word, or none
pub some_image : {V : Type 0} (s : Script V) (q e n : ℕ) → ((j : ℕ) × (j < n) × Puts s q j e) ⊎
    ((j : ℕ) → j < n → Puts s q j e → ⊥)
some_image s q e zero = inr (λ j lt p. omega arith)
some_image s q e (suc n) = elim (some_image s q e n) [
  | inl found ↦ inl (found.0, (let h = found.1 in omega arith), found.2)
  | inr nobody ↦ elim (some_put (s.accesses q n) e) [
    | inl here ↦ inl (n, omega arith, here)
    | inr not-here ↦ inr (λ j lt p. elim (cases_eq j n) [
      | inl eq ↦ (let P : ℕ → Type 0 = λ x. Puts s q x e in let p' = subst P eq p in not-here p'.0 p'.1 p'.2 p'.3)
      | inr ne ↦ nobody j (omega arith) p
    ])
  ]
]

pub images_none : {V : Type 0} (s : Script V) (q e n : ℕ) (m : ℕ → V) → ((j : ℕ) → j < n → Puts s q j e → ⊥) →
    after_images s q n m e ≡ m e
images_none s q e zero m none = refl
images_none s q e (suc n) m none =
    no_puts (s.accesses q n) (after_images s q n m) e (λ i a at-i p. none n (omega arith) (i, a, at-i, p)) ∙ images_none s q e n m (λ j lt p. none j (omega arith) p)

pub images_one : {V : Type 0} (s : Script V) (q e n j : ℕ) (m : ℕ → V) → j < n →
    ((i : ℕ) → i < n → i ≢ j → Puts s q i e → ⊥) → after_images s q n m e ≡ after_all m (s.accesses q j) e
images_one s q e zero j m lt others = absurd (omega arith)
images_one s q e (suc n) j m lt others = elim (cases_eq j n) [
  | inl eq ↦ (let P : ℕ → Type 0 = λ x. after_images s q (suc n) m e ≡ after_all m (s.accesses q x) e in
      subst P (sym eq) (all_local (s.accesses q n) (after_images s q n m) m e (images_none s q e n m (λ i li p. others i (omega arith) (omega arith) p))))
  | inr ne ↦ no_puts (s.accesses q n) (after_images s q n m) e (λ i a at-i p. others n (omega arith) (λ eq. ne (sym eq)) (i, a, at-i, p))
      ∙ images_one s q e n j m (omega arith) (λ i li ni p. others i (omega arith) ni p)
]
