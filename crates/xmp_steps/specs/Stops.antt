-- What number of steps leads to a stop. These lemmas stand here since a ghost field may cite them.
use Rattle.std.proofs.Common.{◌≡◌, ℕ, zero, suc, true, is_some, ◌<◌, ◌≤◌, ◌+◌, ◌-◌, Option, Some, None, IsSome, true≢false, refl, sym, ap, arith, ◌∙◌, inl, inr, le_of_lt}
use Rattle.std.proofs.lemmas.Bool.{cases_lt}
use Rattle.xmp_steps.specs.Machine.{Next, Goes, Stops, Stuck, within, left, Ends}

pub at_goes : {S P : Type 0} (next : S → Next S P) (n : ℕ) (s t : S) → next s ≡ Goes t →
    within next (suc n) s ≡ within next n t
at_goes next n s t e = rw (e, within)

left_goes : {S P : Type 0} (next : S → Next S P) (n : ℕ) (s t : S) → next s ≡ Goes t →
    left next (suc n) s ≡ suc (left next n t)
left_goes next n s t e = rw (e, left)

pub at_stops : {S P : Type 0} (next : S → Next S P) (n : ℕ) (s : S) (p : P) → next s ≡ Stops p →
    within next n s ≡ Some (p, s)
at_stops next zero s p e = rw (e, within)
at_stops next (suc n) s p e = rw (e, within)

left_stops : {S P : Type 0} (next : S → Next S P) (n : ℕ) (s : S) (p : P) → next s ≡ Stops p → left next n s ≡ 0
left_stops next zero s p e = refl
left_stops next (suc n) s p e = rw (e, left)

pub at_stuck : {S P : Type 0} (next : S → Next S P) (n : ℕ) (s : S) → next s ≡ Stuck → within next n s ≡ None
at_stuck next zero s e = rw (e, within)
at_stuck next (suc n) s e = rw (e, within)

pub none_some : {A : Type 0} (o : Option A) (r : A) → o ≡ None → o ≡ Some r → ⊥
none_some o r e f = cc

pub some_inj : {A : Type 0} {x y : A} → Some x ≡ Some y → x ≡ y
some_inj e = cc

-- one step more finds the same stop, as far away
more_zero : {S P : Type 0} (next : S → Next S P) (s : S) (r : P × S) → within next 0 s ≡ Some r → (x : Next S P) →
    next s ≡ x →
    (within next 1 s ≡ Some r) × (left next 1 s ≡ 0)
more_zero next s r h (Goes t) e = absurd (none_some (within next 0 s) r (rw (e, within)) h)
more_zero next s r h (Stops p) e = (at_stops next 1 s p e ∙ sym (at_stops next 0 s p e) ∙ h, left_stops next 1 s p e)
more_zero next s r h Stuck e = absurd (none_some (within next 0 s) r (at_stuck next 0 s e) h)

more_suc : {S P : Type 0} (next : S → Next S P) (n : ℕ) (s : S) (r : P × S) → within next (suc n) s ≡ Some r →
    ((t : S) → within next n t ≡ Some r → (within next (suc n) t ≡ Some r) × (left next (suc n) t ≡ left next n t)) →
    (x : Next S P) → next s ≡ x →
    (within next (suc (suc n)) s ≡ Some r) × (left next (suc (suc n)) s ≡ left next (suc n) s)
more_suc next n s r h ih (Goes t) e =
    let go = ih t (sym (at_goes next n s t e) ∙ h) in
    (at_goes next (suc n) s t e ∙ go.0, left_goes next (suc n) s t e ∙ ap (λ m. suc m) go.1 ∙ sym (left_goes next n s t e))
more_suc next n s r h ih (Stops p) e = (at_stops next (suc (suc n)) s p e ∙ sym (at_stops next (suc n) s p e) ∙ h, left_stops next (suc (suc n)) s p e ∙ sym (left_stops next (suc n) s p e))
more_suc next n s r h ih Stuck e = absurd (none_some (within next (suc n) s) r (at_stuck next (suc n) s e) h)

pub more : {S P : Type 0} (next : S → Next S P) (n : ℕ) (s : S) (r : P × S) → within next n s ≡ Some r →
    (within next (suc n) s ≡ Some r) × (left next (suc n) s ≡ left next n s)
more next zero s r h = more_zero next s r h (next s) refl
more next (suc n) s r h = more_suc next n s r h (λ t h'. more next n t r h') (next s) refl

-- A step comes nearer to the same stop.
pub nearer : {S P : Type 0} (next : S → Next S P) (n : ℕ) (s t : S) (r : P × S) → within next n s ≡ Some r →
    next s ≡ Goes t →
    (within next n t ≡ Some r) × (left next n t < left next n s)
nearer next zero s t r h e = absurd (none_some (within next 0 s) r (rw (e, within)) h)
nearer next (suc n) s t r h e =
    let h' = sym (at_goes next n s t e) ∙ h in
    let m = more next n t r h' in
    (m.0, (let l = left_goes next n s t e in let l' = m.1 in omega arith))

pub here : {S P : Type 0} (next : S → Next S P) (n : ℕ) (s : S) (p : P) → next s ≡ Stops p →
    within next n s ≡ Some (p, s)
here next n s p e = at_stops next n s p e

pub some_value : {A : Type 0} (o : Option A) → IsSome o → (r : A) × (o ≡ Some r)
some_value None h = absurd (true≢false (sym h))
some_value (Some r) h = (r, refl)

pub step_on : {S P : Type 0} (next : S → Next S P) (n : ℕ) (s t : S) (o : Option (P × S)) → within next n s ≡ o →
    IsSome o → next s ≡ Goes t →
    (within next n t ≡ o) × (left next n t < left next n s)
step_on next n s t o h some e =
    let r = some_value o some in
    let f = nearer next n s t r.0 (h ∙ r.1) e in
    (f.0 ∙ sym r.1, f.1)

pub up : ℕ → ℕ → ℕ
up zero n = n
up (suc k) n = suc (up k n)

pub up_add : (k n : ℕ) → up k n ≡ k + n
unfolding up
up_add zero n = omega arith
up_add (suc k) n = let h = up_add k n in omega arith

pub more_by : {S P : Type 0} (next : S → Next S P) (n : ℕ) (s : S) (r : P × S) → within next n s ≡ Some r → (k : ℕ) →
    (within next (up k n) s ≡ Some r) × (left next (up k n) s ≡ left next n s)
unfolding up
more_by next n s r h zero = (h, refl)
more_by next n s r h (suc k) = let b = more_by next n s r h k in let m = more next (up k n) s r b.0 in (m.0, m.1 ∙ b.1)

same_left : {S P : Type 0} (next : S → Next S P) (s : S) (n m : ℕ) → n ≤ m → is_some (within next n s) ≡ true →
    left next m s ≡ left next n s
same_left next s n m le some =
    let r = some_value (within next n s) some in
    let b = more_by next n s r.0 r.1 (m - n) in
    let e : up (m - n) n ≡ m = omega (arith, up_add (m - n) n) in
    ap (λ k. left next k s) (sym e) ∙ b.1

pub alike : {S P : Type 0} (next : S → Next S P) (s : S) (u v : Ends next s) → u.0 ≡ v.0
alike next s u v = elim (cases_lt u.0 v.0) [
  | inl less ↦ sym (sym v.1.1 ∙ same_left next s u.0 v.0 (le_of_lt less) u.1.0 ∙ u.1.1)
  | inr back ↦ sym u.1.1 ∙ same_left next s v.0 u.0 back v.1.0 ∙ v.1.1
]

exact_suc : {S P : Type 0} (next : S → Next S P) (n : ℕ) (s : S) (r : P × S) → within next (suc n) s ≡ Some r →
    ((t : S) → within next n t ≡ Some r → (within next (left next n t) t ≡ Some r) × (left next (left next n t) t ≡ left next n t)) →
    (x : Next S P) → next s ≡ x →
    (within next (left next (suc n) s) s ≡ Some r) × (left next (left next (suc n) s) s ≡ left next (suc n) s)
exact_suc next n s r h ih (Goes t) e =
    let i = ih t (sym (at_goes next n s t e) ∙ h) in
    rw (left_goes next n s t e) (at_goes next (left next n t) s t e ∙ i.0, left_goes next (left next n t) s t e ∙ ap (λ m. suc m) i.1)
exact_suc next n s r h ih (Stops p) e = rw (left_stops next (suc n) s p e) (at_stops next 0 s p e ∙ sym (at_stops next (suc n) s p e) ∙ h, refl)
exact_suc next n s r h ih Stuck e = absurd (none_some (within next (suc n) s) r (at_stuck next (suc n) s e) h)

exact : {S P : Type 0} (next : S → Next S P) (n : ℕ) (s : S) (r : P × S) → within next n s ≡ Some r →
    (within next (left next n s) s ≡ Some r) × (left next (left next n s) s ≡ left next n s)
exact next zero s r h = (h, refl)
exact next (suc n) s r h = exact_suc next n s r h (λ t h'. exact next n t r h') (next s) refl

-- any number of steps within which a stop comes gives that one
pub ends_of : {S P : Type 0} (next : S → Next S P) (s : S) (n : ℕ) → is_some (within next n s) ≡ true → Ends next s
ends_of next s n some = let r = some_value (within next n s) some in let x = exact next n s r.0 r.1 in (left next n s, (ap is_some x.0, x.1))

stop_suc : {S P : Type 0} (next : S → Next S P) (n : ℕ) (s t : S) (p : P) → within next (suc n) s ≡ Some (p, t) →
    ((x : S) → within next n x ≡ Some (p, t) → next t ≡ Stops p) →
    (x : Next S P) → next s ≡ x → next t ≡ Stops p
stop_suc next n s t p h ih (Goes x) e = ih x (sym (at_goes next n s x e) ∙ h)
stop_suc next n s t p h ih (Stops q) e =
    let same : Some (q, s) ≡ Some (p, t) = sym (at_stops next (suc n) s q e) ∙ h in
    let pairs = some_inj same in
    ap next (sym (ap (λ u. u.1) pairs)) ∙ e ∙ ap (λ q. Stops q) (ap (λ u. u.0) pairs)
stop_suc next n s t p h ih Stuck e = absurd (none_some (within next (suc n) s) (p, t) (at_stuck next (suc n) s e) h)

stop_zero : {S P : Type 0} (next : S → Next S P) (s t : S) (p : P) → within next 0 s ≡ Some (p, t) → (x : Next S P) →
    next s ≡ x → next t ≡ Stops p
stop_zero next s t p h (Goes x) e = absurd (none_some (within next 0 s) (p, t) (rw (e, within)) h)
stop_zero next s t p h (Stops q) e =
    let same : Some (q, s) ≡ Some (p, t) = sym (at_stops next 0 s q e) ∙ h in
    let pairs = some_inj same in
    ap next (sym (ap (λ u. u.1) pairs)) ∙ e ∙ ap (λ q. Stops q) (ap (λ u. u.0) pairs)
stop_zero next s t p h Stuck e = absurd (none_some (within next 0 s) (p, t) (at_stuck next 0 s e) h)

-- a stop that was found is one
pub stop_is : {S P : Type 0} (next : S → Next S P) (n : ℕ) (s t : S) (p : P) → within next n s ≡ Some (p, t) →
    next t ≡ Stops p
stop_is next zero s t p h = stop_zero next s t p h (next s) refl
stop_is next (suc n) s t p h = stop_suc next n s t p h (λ x h'. stop_is next n x t p h') (next s) refl

pub ends_there : {S P : Type 0} (next : S → Next S P) (n : ℕ) (s t : S) (p : P) → within next n s ≡ Some (p, t) →
    Ends next t
ends_there next n s t p h = (0, (ap is_some (at_stops next 0 t p (stop_is next n s t p h)), refl))
