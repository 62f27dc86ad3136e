-- Stops that are found within a number of steps, and stops that the machine comes to.
use Rattle.std.proofs.Common.{◌≡◌, ℕ, zero, suc, Bool, true, false, ◌<◌, ◌≤◌, ◌-◌, Option, Some, IsSome, is_some, refl, sym, ap, subst, arith, ◌∙◌, inl, inr, le_of_lt, lt_trans}
use Rattle.std.proofs.lemmas.Bool.{cases_lt, cases_Bool}
use Rattle.xmp_steps.specs.Machine.{Next, Goes, Stops, Stuck, within, left, Steps, One, More, Comes, Now, On, Is, until, turns}
use Rattle.xmp_steps.specs.Stops.{at_goes, at_stops, at_stuck, none_some, some_inj, up, up_add, more_by, step_on}

-- a larger bound finds the same stop
pub more_finds : {S P : Type 0} (next : S → Next S P) (s : S) (n m : ℕ) (x : P × S) → n ≤ m → within next n s ≡ Some x →
    within next m s ≡ Some x
more_finds next s n m x le h =
    let e : up (m - n) n ≡ m = omega (arith, up_add (m - n) n) in
    ap (λ k. within next k s) (sym e) ∙ (more_by next n s x h (m - n)).0

-- one stop alone is found
pub one_stop : {S P : Type 0} (next : S → Next S P) (s : S) (n m : ℕ) (x y : P × S) → within next n s ≡ Some x →
    within next m s ≡ Some y → x ≡ y
one_stop next s n m x y h g = elim (cases_lt n m) [
  | inl less ↦ some_inj (sym (more_finds next s n m x (le_of_lt less) h) ∙ g)
  | inr back ↦ some_inj (sym h ∙ more_finds next s m n y back g)
]

-- several steps come nearer to the same stop
pub steps_on : {S P : Type 0} (next : S → Next S P) (n : ℕ) (s t : S) (o : Option (P × S)) → IsSome o →
    within next n s ≡ o → Steps next s t →
    (within next n t ≡ o) × (left next n t < left next n s)
steps_on next n s t o some h (One e) = step_on next n s t o h some e
steps_on next n s u o some h (More {t = t} e r) =
    let a = step_on next n s t o h some e in
    let b = steps_on next n t u o some a.0 r in
    (b.0, lt_trans b.1 a.1)

-- what the machine comes to from where it has come
pub comes_on : {S P : Type 0} {next : S → Next S P} {goal then_goal : S → Type 0} {s : S} → Comes next goal s →
    ((t : S) → goal t → Comes next then_goal t) → Comes next then_goal s
comes_on (Now is) onward = onward _ is
comes_on (On e r) onward = On e (comes_on r onward)

-- one run of steps behind another
pub steps_join : {S P : Type 0} {next : S → Next S P} {s t u : S} → Steps next s t → Steps next t u → Steps next s u
steps_join (One e) r = More e r
steps_join (More e q) r = More e (steps_join q r)

-- a run of steps, and then what the machine comes to
pub steps_come : {S P : Type 0} {next : S → Next S P} {goal : S → Type 0} {s t : S} → Steps next s t →
    Comes next goal t → Comes next goal s
steps_come (One e) c = On e c
steps_come (More e q) c = On e (steps_come q c)

comes_zero : {S P : Type 0} (next : S → Next S P) (s t : S) (p : P) → within next 0 s ≡ Some (p, t) → (x : Next S P) →
    next s ≡ x → Comes next (Is t) s
comes_zero next s t p h (Goes u) e = absurd (none_some (within next 0 s) (p, t) (rw (e, within)) h)
comes_zero next s t p h (Stops q) e = Now (ap (λ u. u.1) (some_inj (sym (at_stops next 0 s q e) ∙ h)))
comes_zero next s t p h Stuck e = absurd (none_some (within next 0 s) (p, t) (at_stuck next 0 s e) h)

comes_suc : {S P : Type 0} (next : S → Next S P) (n : ℕ) (s t : S) (p : P) → within next (suc n) s ≡ Some (p, t) →
    ((u : S) → within next n u ≡ Some (p, t) → Comes next (Is t) u) →
    (x : Next S P) → next s ≡ x → Comes next (Is t) s
comes_suc next n s t p h ih (Goes u) e = On e (ih u (sym (at_goes next n s u e) ∙ h))
comes_suc next n s t p h ih (Stops q) e = Now (ap (λ u. u.1) (some_inj (sym (at_stops next (suc n) s q e) ∙ h)))
comes_suc next n s t p h ih Stuck e = absurd (none_some (within next (suc n) s) (p, t) (at_stuck next (suc n) s e) h)

-- the machine comes to the state that was found
pub found_comes : {S P : Type 0} (next : S → Next S P) (n : ℕ) (s t : S) (p : P) → within next n s ≡ Some (p, t) →
    Comes next (Is t) s
found_comes next zero s t p h = comes_zero next s t p h (next s) refl
found_comes next (suc n) s t p h = comes_suc next n s t p h (λ u g. found_comes next n u t p g) (next s) refl

-- a stop that the machine comes to is found
pub comes_found : {S P : Type 0} (next : S → Next S P) (t s : S) (p : P) → Comes next (Is t) s → next t ≡ Stops p →
    (n : ℕ) × (within next n s ≡ Some (p, t))
comes_found {S} {P} next t s p (Now is) e =
    let Q : S → Type 0 = λ u. within next 0 u ≡ Some (p, t) in
    (0, subst Q (sym is) (at_stops next 0 t p e))
comes_found next t s p (On {t = u} g r) e =
    let h = comes_found next t u p r e in
    (suc h.0, at_goes next h.0 s u g ∙ h.1)

turn_on : {S : Type 0} (done : S → Bool) (turn : S → S) (s : S) → done s ≡ false → until done turn s ≡ Goes (turn s)
turn_on done turn s e = rw (e, until)

turn_done : {S : Type 0} (done : S → Bool) (turn : S → S) (s : S) → done s ≡ true → until done turn s ≡ Stops tt
turn_done done turn s e = rw (e, until)

-- a loop whose test holds after n turns comes to its end
pub loops_end : {S : Type 0} (done : S → Bool) (turn : S → S) (n : ℕ) (s : S) → done (turns turn n s) ≡ true →
    IsSome (within (until done turn) n s)
loops_end done turn zero s e = ap is_some (at_stops (until done turn) 0 s tt (turn_done done turn s e))
loops_end done turn (suc n) s e = elim (cases_Bool (done s)) [
  | inl here ↦ ap is_some (at_stops (until done turn) (suc n) s tt (turn_done done turn s here))
  | inr on ↦ ap is_some (at_goes (until done turn) n s (turn s) (turn_on done turn s on)) ∙ loops_end done turn n (turn s) e
]
