-- A machine that is fed at its stops, and the plain machine's list of stops.
use Rattle.std.proofs.Common.{◌≡◌, suc, Option, Some, None, refl, sym, ap, subst, ◌∙◌}
use Rattle.xmp_steps.specs.Machine.{Next, Goes, Stops, Stuck, within, Comes, Now, On, Is, resumed, fed_of, fed, Stopping, Last, Resumes}

further : {S P : Type 0} {next : S → Next S P} {resume : P → S → Option S} {goal : S → Type 0} {s t : S} →
    next s ≡ Goes t → Stopping next resume goal t → Stopping next resume goal s
further {next} {s} e (Last n p t w r g) = Last (suc n) p t (ap (λ o. elim o [ Goes t ↦ within next n t | Stops p ↦ Some (p, s) | Stuck ↦ None ]) e ∙ w) r g
further {next} {s} e (Resumes n p t u w r m) = Resumes (suc n) p t u (ap (λ o. elim o [ Goes t ↦ within next n t | Stops p ↦ Some (p, s) | Stuck ↦ None ]) e ∙ w) r m

abbrev Going : (S P : Type 0) → S → Next S P
Going S P s = Goes s

goes_inj : (S P : Type 0) (s t : S) → Going S P s ≡ Going S P t → s ≡ t
goes_inj S P s t h = cc

at_once : {S P : Type 0} (next : S → Next S P) (s : S) (p : P) → next s ≡ Stops p → within next 0 s ≡ Some (p, s)
at_once next s p e = ap (λ o. elim o [ Goes t ↦ None | Stops p ↦ Some (p, s) | Stuck ↦ None ]) e

last_at : {S P : Type 0} (next : S → Next S P) (resume : P → S → Option S) (goal : S → Type 0) (s : S) → goal s →
    (p : P) → next s ≡ Stops p → (r : Option S) → resume p s ≡ r → (q : P) → resumed r p ≡ Stops q →
    Stopping next resume goal s
last_at next resume goal s g p e (Some t) r q h = absurd (let z : ⊥ = cc in z)
last_at next resume goal s g p e None r q h = Last 0 p s (at_once next s p e) r g

last_of : {S P : Type 0} (next : S → Next S P) (resume : P → S → Option S) (goal : S → Type 0) (s : S) → goal s →
    (o : Next S P) → next s ≡ o → (q : P) → fed_of resume s o ≡ Stops q → Stopping next resume goal s
last_of next resume goal s g (Goes t) e q h = absurd (let z : ⊥ = cc in z)
last_of next resume goal s g (Stops p) e q h = last_at next resume goal s g p e (resume p s) refl q h
last_of next resume goal s g Stuck e q h = absurd (let z : ⊥ = cc in z)

more_at : {S P : Type 0} (next : S → Next S P) (resume : P → S → Option S) (goal : S → Type 0) (s t : S) →
    Stopping next resume goal t → (p : P) → next s ≡ Stops p → (r : Option S) → resume p s ≡ r → resumed r p ≡ Goes t →
    Stopping next resume goal s
more_at {S} {P} next resume goal s t m p e (Some u) r h = Resumes 0 p s u (at_once next s p e) r (subst (Stopping next resume goal) (sym (goes_inj S P u t h)) m)
more_at next resume goal s t m p e None r h = absurd (let z : ⊥ = cc in z)

more_of : {S P : Type 0} (next : S → Next S P) (resume : P → S → Option S) (goal : S → Type 0) (s t : S) →
    Stopping next resume goal t → (o : Next S P) → next s ≡ o → fed_of resume s o ≡ Goes t → Stopping next resume goal s
more_of {S} {P} next resume goal s t m (Goes u) e h = further e (subst (Stopping next resume goal) (sym (goes_inj S P u t h)) m)
more_of next resume goal s t m (Stops p) e h = more_at next resume goal s t m p e (resume p s) refl h
more_of next resume goal s t m Stuck e h = absurd (let z : ⊥ = cc in z)

-- A run of the fed machine is the plain machine's list of stops.
pub stopping : {S P : Type 0} (next : S → Next S P) (resume : P → S → Option S) (goal : S → Type 0) (s : S) →
    ((t : S) → goal t → (q : P) × (fed next resume t ≡ Stops q)) → Comes (fed next resume) goal s →
    Stopping next resume goal s
stopping next resume goal s ends (Now g) = last_of next resume goal s g (next s) refl ((ends s g).0) ((ends s g).1)
stopping next resume goal s ends (On {t} e r) = more_of next resume goal s t (stopping next resume goal t ends r) (next s) refl e

-- the same of one state
pub fed_stops : {S P : Type 0} (next : S → Next S P) (resume : P → S → Option S) (s t : S) (p : P) →
    Comes (fed next resume) (Is t) s → fed next resume t ≡ Stops p → Stopping next resume (Is t) s
fed_stops {S} {P} next resume s t p c e =
    let Q : S → Type 0 = λ u. (q : P) × (fed next resume u ≡ Stops q) in
    stopping next resume (Is t) s (λ u is. subst Q (sym is) (p, e)) c
