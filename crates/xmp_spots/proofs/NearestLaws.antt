-- One refusal more among the nearest.
use Rattle.std.proofs.Common.{◌≡◌, ℕ, Bool, true, false, not, Option, Some, None, refl, sym, ap, ◌∙◌, subst, arith, if◌then◌else◌, cond, ◌⊎◌, ⊎_elim}
use Rattle.std.proofs.lemmas.Bool.{false≢true, true≢false, eqb-true, cases_Bool}
use Rattle.std.proofs.lemmas.Bool.Decides.{nat_tests}
use Rattle.std.specs.Prelude.{◌==◌}
use Rattle.xmp_base.specs.declared.refusal.Refusal.{Refusal}
use Rattle.xmp_base.specs.First.{comes_first, first_of}
use Rattle.xmp_spots.specs.declared.touches.By.{By}
use Rattle.xmp_spots.specs.declared.touches.By.TheVariants.{One, Several}
use Rattle.xmp_spots.specs.Clashes.{by_two}
use Rattle.xmp_spots.specs.Nearest.{leads, noted}

total : (a b : Refusal) → comes_first a b ≡ false → comes_first b a ≡ true
total a b h = grind (arith, nat_tests)

through : (a b c : Refusal) → comes_first a b ≡ true → comes_first b c ≡ true → comes_first a c ≡ true
through a b c h k = grind (arith, nat_tests)

apart : (a b c : Refusal) → comes_first a b ≡ true → comes_first a c ≡ false → comes_first b c ≡ false
apart a b c h k = ⊎_elim (λ e. absurd (false≢true (sym k ∙ through a b c h e))) (λ e. e) (cases_Bool (comes_first b c))

pub by_is : (a b : By) → by_two a b ≡ false → a ≡ b
by_is (One x) (One y) h = ap One (eqb-true x y (⊎_elim (λ e. e) (λ e. absurd (true≢false (sym (ap not e) ∙ h))) (cases_Bool (x == y))))
by_is (One x) Several h = absurd (true≢false h)
by_is Several b h = absurd (true≢false h)

pub leads_wide : (first r : Refusal) → comes_first first r ≡ false → leads r (Some first) ≡ true
leads_wide first r h = total first r h

pub leads_same : (first r : Refusal) (other : Option Refusal) → comes_first first r ≡ false → leads first other ≡ true → leads r other ≡ true
leads_same first r None h k = refl
leads_same first r (Some o) h k = through r first o (total first r h) k

last_of : (x r : Refusal) → comes_first x r ≡ false → Some r ≡ first_of (Some x) (Some r)
last_of x r h = ap (λ (t : Bool). if t then Some x else Some r) (sym h)

last_behind : (first r : Refusal) (other : Option Refusal) → leads first other ≡ true → comes_first first r ≡ false → Some r ≡ first_of other (Some r)
last_behind first r None k h = refl
last_behind first r (Some o) k h = last_of o r (apart first o r k h)

pub led_wide : (by nby : By) (first r : Refusal) (other : Option Refusal) → leads first other ≡ true → comes_first first r ≡ false →
    by_two by nby ≡ true → (q : By) →
    (if by_two q by then Some r else Some first) ≡ noted (by_two q by) r (if by_two q nby then Some first else other)
led_wide by nby first r other k h w q = case (by_two q by) refl (by_two q nby) refl
  where
    case : (t : Bool) → by_two q by ≡ t → (u : Bool) → by_two q nby ≡ u →
        (if t then Some r else Some first) ≡ noted t r (if u then Some first else other)
    case true e true f = last_of first r h
    case true e false f = last_behind first r other k h
    case false e true f = refl
    case false e false f = absurd (true≢false (sym w ∙ (ap (λ x. by_two x nby) (sym (by_is q by e)) ∙ f)))

pub led_same : (by nby : By) (first r : Refusal) (other : Option Refusal) → comes_first first r ≡ false → by_two by nby ≡ false → (q : By) →
    (if by_two q nby then Some r else other) ≡ noted (by_two q by) r (if by_two q nby then Some first else other)
led_same by nby first r other h w q =
    subst (λ x. (if by_two q nby then Some r else other) ≡ noted (by_two q x) r (if by_two q nby then Some first else other))
    (sym (by_is by nby w)) (case (by_two q nby))
  where
    case : (t : Bool) → (if t then Some r else other) ≡ noted t r (if t then Some first else other)
    case true = last_of first r h
    case false = refl
